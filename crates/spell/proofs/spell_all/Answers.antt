use native.Mathlib.Omega.{arith}
use lib.ListN.{length}
use Rattle.pages.proofs.Books.{pcc_end, generals_end, lines_there, book_runs}
use Rattle.pages.specs.Naming.{cap_piece}
use Rattle.spell.proofs.spell_all.Goals as goal

pub spell_lines-requires : goal.spell_lines-requires
unfolding cap_piece
spell_lines-requires c = let p = lines_there (length c.args.ram.now) (length c.args.tags.now) c.requires in
    (p.0, p.1, omega (arith, generals_end _ _ _ _ _ c.spell_generals-registers.ensures, (pcc_end _ _ _ _ 32 _ c.args.m.pcc c.spell_caps-named.ensures c.name.ensures.value)))

pub returns : goal.returns
unfolding cap_piece
returns c = let a = c.args in
    book_runs a.m a.ram.now a.tags.now a.out.now _ _ _ _ _ _ _ _ _
    c.put_be.ensures c.spell_caps-named.ensures c.name.ensures.value c.name.ensures.out_after
    c.spell_generals-registers.ensures c.spell_lines.ensures

pub overflow_add-all : goal.overflow_add-all
unfolding cap_piece
overflow_add-all c = omega (arith, (pcc_end _ _ _ _ 32 _ c.args.m.pcc c.spell_caps-named.ensures c.name.ensures.value))

pub spell_generals-registers-requires : goal.spell_generals-registers-requires
unfolding cap_piece
spell_generals-registers-requires c = omega (arith, (pcc_end _ _ _ _ 32 _ c.args.m.pcc c.spell_caps-named.ensures c.name.ensures.value))
