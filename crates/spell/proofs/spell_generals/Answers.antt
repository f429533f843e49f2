use Rattle.std.proofs.Common.{rules, arith, ◌≡◌, length, get_or}
use Rattle.pages.specs.Naming.{general_piece}
use Rattle.pages.specs.Spell.{general_pieces}
use Rattle.pages.proofs.Pieces.{general_most}
use Rattle.spell.proofs.spell_generals.Goals as goal

pub returns : goal.returns
unfolding general_pieces general_piece
returns c =
    c.put_each.ensures
    (λ i end n o o' low high e.
    let f : n ≡ length (general_piece i (get_or c.args.general.now i 0)) = search rules in
    omega (arith, f, general_most i (get_or c.args.general.now i 0)))
    (omega arith)
    (λ i. general_piece i (get_or c.args.general.now i 0)) (λ i end n o o' low high e. (search rules, search rules))
