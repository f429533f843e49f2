use Rattle.std.proofs.Common.{rules, arith, ◌≡◌, length, get_or}
use Rattle.manual.specs.Narrow.{null}
use Rattle.pages.specs.Naming.{cap_piece}
use Rattle.pages.specs.Spell.{cap_pieces}
use Rattle.pages.proofs.Pieces.{cap_most}
use Rattle.spell.proofs.spell_caps.Goals as goal

pub returns : goal.returns
unfolding cap_pieces cap_piece
returns c =
    c.put_each.ensures
    (λ i end n o o' low high e.
    let f : n ≡ length (cap_piece i (get_or c.args.caps.now i null)) = search rules in
    omega (arith, f, cap_most i (get_or c.args.caps.now i null)))
    (omega arith)
    (λ i. cap_piece i (get_or c.args.caps.now i null)) (λ i end n o o' low high e. (search rules, search rules))
