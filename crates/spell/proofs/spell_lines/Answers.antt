use Rattle.std.proofs.Common.{rules, arith, ℕ, ◌≡◌, ◌+◌, ◌*◌, ◌-◌, length, take, drop, length-take, refl, subst}
use Rattle.manual.specs.Place.{RAM_BASE}
use Rattle.manual.specs.Store.{put, tag_of}
use Rattle.pages.specs.Naming.{line_named}
use Rattle.pages.specs.Runs.{pieces, Runs}
use Rattle.pages.specs.Spell.{line_pieces, line_piece}
use Rattle.pages.proofs.Books.{line_told}
use Rattle.pages.proofs.Pieces.{line_most}
use Rattle.spell.proofs.spell_lines.Goals as goal

pub returns : goal.returns
unfolding line_pieces
returns c =
    let a = c.args in
    let ram = a.ram.now in
    let tags = a.tags.now in
    let all : length tags - 0 ≡ length tags = omega arith in
    let runs = c.put_each.ensures
    (λ i end n o o' low high e.
    let part = take (i * 32 + 32 - i * 32) (drop (i * 32) c.args.ram.now) in
    let f : n ≡ length (line_named (RAM_BASE + i * 32) (tag_of c.args.tags.now i) part) = search rules in
    omega (arith, f, line_most (RAM_BASE + i * 32) (tag_of c.args.tags.now i) part, length-take (i * 32 + 32 - i * 32) (drop (i * 32) c.args.ram.now)))
    (omega arith)
    (line_piece ram tags) (λ i end n o o' low high e.
    let spelled = line_named (RAM_BASE + i * 32) (tag_of tags i) (take (i * 32 + 32 - i * 32) (drop (i * 32) ram)) in
    let f : n ≡ length spelled = search rules in
    let g : o'.now ≡ put o.now end spelled = search rules in
    line_told ram tags o.now o'.now i end n (tag_of tags i) refl (f, g)) in
    subst (λ (n : ℕ). Runs a.out.now a.at (pieces n 0 (line_piece ram tags)) c.put_each.new.out c.put_each.result) all runs
