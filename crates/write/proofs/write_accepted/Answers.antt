use mathlib.Core.Path.{ap, sym, ◌∙◌}
use Rattle.pages.specs.Write.{Wrote}
use Rattle.write.proofs.Books.{waits, no_room, written}
use Rattle.write.proofs.write_accepted.Goals as goal

pub returns-then-not-rests : goal.returns-then-not-rests
returns-then-not-rests c = let a = c.args in
    let w = waits a.m a.ram.now a.tags.now a.out.now (sym c.rests.ensures ∙ c.if-not-rests.true) in
    record { value = ap (λ (s : Wrote). s.written) w; out_after = ap (λ (s : Wrote). s.out) w }

pub returns-then-out-bytes : goal.returns-then-out-bytes
returns-then-out-bytes c = let w = no_room c.args.m c.args.ram.now c.args.tags.now c.args.out.now c.requires (sym c.rests.ensures ∙ c.if-not-rests.false) _ _ (c.put_book-bytes.ensures.value, c.put_book-bytes.ensures.out_after) c.if-out-bytes.true in
    record { value = ap (λ (s : Wrote). s.written) w; out_after = ap (λ (s : Wrote). s.out) w }

pub returns : goal.returns
returns c = let w = written c.args.m c.args.ram.now c.args.tags.now c.args.out.now c.requires (sym c.rests.ensures ∙ c.if-not-rests.false) _ _ (c.put_book-bytes.ensures.value, c.put_book-bytes.ensures.out_after) c.if-out-bytes.false in
    record { value = ap (λ (s : Wrote). s.written) w; out_after = ap (λ (s : Wrote). s.out) w }
