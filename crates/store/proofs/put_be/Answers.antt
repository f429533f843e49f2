use Rattle.std.proofs.Common.{◌+◌, sym, ◌∙◌, ap, length, leb-true, leb-false}
use Rattle.manual.specs.Number.{to_be}
use Rattle.manual.proofs.Numbers.{length-to_be}
use Rattle.manual.proofs.Stores.{put_part, put_out, length_part}
use Rattle.store.proofs.put_be.Goals as goal

pub returns-then-within : goal.returns-then-within
returns-then-within c = let a = c.args in
    let h = leb-true (a.at + a.size) (length a.buf.now) (sym c.within.ensures ∙ c.if-within.true) in
    put_part a.buf.now a.at a.size c.store_be.new.part (to_be a.size a.v) h
    (c.store_be.ensures ∙ ap (λ n. to_be n a.v) (length_part a.buf.now a.at a.size h))
    (length-to_be a.size a.v)

pub returns-else-within : goal.returns-else-within
returns-else-within c = let a = c.args in
    sym (put_out a.buf.now a.at (to_be a.size a.v)
    (rw length-to_be (leb-false (a.at + a.size) (length a.buf.now) (sym c.within.ensures ∙ c.if-within.false))))
