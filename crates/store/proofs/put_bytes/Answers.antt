use Rattle.std.proofs.Common.{refl, sym, ◌∙◌, ◌+◌, length}
use borrow.Author.Tests.{leb-true, leb-false}
use Rattle.manual.proofs.Stores.{put_part, put_out}
use Rattle.store.proofs.put_bytes.Goals as goal

pub returns-then-within : goal.returns-then-within
returns-then-within c = let a = c.args in
    put_part a.buf.now a.at (length a.bytes.now) c.copy_from_slice.new.self a.bytes.now
    (leb-true (a.at + length a.bytes.now) (length a.buf.now) (sym c.within.ensures ∙ c.if-within.true)) c.copy_from_slice.ensures.after refl

pub returns-else-within : goal.returns-else-within
returns-else-within c = let a = c.args in
    sym (put_out a.buf.now a.at a.bytes.now (leb-false (a.at + length a.bytes.now) (length a.buf.now) (sym c.within.ensures ∙ c.if-within.false)))
