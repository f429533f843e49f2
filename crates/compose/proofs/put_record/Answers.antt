use Rattle.std.proofs.Common.{◌++◌, ◌+◌, ◌-◌, ◌<◌, arith, length-append, append-nil, sym, ◌∙◌, length}
use borrow.Author.Tests.{leb-true, leb-false}
use Rattle.manual.proofs.Numbers.{length-to_be}
use Rattle.manual.proofs.Stores.{put_out}
use Rattle.pages.specs.Compose.{fields, record_of}
use Rattle.compose.proofs.Records.{sized, field_fits, field_put, field_ends, record_put, length_record}
use Rattle.compose.proofs.put_record.Goals as goal

pub loop-width-init : goal.loop-width-init
unfolding fields
loop-width-init c = record { put_so_far = rw append-nil c.put_be.ensures; ends = rw (append-nil, length-to_be 2 (c.record_size-size.result - 2)) }

pub overflow_sub-size : goal.overflow_sub-size
overflow_sub-size c = omega (arith, c.record_size-size.ensures)

pub overflow_add-end-in-loop-width : goal.overflow_add-end-in-loop-width
overflow_add-end-in-loop-width c =
    let a = c.args in
    let l = c.loop-width in
    let size = c.record_size-size.result in
    let fits = sized a.out.now a.at size a.values.now a.bytes.now c.record_size-size.ensures (omega arith) (leb-true _ _ (sym c.within.ensures ∙ c.if-within.true)) in
    omega (arith, field_fits a.out.now a.at (size - 2) a.values.now a.bytes.now fits.0 fits.1 l.width-index (0, 0) c.loop-width-test.true)

pub loop-width-preserved : goal.loop-width-preserved
loop-width-preserved c =
    let a = c.args in
    let l = c.loop-width in
    let size = c.record_size-size.result in
    let fits = sized a.out.now a.at size a.values.now a.bytes.now c.record_size-size.ensures (omega arith) (leb-true _ _ (sym c.within.ensures ∙ c.if-within.true)) in
    record {
      put_so_far = c.put_be-in-loop-width.ensures ∙ field_put a.out.now a.at (size - 2) a.values.now a.bytes.now fits.0 fits.1 l.out l.end l.width-index (0, 0) c.loop-width-test.true l.invariant.put_so_far l.invariant.ends;
      ends = field_ends a.out.now a.at (size - 2) a.values.now a.bytes.now fits.0 fits.1 l.end l.width-index (0, 0) c.loop-width-test.true l.invariant.ends;
    }

pub returns-after-loop-width : goal.returns-after-loop-width
returns-after-loop-width c =
    let a = c.args in
    let l = c.loop-width in
    let size = c.record_size-size.result in
    let fits = sized a.out.now a.at size a.values.now a.bytes.now c.record_size-size.ensures (omega arith) (leb-true _ _ (sym c.within.ensures ∙ c.if-within.true)) in
    c.put_bytes.ensures ∙ record_put a.out.now a.at (size - 2) a.values.now a.bytes.now fits.0 fits.1 l.out l.end l.width-index c.loop-width-test.false l.invariant.put_so_far l.invariant.ends

pub returns-else-within : goal.returns-else-within
returns-else-within c =
    let a = c.args in
    let size = c.record_size-size.result in
    let out : length a.out.now < a.at + size = leb-false _ _ (sym c.within.ensures ∙ c.if-within.false) in
    let all = length_record (fields a.values.now ++ a.bytes.now) in
    sym (put_out a.out.now a.at (record_of (fields a.values.now ++ a.bytes.now)) (omega (arith, all, c.record_size-size.ensures, length-append (fields a.values.now) a.bytes.now)))
