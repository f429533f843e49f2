use mathlib.Core.Path.{sym, ◌∙◌}
use native.Mathlib.Nat.{sub-zero}
use Rattle.tables.specs.Tables.{value_end, with_value, general_in}
use Rattle.tables.proofs.Laws.{entry_more, entry_none}
use Rattle.machines.proofs.general_in.Goals as goal

pub loop-init : goal.loop-init
unfolding general_in
loop-init c = rw (sub-zero, ← c.after-count.ensures, ← c.after-at.ensures, ← c.byte-end.ensures)

pub loop-preserved : goal.loop-preserved
loop-preserved c = let l = c.loop in
    entry_more value_end (with_value c.args.body.now) _ l.counter l.at l.general _ _ c.loop-test.true c.after-at-in-loop.ensures c.put_value.ensures ∙ l.invariant

pub returns : goal.returns
returns c = let l = c.loop in sym (entry_none value_end (with_value _) _ l.counter l.at l.general c.loop-test.false) ∙ l.invariant
