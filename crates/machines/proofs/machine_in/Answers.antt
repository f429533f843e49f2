use mathlib.Core.Path.{sym, ◌∙◌}
use native.Mathlib.Nat.{sub-zero}
use Rattle.tables.specs.Tables.{cap_end, with_cap, machine_in}
use Rattle.tables.proofs.Laws.{entry_more, entry_none}
use Rattle.machines.proofs.machine_in.Goals as goal

pub loop-init : goal.loop-init
unfolding machine_in
loop-init c = rw (
  sub-zero,
  c.no_cap-none.ensures,
  ← c.general_in-general.ensures,
  ← c.number.ensures,
  ← c.cap_count-count.ensures,
  ← c.after-at.ensures,
  ← c.byte-end.ensures,
)

pub loop-preserved : goal.loop-preserved
loop-preserved c = let l = c.loop in
    entry_more cap_end (with_cap c.args.body.now) _ l.counter l.at l.m _ _ c.loop-test.true c.after-at-in-loop.ensures c.with_cap-m.ensures ∙ l.invariant

pub returns : goal.returns
returns c = let l = c.loop in sym (entry_none cap_end (with_cap _) _ l.counter l.at l.m c.loop-test.false) ∙ l.invariant
