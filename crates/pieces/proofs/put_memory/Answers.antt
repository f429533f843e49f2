use mathlib.Core.Path.{refl, sym, ◌∙◌}
use native.Mathlib.Nat.{sub-zero}
use Rattle.tables.specs.Tables.{piece_end, with_piece, memory_in, memory_end}
use Rattle.tables.proofs.Laws.{entry_more, entry_none}
use Rattle.pieces.proofs.put_memory.Goals as goal

pub loop-init : goal.loop-init
unfolding memory_end
loop-init c = (refl, rw sub-zero, rw (sub-zero, ← c.after-at.ensures, ← c.after-2.ensures, ← c.number_4-end.ensures))

pub loop-preserved : goal.loop-preserved
loop-preserved c = let l = c.loop in
    let taken = c.loop-test.true in (
      c.put_piece-at.auto.memory ∙ l.invariant.0,
      entry_more (piece_end _) (with_piece _) _ l.counter l.at l.memory _ _ taken c.put_piece-at.ensures.value c.put_piece-at.ensures.memory_after ∙ l.invariant.1,
      entry_more (piece_end _) (λ x _. piece_end _ x) _ l.counter l.at l.at _ _ taken c.put_piece-at.ensures.value c.put_piece-at.ensures.value ∙ l.invariant.2,
    )

pub returns : goal.returns
unfolding memory_in
returns c = let l = c.loop in
    let left = c.loop-test.false in record {
      value = sym (entry_none (piece_end _) (λ x _. piece_end _ x) _ l.counter l.at l.at left) ∙ l.invariant.2;
      memory_after = rw (← c.after.ensures, ← c.byte.ensures, ← c.after-at.ensures, ← c.after-2.ensures, ← c.number_4-end.ensures, ← c.fill.ensures.after)
          (sym (entry_none (piece_end _) (with_piece _) _ l.counter l.at l.memory left) ∙ l.invariant.1);
    }
