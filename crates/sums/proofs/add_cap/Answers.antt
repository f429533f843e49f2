use Rattle.sums.specs.Sums.{cap_bytes}
use Rattle.sums.proofs.Sums.{sum_more, sum_be}
use Rattle.sums.proofs.add_cap.Goals as goal

pub returns : goal.returns
unfolding cap_bytes
returns c = simp (
  sum_more,
  ← c.from.ensures,
  ← c.add_byte-sum.ensures,
  ← c.from-2.ensures,
  ← c.add_byte-sum-2.ensures,
  ← c.add_byte-sum-3.ensures,
  ← sum_be 4 _ _ _ _ c.to_be_bytes.ensures c.add-sum.ensures,
  ← sum_be 4 _ _ _ _ c.to_be_bytes-2.ensures c.add-sum-2.ensures,
  ← sum_be 8 _ _ _ _ c.to_be_bytes-3.ensures c.add-sum-3.ensures,
  ← sum_be 8 _ _ _ _ c.to_be_bytes-4.ensures c.add-sum-4.ensures,
) (sum_be 8 _ _ _ _ c.to_be_bytes-5.ensures c.add.ensures)
