use Rattle.std.proofs.Common.{rules, ◌≡◌, refl, ◌∙◌}
use Rattle.std.specs.Int.{bytes_high_first}
use Rattle.std.specs.List.{fold}
use Rattle.manual.specs.Number.{to_be}
use Rattle.sums.specs.Sums.{machine_bytes, sum_with, cap_bytes}
use Rattle.sums.proofs.Sums.{sum_more, be_bytes, sum_be, sum_over}
use Rattle.sums.proofs.sum_machine.Goals as goal

pub returns : goal.returns
unfolding machine_bytes
returns c =
    let general : c.fold-sum.result ≡ fold (λ s v. sum_with s (bytes_high_first 8 v)) 1 c.args.m.general = search rules in
    let caps : c.fold-sum-2.result ≡ fold (λ s v. sum_with s (cap_bytes v)) c.fold-sum.result c.args.m.caps = search rules in
    simp (
      sum_more,
      ← general ∙ sum_over (bytes_high_first 8) (to_be 8) (be_bytes 8) 1 c.args.m.general,
      ← caps ∙ sum_over cap_bytes cap_bytes (λ x. refl) c.fold-sum.result c.args.m.caps,
      ← c.add_cap.ensures,
      ← c.add_pending-sum.ensures,
    ) (c.from.ensures ∙ sum_be 2 _ _ _ _ c.to_be_bytes.ensures c.add.ensures)
