-- The registers of a machine, each put behind the one before. Assumes nothing.
use Rattle.std.proofs.Common.{ℕ, ◌+◌, ◌≤◌, ◌≡◌, refl, ◌∙◌, ap, List, [], ◌∷◌, length, get_or, arith}
use Rattle.manual.specs.Number.{to_be}
use Rattle.manual.specs.Store.{put}
use Rattle.manual.specs.declared.Cap.{Cap}
use Rattle.manual.specs.declared.Machine.{Machine}
use Rattle.manual.specs.Narrow.{null}
use Rattle.pages.specs.Compose.{record_of, cap_body}
use Rattle.pages.specs.Registers.{cap_records, general_records, registers_of, REGISTERS}
use Rattle.pages.specs.Runs.{Runs}
use Rattle.pages.proofs.Fields.{cap_bytes_lem}
use Rattle.pages.proofs.Registers.{registers_bytes}
use Rattle.pages.proofs.RunLaws.{run_ends, runs_put, runs_on}

version : to_be 1 1 ≡ 1 ∷ []
unfolding to_be
version = refl

-- where the capability registers end at most
pub caps_end : (l k : List ℕ) (at end : ℕ) (caps : List Cap) → Runs l at (cap_records caps) k end → end ≤ at + 1216
unfolding cap_records
caps_end l k at end caps r =
    omega (arith, run_ends l at 0 (λ i. record_of (cap_body i (get_or caps i null))) k end 32 38 (λ i. omega (arith, cap_bytes_lem i (get_or caps i null))) r)

-- the version, the capability registers, PCC, the general registers
module _ (m : Machine) (l l₁ l₂ l₃ l₄ : List ℕ) (e₂ n e₄ : ℕ) (p : l₁ ≡ put l 0 (to_be 1 1)) (r₂ : Runs l₁ 1 (cap_records m.caps) l₂ e₂)
    (q : n ≡ length (record_of (cap_body 32 m.pcc))) (s : l₃ ≡ put l₂ e₂ (record_of (cap_body 32 m.pcc))) (r₄ : Runs l₃ (e₂ + n) (general_records m.general) l₄ e₄) where
  registers_run : Runs l 0 (registers_of m) l₄ e₄
  unfolding registers_of
  registers_run =
      let c = record_of (cap_body 32 m.pcc) in
      runs_on l l₁ l₄ 0 1 e₄ (1 ∷ []) _ (runs_put l l₁ 0 1 (1 ∷ []) (p ∙ ap (put l 0) version) refl)
      (runs_on l₁ l₂ l₄ 1 e₂ e₄ (cap_records m.caps) _ r₂
      (runs_on l₂ l₃ l₄ e₂ (e₂ + n) e₄ c (general_records m.general) (runs_put l₂ l₃ e₂ (e₂ + n) c s (ap (λ k. e₂ + k) q)) r₄))

  pub registers_put : REGISTERS ≤ length l → l₄ ≡ put l 0 (registers_of m)
  registers_put h = registers_run.stands (omega (arith, registers_bytes m))
