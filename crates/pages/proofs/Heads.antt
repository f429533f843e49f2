-- The laws of a record's head, one for each answer. Assumes nothing.
use Rattle.std.specs.Prelude.{Ok, Err, None}
use Prim.Native.Nat.{ℕ, ◌+◌, ◌-◌, ◌%◌, ◌^◌, ◌<◌, ◌≤◌}
use mathlib.Core.Path.{◌≡◌, refl, sym, ap}
use mathlib.Core.Bool.{Bool, true, false, cond}
use mathlib.Core.List.{List}
use native.Mathlib.Omega.{arith}
use borrow.Author.Tests.{lt-ltb, le-ltb, lt-leb, eq-eqb, ne_eqb, eqb-false, ltb-false}
use lib.Dec.{eqb, leb, ltb}
use lib.ListN.{length, take, drop}
use Rattle.manual.specs.Number.{be}
use Rattle.manual.specs.declared.Refusal.{Refusal}
use Rattle.pages.specs.declared.Body.{Body}
use Rattle.pages.specs.Record.{spans, number, body_at, head_at}

-- a header of two bytes is there, and says n
module _ (book : List ℕ) (at n : ℕ) (h : at < length book) (k : 2 ≤ length book - at) (e : n ≡ be (take (at + 2 - at) (drop at book)) % 2 ^ 64) where
  body : body_at book (at + 2) n ≡ head_at book at
  unfolding head_at
  body = let z : at + 2 - at ≡ 2 = omega arith in rw (lt-leb (length book) at h, le-ltb (length book - at) 2 k, e, z)

  pub empty : n ≡ 0 → Err Refusal.Cut ≡ head_at book at
  unfolding body_at
  empty z = rw (← body, eq-eqb n 0 z)

  pub short : (n ≡ 0 → ⊥) → length book - (at + 2) < n → Err Refusal.Cut ≡ head_at book at
  unfolding body_at
  short z l = rw (← body, ne_eqb n 0 z, lt-ltb (length book - (at + 2)) n l)

  pub whole : (n ≡ 0 → ⊥) → n ≤ length book - (at + 2) → spans (at + 2) n ≡ head_at book at
  unfolding body_at
  whole z l = rw (← body, ne_eqb n 0 z, le-ltb (length book - (at + 2)) n l)

-- what a head that is a body says
head_tests : (t₁ t₂ t₃ t₄ : Bool) (at m b n : ℕ)
    → cond t₁ (Ok None) (cond t₂ (Err Refusal.Cut) (cond t₃ (Err Refusal.Cut) (cond t₄ (Err Refusal.Cut) (spans (at + 2) m)))) ≡ spans b n
    → (t₃ ≡ false) × (t₄ ≡ false) × (at + 2 ≡ b) × (m ≡ n)
head_tests true t₂ t₃ t₄ at m b n e = let z : ◌≡◌ {A = ℕ} 0 1 = cc in absurd (omega arith)
head_tests false true t₃ t₄ at m b n e = let z : ◌≡◌ {A = ℕ} 0 1 = cc in absurd (omega arith)
head_tests false false true t₄ at m b n e = let z : ◌≡◌ {A = ℕ} 0 1 = cc in absurd (omega arith)
head_tests false false false true at m b n e = let z : ◌≡◌ {A = ℕ} 0 1 = cc in absurd (omega arith)
head_tests false false false false at m b n e =
    let z : ◌≡◌ {A = Body} (record { start = at + 2; bytes = m }) (record { start = b; bytes = n }) = cc in
    (refl, refl, ap (λ (x : Body). x.start) z, ap (λ (x : Body). x.bytes) z)

pub body_fits : (book : List ℕ) (at b n : ℕ) → spans b n ≡ head_at book at → (0 < n) × (b + n ≤ length book) × (at + 2 ≡ b)
unfolding head_at body_at
body_fits book at b n e =
    let m = number book at 2 in
    let f = head_tests (leb (length book) at) (ltb (length book - at) 2) (eqb m 0) (ltb (length book - (at + 2)) m) at m b n (sym e) in
    let z : m ≡ 0 → ⊥ = eqb-false m 0 f.0 in
    let g : m ≤ length book - (at + 2) = ltb-false (length book - (at + 2)) m f.1 in
    omega (arith, f.2, f.3)
