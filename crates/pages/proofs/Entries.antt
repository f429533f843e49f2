-- What an entry says. Assumes nothing.
use Rattle.std.specs.Prelude.{Result, Ok, Err}
use Prim.Native.Nat.{ℕ, ◌+◌, ◌-◌, ◌%◌, ◌≤◌}
use mathlib.Core.Path.{◌≡◌, refl, subst}
use mathlib.Core.Bool.{Bool, true, false, cond, ◌&&◌}
use mathlib.Core.List.{List}
use native.Mathlib.Omega.{arith}
use borrow.Author.Tests.{eqb-true, ltb-false, leb-true}
use lib.Dec.{eqb, leb, ltb}
use lib.ListN.{length, take, drop}
use Rattle.manual.specs.Place.{RAM_BASE}
use Rattle.manual.specs.Line.{cap_in}
use Rattle.manual.specs.Accept.{top_fits, loaded_fits}
use Rattle.manual.specs.declared.Refusal.{Refusal}
use Rattle.pages.specs.declared.Entry.{Entry}
use Rattle.pages.specs.Record.{byte, number}
use Rattle.pages.specs.Entry.{general_of, is_line, line_of, entry_of}
use Rattle.manual.proofs.Tests.{both_true}
use Rattle.pages.specs.Fields.{cap_of, capability_of}

-- what a body and an address that is a line's say
pub record LineFits (body : List ℕ) (ram a : ℕ) : Type 0 where
  pub bytes : length body ≡ 42
  pub above : RAM_BASE ≤ a
  pub aligned : a % 32 ≡ 0
  pub room : a - RAM_BASE + 32 ≤ ram

line_tests : (t₁ t₂ t₃ : Bool) → cond t₁ false (cond t₂ t₃ false) ≡ true → (t₁ ≡ false) × (t₂ ≡ true) × (t₃ ≡ true)
line_tests true t₂ t₃ e = let z : ◌≡◌ {A = ℕ} 0 1 = cc in absurd (omega arith)
line_tests false true t₃ e = (refl, refl, e)
line_tests false false t₃ e = let z : ◌≡◌ {A = ℕ} 0 1 = cc in absurd (omega arith)

line_fits_lem : (body : List ℕ) (ram a : ℕ) → length body ≡ 42 → is_line a ram ≡ true → LineFits body ram a
unfolding is_line
line_fits_lem body ram a n e =
    let f = line_tests (ltb a RAM_BASE) (eqb (a % 32) 0) (leb (a - RAM_BASE + 32) ram) e in
    record { bytes = n; above = ltb-false a RAM_BASE f.0; aligned = eqb-true (a % 32) 0 f.1; room = leb-true (a - RAM_BASE + 32) ram f.2 }

-- a choice by a test
pub when : {A : Type 0} (P : A → Type 0) (t : Bool) (x y : A) → (t ≡ true → P x) → P y → P (cond t x y)
when P true x y h k = h refl
when P false x y h k = k

-- what holds of each answer to a body, where its tests are passed, holds of the answer
module _ (P : Result Entry Refusal → Type 0) (body : List ℕ) (ram : ℕ)
    (cut : P (Err Refusal.Cut)) (kind : P (Err Refusal.Kind)) (field : P (Err Refusal.Field)) (top : P (Err Refusal.Top))
    (capability : byte body 1 ≤ 32 → top_fits (cap_of body) ≡ true → P (Ok (Entry.Capability (byte body 1) (cap_of body))))
    (general : 1 ≤ byte body 1 → byte body 1 ≤ 31 → P (Ok (Entry.General (byte body 1) (number body 2 8))))
    (line : LineFits body ram (number body 1 8) → loaded_fits (cap_in (eqb (byte body 9) 1) (take 32 (drop 10 body))) ≡ true → P (Ok (Entry.Line (number body 1 8) (eqb (byte body 9) 1)))) where
  by_capability : P (capability_of body)
  unfolding capability_of
  by_capability =
      let rest = leb (byte body 2) 1 && (leb (byte body 3) 1 && ltb (byte body 8) 128) in
      when P (eqb (length body) 36) _ _
      (λ _. when P (leb (byte body 1) 32 && rest) _ _
      (λ f. when P (top_fits (cap_of body)) _ _ (capability (leb-true (byte body 1) 32 (both_true (leb (byte body 1) 32) rest f).0)) top) field) cut

  by_general : P (general_of body)
  unfolding general_of
  by_general =
      when P (eqb (length body) 10) _ _
      (λ _. when P (leb 1 (byte body 1) && leb (byte body 1) 31) _ _
      (λ f. let g = both_true (leb 1 (byte body 1)) (leb (byte body 1) 31) f in general (leb-true 1 (byte body 1) g.0) (leb-true (byte body 1) 31 g.1)) field) cut

  by_line : P (line_of body ram)
  unfolding line_of
  by_line =
      when P (eqb (length body) 42) _ _
      (λ e. when P (leb (byte body 9) 1 && is_line (number body 1 8) ram) _ _
      (λ f. when P (loaded_fits (cap_in (eqb (byte body 9) 1) (take 32 (drop 10 body)))) _ _
      (line (line_fits_lem body ram (number body 1 8) (eqb-true (length body) 42 e) (both_true (leb (byte body 9) 1) (is_line (number body 1 8) ram) f).1)) top) field) cut

  pub by_kind : P (entry_of body ram)
  unfolding entry_of
  by_kind =
      when P (eqb (length body) 0) _ _ (λ _. cut)
      (when P (eqb (byte body 0) 1) _ _ (λ _. by_capability)
      (when P (eqb (byte body 0) 2) _ _ (λ _. by_general)
      (when P (eqb (byte body 0) 3) _ _ (λ _. by_line) kind)))

-- what an entry says of its number, or of its body and its place
abbrev pub Fits : List ℕ → ℕ → Entry → Type 0
Fits body ram (Entry.Capability i c) = i ≤ 32
Fits body ram (Entry.General i v) = i ≤ 31
Fits body ram (Entry.Line a tag) = LineFits body ram a

-- what is said of an entry, where there is one
abbrev pub Said : (Entry → Type 0) → Result Entry Refusal → Type 0
Said P (Ok entry) = P entry
Said P (Err refusal) = Unit {0}

pub entry_fits : (body : List ℕ) (ram : ℕ) (e : Entry) → entry_of body ram ≡ Ok e → Fits body ram e
entry_fits body ram e q = subst (Said (Fits body ram)) q (by_kind (Said (Fits body ram)) body ram tt tt tt tt (λ h _. h) (λ _ h. h) (λ h _. h))
