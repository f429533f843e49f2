-- A scan from the front: what is left decides. One law for every scan. Assumes nothing.
use Prim.Native.Nat.{ℕ, zero, suc, ◌+◌, ◌-◌, ◌≤◌, ◌<◌}
use mathlib.Core.Path.{◌≡◌, refl, subst, ◌∙◌}
use mathlib.Core.Bool.{Bool, true, false, cond}
use mathlib.Core.List.{List}
use mathlib.Core.Logic.{◌≢◌}
use lib.ListN.{length, get_or}
use Rattle.std.specs.Bool.{MatchBool}
use Rattle.std.specs.List.{range_with_len, AllWithin, HoldsAt}
use Rattle.std.proofs.lemmas.List.FromFn.{get_or-range_with_len, length-range_with_len}
use native.Mathlib.Omega.{arith}
use native.Mathlib.Numerals.{add-one}
use Rattle.manual.specs.Accept.{every}

module _ (n i : ℕ) (p : ℕ → Bool) where
  step : i < n → every (n - i) i p ≡ cond (p i) (every (n - (i + 1)) (i + 1) p) false
  unfolding every
  step h = let e : n - i ≡ suc (n - (i + 1)) = omega arith in rw (e, add-one)

  pub fails : i < n → p i ≡ false → false ≡ every (n - i) i p
  fails h k = rw (step h, k)

  pub passes : i < n → p i ≡ true → every (n - (i + 1)) (i + 1) p ≡ every (n - i) i p
  passes h k = rw (step h, k)

  pub ends : n ≤ i → true ≡ every (n - i) i p
  unfolding every
  ends h = let e : n - i ≡ 0 = omega arith in rw e

pub begins : (n : ℕ) (p : ℕ → Bool) → every (n - 0) 0 p ≡ every n 0 p
begins n p = let e : n - 0 ≡ n = omega arith in rw e

-- what an iterator's `all` answers is what the scan answers
all_pass : (n i : ℕ) (p : ℕ → Bool) → ((k : ℕ) → i ≤ k → k < i + n → p k ≡ true) → true ≡ every n i p
unfolding every
all_pass zero i p h = refl
all_pass (suc n) i p h = rw (h i (omega arith) (omega arith)) (all_pass n (suc i) p (λ k a b. h k (omega arith) (omega arith)))

fails_at : (n i k : ℕ) (p : ℕ → Bool) (first : Bool) → p i ≡ first → i ≤ k → k < i + n → p k ≡ false → false ≡ every n i p
unfolding every
fails_at zero i k p first e a b h = absurd (omega arith)
fails_at (suc n) i k p false e a b h = rw e
fails_at (suc n) i k p true e a b h =
    let later : i ≢ k = λ same. (let clash : true ≡ false = rw (← e, same) h in cc) in
    rw e (fails_at n (suc i) k p (p (suc i)) refl (omega arith) (omega arith) h)

pub told : (n : ℕ) (p : ℕ → Bool) (r : Bool) → MatchBool r ((k : ℕ) → k < n → p k ≡ true) ((k : ℕ) × (k < n) × (p k ≡ false)) → r ≡ every n 0 p
told n p true h = all_pass n 0 p (λ k a b. h k (omega arith))
told n p false h = fails_at n 0 h.0 p (p 0) refl (omega arith) (omega arith) h.2

-- of the n elements of a list
pub told_each : {X : Type 0} (q : X → Bool) (xs : List X) (d : X) (n : ℕ) → length xs ≡ n → (r : Bool)
    → MatchBool r (AllWithin (λ x. q x ≡ true) xs 0 (length xs)) ((k : ℕ) × (k < length xs) × HoldsAt (λ x. q x ≡ false) xs k)
    → r ≡ every n 0 (λ i. q (get_or xs i d))
told_each q xs d n e true h = told n (λ i. q (get_or xs i d)) true (λ k b. h k d (omega arith) (omega arith))
told_each q xs d n e false h = told n (λ i. q (get_or xs i d)) false (h.0, (omega (arith, h.1)), h.2 d)

-- of the numbers below n
number_at : (n k : ℕ) → k < n → get_or (range_with_len 0 n) k 0 ≡ k
number_at n k h = let e : 0 + k ≡ k = omega arith in get_or-range_with_len 0 n k 0 h ∙ e

pub told_below : (n : ℕ) (p : ℕ → Bool) (r : Bool)
    → MatchBool r (AllWithin (λ x. p x ≡ true) (range_with_len 0 n) 0 (length (range_with_len 0 n)))
    ((k : ℕ) × (k < length (range_with_len 0 n)) × HoldsAt (λ x. p x ≡ false) (range_with_len 0 n) k)
    → r ≡ every n 0 p
told_below n p true h =
    told n p true (λ k b. subst (λ x. p x ≡ true) (number_at n k b) (h k 0 (omega arith) (rw (length-range_with_len 0 n) b)))
told_below n p false h =
    let below : h.0 < n = rw (← length-range_with_len 0 n) h.1 in
    told n p false (h.0, below, subst (λ x. p x ≡ false) (number_at n h.0 below) (h.2 0))
