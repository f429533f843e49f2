-- The five numbers of an answer at the front of a buffer. Assumes nothing.
use Prim.Native.Nat.{ℕ, ◌≤◌}
use mathlib.Core.Path.{◌≡◌, refl}
use mathlib.Core.List.{List, [], ◌∷◌, ◌++◌}
use native.Mathlib.Omega.{arith}
use lib.ListN.{length, drop, set}

-- one after the other
pub five_set : (l : List ℕ) (a b c d e : ℕ) → 5 ≤ length l → set (set (set (set (set l 0 a) 1 b) 2 c) 3 d) 4 e ≡ (a ∷ b ∷ c ∷ d ∷ e ∷ []) ++ drop 5 l
five_set [] a b c d e h = absurd (omega arith)
five_set (v ∷ []) a b c d e h = absurd (omega arith)
five_set (v ∷ w ∷ []) a b c d e h = absurd (omega arith)
five_set (v ∷ w ∷ x ∷ []) a b c d e h = absurd (omega arith)
five_set (v ∷ w ∷ x ∷ y ∷ []) a b c d e h = absurd (omega arith)
five_set (v ∷ w ∷ x ∷ y ∷ z ∷ l) a b c d e h = refl
