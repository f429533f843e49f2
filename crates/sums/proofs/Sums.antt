-- The laws of checksums: bytes after bytes, and a number's bytes. Assumes nothing.
use Rattle.std.proofs.Common.{◌≡◌, ℕ, zero, suc, ◌/◌, ◌%◌, ◌^◌, ◌<◌, List, ◌++◌, [], ◌∷◌, refl, ◌∙◌, ap, arith}
use mathlib.Core.List.{flat_map, foldl-append}
use Rattle.std.specs.List.{fold}
use Rattle.std.specs.Int.{bytes_high_first}
use Rattle.manual.specs.Number.{to_be}
use Rattle.sums.specs.Sums.{sum_with}

pub sum_more : (sum : ℕ) (a b : List ℕ) → sum_with sum (a ++ b) ≡ sum_with (sum_with sum a) b
unfolding sum_with
sum_more sum a b = foldl-append _ sum a b

-- what std writes of a number are its bytes
pub be_bytes : (k v : ℕ) → bytes_high_first k v ≡ to_be k v
unfolding to_be
be_bytes zero v = refl
be_bytes (suc zero) v = let e : v % 256 ≡ v / 1 % 256 = omega arith in rw e
be_bytes (suc (suc k)) v = ap (λ l. v / 256 ^ suc k % 256 ∷ l) (be_bytes (suc k) v)

pub be_byte : (v : ℕ) → v < 256 → to_be 1 v ≡ v ∷ []
unfolding to_be
be_byte v h = let e : v / 1 % 256 ≡ v = omega arith in rw e

pub sum_be : (k sum v next : ℕ) (bytes : List ℕ) → bytes ≡ bytes_high_first k v → next ≡ sum_with sum bytes → next ≡ sum_with sum (to_be k v)
sum_be k sum v next bytes e h = h ∙ ap (sum_with sum) (e ∙ be_bytes k v)

-- value after value, each of which is summed as its bytes
pub sum_over : {A : Type 0} (f g : A → List ℕ) → ((x : A) → f x ≡ g x) → (sum : ℕ) (xs : List A) → fold (λ s x. sum_with s (f x)) sum xs ≡ sum_with sum (flat_map g xs)
unfolding sum_with flat_map
sum_over f g same sum [] = refl
sum_over f g same sum (x ∷ xs) = rw (same x, sum_more sum (g x) (flat_map g xs)) (sum_over f g same (sum_with sum (g x)) xs)
