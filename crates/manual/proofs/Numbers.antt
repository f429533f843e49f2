-- The laws of numbers in bytes, over any number of bytes. Assumes nothing.
use Prim.Native.Nat.{ℕ, zero, suc, ◌+◌, ◌-◌, ◌*◌, ◌/◌, ◌%◌, ◌^◌, ◌≤◌, ◌<◌}
use mathlib.Core.Path.{◌≡◌, refl, sym, ◌∙◌, ap}
use mathlib.Core.List.{List, [], ◌∷◌, ◌++◌, append_assoc, append-nil}
use native.Mathlib.Omega.{arith}
use native.Mathlib.Nat.{mul_assoc, pow-suc, pow-succ', one-le-pow, mod-eq_of_lt, div-eq_of_lt, mod-one, not-suc-le-zero, div-div-eq-div-mul, sub_self, sub-zero, mul-add-div_right, mul-add-mod_self_right}
use native.Mathlib.Numerals.{add-one}
use lib.Arith.{digits_lt, digits_div, mod-mul}
use lib.ListN.{length, get_or, take, set, length-append}
use lib.Seq.{take-suc, take-length, set_at, length-take-le}
use borrow.Author.Tests.{eq-eqb, ne_eqb}
use Rattle.manual.specs.Number.{Bytes, be, to_be, extend_from, bytes_in, minus_mod}
use Rattle.manual.specs.declared.Size.{Size}
use Rattle.manual.specs.declared.Size.TheVariants.{One, Two, Four, Eight, Line}

pos256 : (n : ℕ) → 0 < 256 ^ n
pos256 n = one-le-pow n 256 (omega arith)

pub length-to_be : (n v : ℕ) → length (to_be n v) ≡ n
unfolding to_be
length-to_be zero v = refl
length-to_be (suc n) v = ap suc (length-to_be n v)

be_snoc : (xs : List ℕ) (x : ℕ) → be (xs ++ x ∷ []) ≡ be xs * 256 + x
unfolding be
be_snoc [] x = omega arith
be_snoc (y ∷ ys) x =
    let ih = be_snoc ys x in
    let p : 256 ^ length (ys ++ x ∷ []) ≡ 256 ^ length ys * 256 = simp (length-append, add-one, pow-suc) in
    let e : y * 256 ^ length (ys ++ x ∷ []) ≡ y * 256 ^ length ys * 256 =
    ap (λ (n : ℕ). y * n) p ∙ sym (mul_assoc y (256 ^ length ys) 256) in
    omega arith

pub be_lt : (xs : List ℕ) → Bytes xs → be xs < 256 ^ length xs
unfolding be
be_lt [] h = omega arith
be_lt (x ∷ xs) h = rw pow-succ' (digits_lt (h 0) (be_lt xs (λ i. h (suc i))))

-- one byte more of a load
pub be_step : (xs : List ℕ) (i v : ℕ) → i < length xs → get_or xs i 0 < 256 → v ≡ be (take i xs) % 2 ^ 64
    → v % 2 ^ 56 * 256 + get_or xs i 0 ≡ be (take (i + 1) xs) % 2 ^ 64
be_step xs i v h b e = rw (add-one, take-suc xs i 0, be_snoc (take i xs) (get_or xs i 0)) (omega arith)

-- what is read back of what was written: the lowest n bytes
pub be-to_be : (n v : ℕ) → be (to_be n v) ≡ v % 256 ^ n
unfolding be to_be
be-to_be zero v = sym (mod-one v)
be-to_be (suc n) v =
    rw (length-to_be n v, be-to_be n v, pow-succ' 256 n) (sym (mod-mul v (omega arith) (pos256 n)))

to_be_high : (n q b : ℕ) → to_be n (q * 256 ^ n + b) ≡ to_be n b
unfolding to_be
to_be_high zero q b = refl
to_be_high (suc n) q b =
    rw (pow-succ' 256 n, ← mul_assoc q 256 (256 ^ n), mul-add-div_right (pos256 n) (q * 256) b, mul-add-mod_self_right q 256 (b / 256 ^ n), to_be_high n (q * 256) b)

-- what is written back of what was read: the same bytes
pub to_be-be : (xs : List ℕ) → Bytes xs → to_be (length xs) (be xs) ≡ xs
unfolding be to_be
to_be-be [] h = refl
to_be-be (x ∷ xs) h =
    rw (digits_div x (be_lt xs (λ i. h (suc i))), mod-eq_of_lt (h 0), to_be_high (length xs) x (be xs), to_be-be xs (λ i. h (suc i)))

-- the two cases of a carried bit, and a number that has room for its sign already
pub carried : (half v : ℕ) → v / half % 2 ≡ 1 → half < 2 ^ 64 → v % half + (2 ^ 64 - 1 - half + 1) ≡ extend_from half v
unfolding extend_from
carried half v h k = let e : 2 ^ 64 - 1 - half + 1 ≡ 2 ^ 64 - half = omega arith in rw (eq-eqb (v / half % 2) 1 h, e)

pub kept : (half v : ℕ) → (v / half % 2 ≡ 1 → ⊥) → v % half ≡ extend_from half v
unfolding extend_from
kept half v h = rw (ne_eqb (v / half % 2) 1 h)

pub roomy : (half v : ℕ) → v < half → v ≡ extend_from half v
unfolding extend_from
roomy half v h = rw (div-eq_of_lt h, mod-eq_of_lt h)

-- a store from the end: nothing written yet, one byte more, all written
pub store_none : (p : List ℕ) (v : ℕ) → p ≡ take (length p) p ++ to_be (length p - length p) v
unfolding to_be
store_none p v = rw sub_self (simp (take-length, append-nil))

step : (p : List ℕ) (v i k : ℕ) → 0 < i → i ≤ length p
    → set (take i p ++ to_be k v) (i - 1) (v / 256 ^ k % 256) ≡ take (i - 1) p ++ to_be (k + 1) v
unfolding to_be
step p v zero k h h' = absurd (not-suc-le-zero h)
step p v (suc j) k h h' =
    let e : suc j - 1 ≡ j = omega arith in
    rw (e, add-one, take-suc p j 0, append_assoc)
    (set_at (take j p) (get_or p j 0) (to_be k v) (v / 256 ^ k % 256) j (length-take-le j p (omega arith)))

pub store_more : (p : List ℕ) (v i : ℕ) → 0 < i → i ≤ length p
    → set (take i p ++ to_be (length p - i) v) (i - 1) (v / 256 ^ (length p - i) % 256) ≡ take (i - 1) p ++ to_be (length p - (i - 1)) v
store_more p v i h h' =
    let e : length p - (i - 1) ≡ length p - i + 1 = omega arith in
    rw e (step p v i (length p - i) h h')

pub store-left : (n v i : ℕ) → 0 < i → i ≤ n → v / 256 ^ (n - i) / 256 ≡ v / 256 ^ (n - (i - 1))
store-left n v i h h' =
    let e : n - (i - 1) ≡ suc (n - i) = omega arith in
    rw (e, pow-suc, div-div-eq-div-mul)

-- an access has a byte
pub some_bytes : (size : Size) → 0 < bytes_in size
some_bytes One = omega arith
some_bytes Two = omega arith
some_bytes Four = omega arith
some_bytes Eight = omega arith
some_bytes Line = omega arith
