-- Ranges and permissions, and the narrowings: each is inside what it is made of. Assumes nothing.
use Prim.Native.Nat.{ℕ, zero, suc, ◌+◌, ◌*◌, ◌-◌, ◌/◌, ◌%◌, ◌^◌, ◌≤◌, ◌<◌, min}
use mathlib.Core.Path.{◌≡◌, refl}
use mathlib.Core.Bool.{Bool, true, false, cond}
use native.Mathlib.Omega.{arith}
use borrow.Author.Tests.{eqb-true, eq-eqb}
use lib.Bits.{bit_and, and_shr, and_step, and_le_l}
use lib.Pow.{shr-shr}
use Rattle.manual.specs.Number.{plus_mod, minus_mod}
use Rattle.manual.specs.declared.Cap.{Cap}
use Rattle.manual.specs.Cap.{permitted, GLOBAL}
use Rattle.manual.specs.Narrow.{and_perms, and_global, inc_base, inc_offset, sealed_by, unsealed_by}
use Rattle.isolation.specs.Reach.{Covers, Spans}
use Rattle.isolation.specs.Agree.{Inside}

pub covers_span : {c : Cap} {a n : ℕ} → Spans c a n → (i : ℕ) → i < n → Covers c (a + i)
covers_span h i l = omega arith

pub inside_span : {c d : Cap} {a n : ℕ} → Inside c d → 0 < n → Spans c a n → Spans d a n
inside_span {c} {d} {a} {n} i p s =
    let f : Covers d a = i.bytes a (omega arith) in
    let l : Covers d (a + (n - 1)) = i.bytes (a + (n - 1)) (omega arith) in
    omega arith

pub inside_refl : {c : Cap} → Inside c c
inside_refl = record { bytes = λ a h. h; permissions = λ k h. h }

pub inside_trans : {c d e : Cap} → Inside c d → Inside d e → Inside c e
inside_trans p q = record { bytes = λ a h. q.bytes a (p.bytes a h); permissions = λ k h. q.permissions k (p.permissions k h) }

-- the range ends by 2^64, and the permissions have their width: what an accepted start has of each tagged capability
pub record Fits (c : Cap) : Type 0 where
  pub top : c.base.0 + c.length ≤ 2 ^ 64
  pub perms : c.perms < 2 ^ 31

-- c is inside d, if d fits, and fits too
pub record Narrows (c d : Cap) : Type 0 where
  pub inside : Fits d → Inside c d
  pub fits : Fits d → Fits c

-- only the range and the permissions count
pub same_range : (c d : Cap) → c.base.0 ≡ d.base.0 → c.length ≡ d.length → c.perms ≡ d.perms → Narrows c d
same_range c d b n p = record {
  inside = λ f. record { bytes = λ a h. omega arith; permissions = λ k h. rw p at h };
  fits = λ f. omega arith;
}

and_bit : (a b k : ℕ) → bit_and a b / 2 ^ k % 2 ≡ 1 → a / 2 ^ k % 2 ≡ 1
and_bit a b k h =
    let s : bit_and (a / 2 ^ k) (b / 2 ^ k) % 2 ≡ 1 = rw and_shr at h in
    let t : (bit_and (a / 2 ^ k / 2) (b / 2 ^ k / 2) * 2 + min (a / 2 ^ k % 2) (b / 2 ^ k % 2)) % 2 ≡ 1 = rw (and_step (a / 2 ^ k) (b / 2 ^ k)) at s in
    omega arith

-- a mask gives no permission
masked : (a b k : ℕ) → permitted (bit_and a b) k ≡ true → permitted a k ≡ true
unfolding permitted
masked a b k h = eq-eqb (a / 2 ^ k % 2) 1 (and_bit a b k (eqb-true (bit_and a b / 2 ^ k % 2) 1 h))

-- nor does Global taken away
even_bit : (a k : ℕ) → a / 2 * 2 / 2 ^ k % 2 ≡ 1 → a / 2 ^ k % 2 ≡ 1
even_bit a zero h = absurd (omega arith)
even_bit a (suc k) h =
    let s : 1 + k ≡ suc k = omega arith in
    let d : a / 2 * 2 / 2 ^ 1 ≡ a / 2 ^ 1 = omega arith in
    let q : a / 2 * 2 / 2 ^ (1 + k) % 2 ≡ 1 = rw (← s) at h in
    let r : a / 2 ^ 1 / 2 ^ k % 2 ≡ 1 = rw (← shr-shr (a / 2 * 2) 1 k, d) at q in
    rw (← s, ← shr-shr a 1 k) r

even : (a k : ℕ) → permitted (a / 2 * 2) k ≡ true → permitted a k ≡ true
unfolding permitted
even a k h = eq-eqb (a / 2 ^ k % 2) 1 (even_bit a k (eqb-true (a / 2 * 2 / 2 ^ k % 2) 1 h))

less_global : (a b k : ℕ) → permitted (and_global a b) k ≡ true → permitted a k ≡ true
unfolding and_global
less_global a b k h = go (permitted b GLOBAL) h
  where
    go : (t : Bool) → permitted (cond t a (a / 2 * 2)) k ≡ true → permitted a k ≡ true
    go true h = h
    go false h = even a k h

global_le : (a b : ℕ) → and_global a b ≤ a
unfolding and_global
global_le a b = go (permitted b GLOBAL)
  where
    go : (t : Bool) → cond t a (a / 2 * 2) ≤ a
    go true = omega arith
    go false = omega arith

-- fewer permissions, the same range
fewer : (c d : Cap) → c.base.0 ≡ d.base.0 → c.length ≡ d.length → c.perms ≤ d.perms
    → ((k : ℕ) → permitted c.perms k ≡ true → permitted d.perms k ≡ true) → Narrows c d
fewer c d b n l p = record { inside = λ f. record { bytes = λ a h. omega arith; permissions = p }; fits = λ f. omega arith }

pub narrows_and : (c : Cap) (mask : ℕ) → Narrows (and_perms c mask) c
unfolding and_perms
narrows_and c mask = fewer _ c refl refl (and_le_l c.perms (mask % 2 ^ 31)) (λ k h. masked c.perms (mask % 2 ^ 31) k h)

pub narrows_unseal : (c by : Cap) → Narrows (unsealed_by c by) c
unfolding unsealed_by
narrows_unseal c by = fewer _ c refl refl (global_le c.perms by.perms) (λ k h. less_global c.perms by.perms k h)

pub narrows_seal : (c by : Cap) → Narrows (sealed_by c by) c
unfolding sealed_by
narrows_seal c by = same_range _ c refl refl refl

pub narrows_offset : (c : Cap) (by : ℕ) → Narrows (inc_offset c by) c
unfolding inc_offset
narrows_offset c by = same_range _ c refl refl refl

-- a range cut from below, mod 2^64: at the very top nothing is left
pub narrows_base : (c : Cap) (by : ℕ) → by ≤ c.length → Narrows (inc_base c by) c
unfolding inc_base plus_mod minus_mod
narrows_base c by l = record { inside = λ f. record { bytes = λ a h. omega arith; permissions = λ k h. h }; fits = λ f. omega arith }
