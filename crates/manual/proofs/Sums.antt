-- The laws of the exact sum and of the access test. Assumes nothing.
use Rattle.std.specs.Prelude.{Result, Ok, Err, Some, None, Option}
use Prim.Native.Nat.{ℕ, suc, ◌+◌, ◌-◌, ◌%◌, ◌^◌, ◌≤◌, ◌<◌}
use mathlib.Core.Path.{◌≡◌, refl, ap}
use mathlib.Core.Bool.{Bool, true, false, cond}
use native.Mathlib.Omega.{arith}
use native.Mathlib.Nat.{add-zero, sub-zero, add_assoc}
use borrow.Author.Tests.{ltb-false, lt-ltb, le-ltb, le-leb, lt-leb}
use lib.Dec.{ltb}
use lib.IntN.{ℤ, pos, negsuc, +ℤ_assoc, +ℤ_comm}
use Rattle.manual.specs.declared.Address.{Address}
use Rattle.manual.specs.declared.Offset.{Offset}
use Rattle.manual.specs.Number.{plus_mod, address_at}
use Rattle.manual.specs.Sum.{offset_of, net}
use Rattle.manual.specs.Access.{signed, sum_of, aligned, placed_at, placed_from}
use Rattle.manual.specs.declared.Unfit.{Unfit}

-- up - down, by the cases of the answer
pub net_at : (u d v : ℕ) → d ≤ u → u - d ≡ v → v < 2 ^ 64 → Some (record { 0 = v }) ≡ net u d
unfolding net offset_of
net_at u d v h e k = rw (le-ltb u d h, e, lt-ltb v (2 ^ 64) k)

pub net_low : (u d : ℕ) → u < d → None ≡ net u d
unfolding net offset_of
net_low u d h = rw (lt-ltb u d h)

pub net_high : (u d : ℕ) → d + 2 ^ 64 ≤ u → None ≡ net u d
unfolding net offset_of
net_high u d h = rw (le-ltb u d (omega arith), le-ltb (u - d) (2 ^ 64) (omega arith))

-- the signed numbers
signed_up : (n : ℕ) → n < 2 ^ 63 → signed n ≡ pos n
unfolding signed
signed_up n h = rw (lt-ltb n (2 ^ 63) h)

signed_down : (n : ℕ) → 2 ^ 63 ≤ n → signed n ≡ negsuc (2 ^ 64 - suc n)
unfolding signed
signed_down n h = rw (le-ltb n (2 ^ 63) h)

-- the magnitude as the code computes it
magnitude : (n : ℕ) → n < 2 ^ 64 → suc (2 ^ 64 - suc n) ≡ 2 ^ 64 - 1 - n + 1
magnitude n h = omega arith

pub up_up : (o rt imm : ℕ) → rt < 2 ^ 63 → imm < 2 ^ 63 → net (o + (rt + imm)) 0 ≡ offset_of (sum_of o rt imm)
unfolding net sum_of
up_up o rt imm h k = rw (signed_up rt h, signed_up imm k, le-ltb (o + (rt + imm)) 0 (omega arith), sub-zero, add_assoc)

pub up_down : (o rt imm : ℕ) → rt < 2 ^ 63 → 2 ^ 63 ≤ imm → imm < 2 ^ 64 → net (o + rt) (2 ^ 64 - 1 - imm + 1) ≡ offset_of (sum_of o rt imm)
unfolding net sum_of
up_down o rt imm h k f = rw (signed_up rt h, signed_down imm k, ← magnitude imm f)

pub down_up : (o rt imm : ℕ) → 2 ^ 63 ≤ rt → rt < 2 ^ 64 → imm < 2 ^ 63 → net (o + imm) (2 ^ 64 - 1 - rt + 1) ≡ offset_of (sum_of o rt imm)
unfolding net sum_of
down_up o rt imm h f k =
    rw (signed_down rt h, signed_up imm k, ← magnitude rt f, +ℤ_assoc, +ℤ_comm (negsuc (2 ^ 64 - suc rt)) (pos imm), ← +ℤ_assoc)

pub down_down : (o rt imm : ℕ) → 2 ^ 63 ≤ rt → rt < 2 ^ 64 → 2 ^ 63 ≤ imm → imm < 2 ^ 64 → 2 ^ 64 - 1 - rt + 1 ≤ o
    → net (o - (2 ^ 64 - 1 - rt + 1) + 0) (2 ^ 64 - 1 - imm + 1) ≡ offset_of (sum_of o rt imm)
unfolding net sum_of
down_down o rt imm h f k g b =
    rw (signed_down rt h, signed_down imm k, add-zero, ← magnitude rt f, ← magnitude imm g, le-ltb o (suc (2 ^ 64 - suc rt)) (omega arith))

pub below : (o rt imm : ℕ) → 2 ^ 63 ≤ rt → rt < 2 ^ 64 → 2 ^ 63 ≤ imm → o < 2 ^ 64 - 1 - rt + 1 → None ≡ offset_of (sum_of o rt imm)
unfolding sum_of offset_of
below o rt imm h f k b = rw (signed_down rt h, signed_down imm k, lt-ltb o (suc (2 ^ 64 - suc rt)) (omega arith))

-- the test, by its cases
pub too_long : (b n o s : ℕ) → n < o + s → (Err Unfit.Length) ≡ placed_at b n o s
unfolding placed_at
too_long b n o s h = rw (lt-leb (o + s) n h)

pub too_high : (b n o s : ℕ) → o + s ≤ n → 2 ^ 64 < b + (o + s) → (Err Unfit.Length) ≡ placed_at b n o s
unfolding placed_at
too_high b n o s h k = rw (le-leb (o + s) n h, lt-leb (b + o + s) (2 ^ 64) (omega arith))

pub fitting : (b n o s : ℕ) {x : Result Address Unfit} → o + s ≤ n → b + (o + s) ≤ 2 ^ 64
    → x ≡ cond (aligned (b + o) s) (Ok (record { 0 = b + o })) (Err Unfit.Misaligned) → x ≡ placed_at b n o s
unfolding placed_at
fitting b n o s h k e = rw (le-leb (o + s) n h, le-leb (b + o + s) (2 ^ 64) (omega arith)) e

-- what an answer of the sum says of the access
same_offset : (t : Bool) (o k : ℕ) → ◌≡◌ {A = Option Offset} (Some (record { 0 = o })) (cond t (Some (record { 0 = k })) None) → o ≡ k
same_offset true o k e = let r : ◌≡◌ {A = Offset} (record { 0 = o }) (record { 0 = k }) = cc in ap (λ (x : Offset). x.0) r
same_offset false o k e = cc

pub sum_in : (b n s o : ℕ) (z : ℤ) → Some (record { 0 = o }) ≡ offset_of z → placed_at b n o s ≡ placed_from b n z s
unfolding offset_of placed_from
sum_in b n s o (pos k) e = ap (λ (x : ℕ). placed_at b n x s) (same_offset (ltb k (2 ^ 64)) o k e)
sum_in b n s o (negsuc k) e = cc

past : (t : Bool) (k : ℕ) → ltb k (2 ^ 64) ≡ t → ◌≡◌ {A = Option Offset} None (cond t (Some (record { 0 = k })) None) → 2 ^ 64 ≤ k
past true k h e = let z : ◌≡◌ {A = ℕ} 0 1 = cc in absurd (omega arith)
past false k h e = ltb-false k (2 ^ 64) h

pub sum_out : (b n s : ℕ) (z : ℤ) → n < 2 ^ 64 → None ≡ offset_of z → (Err Unfit.Length) ≡ placed_from b n z s
unfolding offset_of placed_from
sum_out b n s (pos k) h e = let g : 2 ^ 64 ≤ k = past (ltb k (2 ^ 64)) k refl e in too_long b n k s (omega arith)
sum_out b n s (negsuc k) h e = refl

-- the address of an access that fits, and the answer to its alignment
pub exact : (a base : Address) (o : Offset) (size : ℕ) → a ≡ address_at base o → base.0 + (o.0 + size) ≤ 2 ^ 64 → 0 < size → a.0 ≡ base.0 + o.0
unfolding plus_mod
exact a base o size e h k = let f : a.0 ≡ (base.0 + o.0) % 2 ^ 64 = ap (λ (x : Address). x.0) e in omega arith

pub answer : (a : Address) (x size : ℕ) (t : Bool) → a.0 ≡ x → t ≡ aligned a.0 size
    → cond t (Ok a) (Err Unfit.Misaligned) ≡ cond (aligned x size) (Ok (record { 0 = x })) (Err Unfit.Misaligned)
answer a x size t e f = rw (← e, f)
