-- A capability's bytes: there and back. Assumes nothing.
use Prim.Native.Nat.{ℕ, zero, suc, ◌+◌, ◌*◌, ◌/◌, ◌%◌, ◌^◌, ◌≤◌, ◌<◌}
use mathlib.Core.Path.{◌≡◌, refl, ◌∙◌, subst}
use mathlib.Core.Bool.{Bool, true, false}
use mathlib.Core.List.{List, [], ◌++◌, append_assoc, append-nil}
use native.Mathlib.Omega.{arith}
use native.Mathlib.Nat.{mod-eq_of_lt}
use lib.Dec.{eqb, ltb}
use borrow.Author.Tests.{ltb-true, ltb-false}
use lib.Pow.{shr-shr}
use lib.ListN.{length, get_or, take, drop, length-append, length-drop, take-append-drop, drop_of_length-le, get_or-eq_default}
use lib.Seq.{take_at, drop_at, drop-drop, take_all, length-take-le, get_or-drop, get_or-take}
use Rattle.manual.specs.Number.{Bytes, be, to_be, plus_mod, minus_mod}
use Rattle.manual.specs.Store.{bit, put}
use Rattle.manual.proofs.Numbers.{length-to_be, be-to_be, to_be-be, be_lt}
use Rattle.manual.proofs.Stores.{put_next}
use Rattle.manual.specs.declared.Cap.{Cap}
use Rattle.manual.specs.Cap.{Within}
use Rattle.manual.specs.Claims.{CapIsKept, BitsAreKept}
use Rattle.manual.specs.Line.{first_word, encode, word, from_words, decode}

-- four doublewords written one after the other over a line
pub line_of : (l : List ℕ) (a b d n : ℕ) → length l ≡ 32
    → put (put (put (put l 0 (to_be 8 a)) 8 (to_be 8 b)) 16 (to_be 8 d)) 24 (to_be 8 n) ≡ to_be 8 a ++ (to_be 8 b ++ (to_be 8 d ++ to_be 8 n))
line_of l a b d n h =
    rw (
      first,
      put_next (to_be 8 a) l (to_be 8 b) 8 (len a) (rw (len b, h) (omega arith)),
      len b,
      put_next (to_be 8 a ++ to_be 8 b) l (to_be 8 d) 16 two (rw (len d, h) (omega arith)),
      len d,
      put_next ((to_be 8 a ++ to_be 8 b) ++ to_be 8 d) l (to_be 8 n) 24 three (rw (len n, h) (omega arith)),
      len n,
      drop_of_length-le l {i = 32} (omega arith),
      append-nil,
    )
    (simp append_assoc)
  where
    len : (v : ℕ) → length (to_be 8 v) ≡ 8
    len v = length-to_be 8 v

    first : put l 0 (to_be 8 a) ≡ to_be 8 a ++ drop 8 l
    first = put_next [] l (to_be 8 a) 0 refl (rw (len a, h) (omega arith)) ∙ rw (len a)

    two : length (to_be 8 a ++ to_be 8 b) ≡ 16
    two = rw (length-append, len a, len b)

    three : length ((to_be 8 a ++ to_be 8 b) ++ to_be 8 d) ≡ 24
    three = rw (length-append (to_be 8 a ++ to_be 8 b) (to_be 8 d), two, len d)

-- the eight bytes behind the first n
part_at : (p q r : List ℕ) (n : ℕ) → length p ≡ n → length q ≡ 8 → take 8 (drop n (p ++ (q ++ r))) ≡ q
part_at p q r n e e' = rw (drop_at p (q ++ r) n e, take_at q r 8 e')

-- the first doubleword's fields, of any numbers within their widths
fields : (s o p t : ℕ) → s < 2 ^ 8 → o < 2 ^ 24 → p < 2 ^ 31 → t < 2
    → ((s * 2 ^ 56 + o % 2 ^ 24 * 2 ^ 32 + p % 2 ^ 31 * 2 + t) / 2 % 2 ^ 31 ≡ p)
    × ((s * 2 ^ 56 + o % 2 ^ 24 * 2 ^ 32 + p % 2 ^ 31 * 2 + t) / 2 ^ 32 % 2 ^ 24 ≡ o)
    × ((s * 2 ^ 56 + o % 2 ^ 24 * 2 ^ 32 + p % 2 ^ 31 * 2 + t) / 2 ^ 56 ≡ s)
    × ((s * 2 ^ 56 + o % 2 ^ 24 * 2 ^ 32 + p % 2 ^ 31 * 2 + t) % 2 ≡ t)
    × (s * 2 ^ 56 + o % 2 ^ 24 * 2 ^ 32 + p % 2 ^ 31 * 2 + t < 2 ^ 64)
fields s o p t hs ho hp ht = omega arith

-- and back: any first doubleword is made of its fields
again : (w : ℕ) → w < 2 ^ 64 → w / 2 ^ 56 * 2 ^ 56 + w / 2 ^ 32 % 2 ^ 24 % 2 ^ 24 * 2 ^ 32 + w / 2 % 2 ^ 31 % 2 ^ 31 * 2 + w % 2 ≡ w
again w h = omega (arith, shr-shr w 1 31, shr-shr w 32 24)

-- an offset there and back, and an address there and back
offset_back : (b o : ℕ) → b < 2 ^ 64 → o < 2 ^ 64 → minus_mod (plus_mod b o) b ≡ o
unfolding plus_mod minus_mod
offset_back b o hb ho = omega arith

address_back : (b a : ℕ) → b < 2 ^ 64 → a < 2 ^ 64 → plus_mod b (minus_mod a b) ≡ a
unfolding plus_mod minus_mod
address_back b a hb ha = omega arith

sealed_back : (x : ℕ) (b : Bool) → (x ≡ bit b) → eqb x 1 ≡ b
sealed_back x true e = rw e
sealed_back x false e = rw e

bit_lt : (b : Bool) → bit b < 2
bit_lt true = omega arith
bit_lt false = omega arith

bit_eqb : (x : ℕ) → x < 2 → bit (eqb x 1) ≡ x
bit_eqb zero h = refl
bit_eqb (suc zero) h = refl
bit_eqb (suc (suc x)) h = absurd (omega arith)

pub words_back : (c : Cap) → Within c → from_words c.tag (first_word c) (plus_mod c.base.0 c.offset.0) c.base.0 c.length ≡ c
unfolding from_words first_word
words_back c w =
    let f = fields c.spare c.otype c.perms (bit c.sealed) w.spare w.otype w.perms (bit_lt c.sealed) in
    λ i. record {
      tag = c.tag;
      sealed = sealed_back _ c.sealed f.3 i;
      perms = f.0 i;
      otype = f.1 i;
      spare = f.2 i;
      base = c.base;
      length = c.length;
      offset = record { 0 = offset_back c.base.0 c.offset.0 w.base w.offset i };
    }

word_back : (v : ℕ) → v < 2 ^ 64 → be (to_be 8 v) % 2 ^ 64 ≡ v
word_back v h = rw (be-to_be 8 v, mod-eq_of_lt h, mod-eq_of_lt h)

-- the quarters of four lists of eight
module _ (a b d n : List ℕ) (ha : length a ≡ 8) (hb : length b ≡ 8) (hd : length d ≡ 8) (hn : length n ≡ 8) where
  pub quarter0 : take 8 (a ++ (b ++ (d ++ n))) ≡ a
  quarter0 = take_at a (b ++ (d ++ n)) 8 ha

  quarter1 : take 8 (drop 8 (a ++ (b ++ (d ++ n)))) ≡ b
  quarter1 = part_at a b (d ++ n) 8 ha hb

  pub quarter2 : take 8 (drop 16 (a ++ (b ++ (d ++ n)))) ≡ d
  quarter2 = rw (← append_assoc a b (d ++ n)) (part_at (a ++ b) d n 16 (rw (length-append, ha, hb)) hd)

  pub quarter3 : take 8 (drop 24 (a ++ (b ++ (d ++ n)))) ≡ n
  quarter3 =
      rw (← append_assoc b d n, ← append_assoc a (b ++ d) n, drop_at (a ++ (b ++ d)) n 24 (rw (length-append, length-append, ha, hb, hd)))
      (take_all 8 n (omega arith))

first_fits : (c : Cap) → Within c → first_word c < 2 ^ 64
unfolding first_word
first_fits c w = (fields c.spare c.otype c.perms (bit c.sealed) w.spare w.otype w.perms (bit_lt c.sealed)).4

mod_fits : (x y : ℕ) → plus_mod x y < 2 ^ 64
unfolding plus_mod
mod_fits x y = omega arith

-- a capability stored and loaded again is the same, where its fields are within their widths
pub cap_is_kept : CapIsKept
unfolding decode encode word
cap_is_kept c w =
    let x = plus_mod c.base.0 c.offset.0 in
    let a = to_be 8 (first_word c) in
    let b = to_be 8 x in
    let d = to_be 8 c.base.0 in
    let n = to_be 8 c.length in
    let ha = length-to_be 8 (first_word c) in
    let hb = length-to_be 8 x in
    let hd = length-to_be 8 c.base.0 in
    let hn = length-to_be 8 c.length in
    rw (
      quarter0 a b d n ha hb hd hn,
      quarter1 a b d n ha hb hd hn,
      quarter2 a b d n ha hb hd hn,
      quarter3 a b d n ha hb hd hn,
      word_back (first_word c) (first_fits c w),
      word_back x (mod_fits c.base.0 c.offset.0),
      word_back c.base.0 w.base,
      word_back c.length w.length,
    )
    (words_back c w)

-- bytes below 256 stay so in a part
part_bytes : (l : List ℕ) (n : ℕ) → Bytes l → n + 8 ≤ length l → Bytes (take 8 (drop n l))
part_bytes l n h k i = go (ltb i 8) refl
  where
    go : (t : Bool) → ltb i 8 ≡ t → get_or (take 8 (drop n l)) i 0 < 256
    go true e = rw (get_or-take 8 (drop n l) i 0 (ltb-true i 8 e), get_or-drop n l i 0) (h (n + i))
    go false e = rw (get_or-eq_default (take 8 (drop n l)) 0 {n = i} (long e)) (omega arith)
      where
        long : ltb i 8 ≡ false → length (take 8 (drop n l)) ≤ i
        long e = rw (length-take-le 8 (drop n l) (simp length-drop (omega arith))) (ltb-false i 8 e)

part_length : (l : List ℕ) (n : ℕ) → n + 8 ≤ length l → length (take 8 (drop n l)) ≡ 8
part_length l n k = length-take-le 8 (drop n l) (simp length-drop (omega arith))

part_fits : (l : List ℕ) (n : ℕ) → Bytes l → n + 8 ≤ length l → be (take 8 (drop n l)) < 2 ^ 64
part_fits l n h k =
    subst (λ (m : ℕ). be (take 8 (drop n l)) < 256 ^ m) (part_length l n k) (be_lt (take 8 (drop n l)) (part_bytes l n h k))

part_back : (l : List ℕ) (n : ℕ) → Bytes l → n + 8 ≤ length l → to_be 8 (be (take 8 (drop n l)) % 2 ^ 64) ≡ take 8 (drop n l)
part_back l n h k =
    rw (mod-eq_of_lt (part_fits l n h k))
    (subst (λ (m : ℕ). to_be m (be (take 8 (drop n l))) ≡ take 8 (drop n l)) (part_length l n k) (to_be-be (take 8 (drop n l)) (part_bytes l n h k)))

-- a line is its quarters
joined : (l : List ℕ) → length l ≡ 32 → take 8 l ++ (take 8 (drop 8 l) ++ (take 8 (drop 16 l) ++ take 8 (drop 24 l))) ≡ l
joined l k =
    rw (take_all 8 (drop 24 l) (simp length-drop (omega arith)), ← drop-drop 8 16 l, take-append-drop 8 (drop 16 l), ← drop-drop 8 8 l, take-append-drop 8 (drop 8 l), take-append-drop 8 l)

words_again : (t : Bool) (a b d n : ℕ) → a < 2 ^ 64 → b < 2 ^ 64 → d < 2 ^ 64
    → (first_word (from_words t a b d n) ≡ a) × (plus_mod d (minus_mod b d) ≡ b)
unfolding first_word from_words
words_again t a b d n ha hb hd = (rw (bit_eqb (a % 2) (omega arith)) (again a ha), address_back d b hd hb)

-- any 32 bytes loaded and stored again are the same
pub bits_are_kept : BitsAreKept
unfolding decode encode word from_words
bits_are_kept t l h k =
    let low : (x : ℕ) → x % 2 ^ 64 < 2 ^ 64 = λ x. omega arith in
    let w : ℕ → ℕ = λ n. be (take 8 (drop n l)) % 2 ^ 64 in
    let e = words_again t (w 0) (w 8) (w 16) (w 24) (low (be (take 8 l))) (low (be (take 8 (drop 8 l)))) (low (be (take 8 (drop 16 l)))) in
    rw (e.0, e.1, part_back l 0 h (omega arith), part_back l 8 h (omega arith), part_back l 16 h (omega arith), part_back l 24 h (omega arith))
    (joined l k)

pub length-encode : (c : Cap) → length (encode c) ≡ 32
unfolding encode
length-encode c = simp (length-append, length-to_be)
