-- What is read of a case, within its bytes and past them. Assumes nothing.
use Rattle.std.proofs.Common.{◌≡◌, ℕ, suc, ◌+◌, ◌-◌, ◌<◌, ◌≤◌, List, [], ◌++◌, length, take, drop, set, ap, ◌∙◌, arith, length-take-le, le-ltb, lt-ltb, le-leb}
use native.Mathlib.Nat.{add-sub_cancel_left}
use borrow.Author.Tests.{lt-leb}
use borrow.Rule.Slice.PartMut.{put_mid, post_of}
use lib.Seq.{take-append-add, take-append-le}
use Rattle.tables.specs.Tables.{byte_at, place_after, part_at, number_at, entries, with_value}

module _ (s : List ℕ) (at size : ℕ) where
  pub part_in : at + size ≤ length s → take (at + size - at) (drop at s) ≡ part_at s at size
  unfolding part_at
  part_in h = rw (add-sub_cancel_left, le-leb (at + size) (length s) h)

  pub part_cut : length s < at + size → [] ≡ part_at s at size
  unfolding part_at
  part_cut h = rw (lt-leb (at + size) (length s) h)

-- an entry more, and none left
module _ {A : Type 0} (next : ℕ → ℕ) (makes : ℕ → A → A) (e k at : ℕ) (a : A) where
  pub entry_more : (at' : ℕ) (a' : A) → k < e → at' ≡ next at → a' ≡ makes at a → entries (e - (k + 1)) next makes at' a' ≡ entries (e - k) next makes at a
  unfolding entries
  entry_more at' a' h p q = let z : e - k ≡ suc (e - (k + 1)) = omega arith in rw (z, p, q)

  pub entry_none : e ≤ k → entries (e - k) next makes at a ≡ a
  unfolding entries
  entry_none h = let z : e - k ≡ 0 = omega arith in rw z

-- a general register that is there, and one that is not
module _ (body general : List ℕ) (at number value : ℕ) (p : number ≡ byte_at body at) (q : value ≡ number_at body (place_after at 1) 8) where
  pub value_set : (general' : List ℕ) → number < 32 → general' ≡ set general number value → general' ≡ with_value body at general
  unfolding with_value
  value_set general' h e = rw (← p, ← q, lt-ltb number 32 h) e

  pub value_none : (general' : List ℕ) → 32 ≤ number → general' ≡ general → general' ≡ with_value body at general
  unfolding with_value
  value_none general' h e = rw (← p, le-ltb number 32 h) e

-- what is read at `done` stands behind what was read before
pub read_more : (l ys : List ℕ) (done k n : ℕ) → done ≤ length l → n ≤ length ys → take (done + n) (put_mid done k l ys) ≡ take done l ++ take n ys
read_more l ys done k n h i =
    let m : done + n ≡ length (take done l) + n = omega (arith, length-take-le done l h) in
    ap (λ (m : ℕ). take m (put_mid done k l ys)) m ∙ take-append-add (take done l) (ys ++ post_of done k l) n ∙ ap (λ (t : List ℕ). take done l ++ t) (take-append-le n ys (post_of done k l) i)
