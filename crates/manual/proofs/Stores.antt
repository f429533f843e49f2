-- The laws of tags and of stores. Assumes nothing.
use Prim.Native.Nat.{ℕ, suc, ◌+◌, ◌-◌, ◌≤◌, ◌<◌}
use mathlib.Core.Path.{◌≡◌, refl, ◌∙◌}
use mathlib.Core.Logic.{◌⊎◌, inl, inr, ⊎_elim}
use mathlib.Core.Bool.{Bool, true, false, cond}
use mathlib.Core.List.{List, [], ◌∷◌, ◌++◌, append_assoc}
use native.Mathlib.Omega.{arith}
use native.Mathlib.Nat.{add-sub_cancel_left}
use lib.Dec.{leb}
use borrow.Author.Tests.{le-leb, lt-leb}
use lib.ListN.{length, get_or, take, drop, set, length-set, length-append, length-drop}
use lib.Seq.{sets, sets-eq, length-sets, drop-drop, take_at, drop_at, length-take-le, get_or-set_same, get_or-set_other}
use Rattle.manual.specs.Number.{to_be}
use Rattle.manual.specs.Claims.{StoredIsLoaded, OthersStay, TagIsSet, OtherTagsStay}
use Rattle.manual.proofs.Numbers.{length-to_be, be-to_be}
use Rattle.manual.specs.Store.{bit, put, tag_of, with_tag}

-- bytes that fit, and bytes that do not
pub put-fits : (l : List ℕ) (at : ℕ) (vs : List ℕ) → at + length vs ≤ length l → put l at vs ≡ take at l ++ (vs ++ drop (at + length vs) l)
unfolding put
put-fits l at vs h = rw (le-leb (at + length vs) (length l) h, sets-eq vs l at h, append_assoc)

pub put_out : (l : List ℕ) (at : ℕ) (vs : List ℕ) → length l < at + length vs → put l at vs ≡ l
unfolding put
put_out l at vs h = rw (lt-leb (at + length vs) (length l) h)

-- a part that was lent and came back as `vs`
pub put_part : (l : List ℕ) (at n : ℕ) (ys vs : List ℕ) → at + n ≤ length l → ys ≡ vs → length vs ≡ n
    → take at l ++ (ys ++ drop (at + n - at) (drop at l)) ≡ put l at vs
put_part l at n ys vs h e k = rw (e, add-sub_cancel_left, drop-drop, ← k, put-fits l at vs (omega arith))

pub length-put : (l : List ℕ) (at : ℕ) (vs : List ℕ) → length (put l at vs) ≡ length l
unfolding put
length-put l at vs = go (leb (at + length vs) (length l))
  where
    go : (t : Bool) → length (cond t (sets l at vs) l) ≡ length l
    go true = length-sets l at vs
    go false = refl

-- bytes written one after the other from the front
pub put_next : (p l vs : List ℕ) (n : ℕ) → length p ≡ n → n + length vs ≤ length l → put (p ++ drop n l) n vs ≡ (p ++ vs) ++ drop (n + length vs) l
put_next p l vs n e h =
    rw (
      put-fits (p ++ drop n l) n vs (simp (length-append, length-drop) (omega arith)),
      take_at p (drop n l) n e,
      ← drop-drop (length vs) n (p ++ drop n l),
      drop_at p (drop n l) n e,
      drop-drop (length vs) n l,
      ← append_assoc p vs (drop (n + length vs) l),
    )

-- the length of a part that is lent
pub length_part : (l : List ℕ) (at n : ℕ) → at + n ≤ length l → length (take (at + n - at) (drop at l)) ≡ n
length_part l at n h = rw add-sub_cancel_left (length-take-le n (drop at l) (simp length-drop (omega arith)))

-- what was written is read back
pub put-read : (l : List ℕ) (at n : ℕ) (vs : List ℕ) → at + n ≤ length l → length vs ≡ n → take n (drop at (put l at vs)) ≡ vs
put-read l at n vs h e =
    rw (
      put-fits l at vs (omega arith),
      drop_at (take at l) (vs ++ drop (at + length vs) l) at (length-take-le at l (omega arith)),
      take_at vs (drop (at + length vs) l) n e,
    )

pub stored_is_loaded : StoredIsLoaded
stored_is_loaded l at n v h = rw (put-read l at n (to_be n v) h (length-to_be n v)) (be-to_be n v)

-- every other byte as it was, one store after the other
sets_other : (l : List ℕ) (at i : ℕ) (vs : List ℕ) → (i < at) ⊎ (at + length vs ≤ i) → get_or (sets l at vs) i 0 ≡ get_or l i 0
sets_other l at i [] h = refl
sets_other l at i (v ∷ vs) h =
    sets_other (set l at v) (suc at) i vs (⊎_elim (λ w. inl (omega arith)) (λ w. inr (omega arith)) h)
    ∙ get_or-set_other l at i v 0 (λ e. ⊎_elim (λ w. omega arith) (λ w. omega arith) h)

pub others_stay : OthersStay
unfolding put
others_stay l at i vs h = go (leb (at + length vs) (length l))
  where
    go : (t : Bool) → get_or (cond t (sets l at vs) l) i 0 ≡ get_or l i 0
    go true = sets_other l at i vs h
    go false = refl

-- the tag that was set is read, every other as it was
pub tag_is_set : TagIsSet
unfolding tag_of with_tag
tag_is_set tags line true h = rw (get_or-set_same tags line 1 0 h)
tag_is_set tags line false h = rw (get_or-set_same tags line 0 0 h)

pub other_tags_stay : OtherTagsStay
unfolding tag_of with_tag
other_tags_stay tags line other tag h = rw (get_or-set_other tags line other (bit tag) 0 h)

pub length_with_tag : (tags : List ℕ) (line : ℕ) (tag : Bool) → length (with_tag tags line tag) ≡ length tags
unfolding with_tag
length_with_tag tags line tag = length-set tags line (bit tag)
