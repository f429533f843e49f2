-- Parts of lists, and the same store made in two of them. Assumes nothing.
use Prim.Native.Nat.{ℕ, zero, suc, ◌+◌, ◌-◌, ◌≤◌, ◌<◌, min}
use mathlib.Core.Path.{◌≡◌, refl, sym, ap, ◌∙◌}
use mathlib.Core.Bool.{Bool, true, false, cond}
use mathlib.Core.Logic.{inl, inr}
use mathlib.Core.List.{List, [], ◌∷◌}
use native.Mathlib.Omega.{arith}
use native.Mathlib.Decide.{dec_lt}
use lib.Dec.{eqb, leb}
use borrow.Author.Tests.{eqb-true}
use lib.ListN.{length, get_or, set, take, drop, length-set, length-take, length-drop}
use lib.Seq.{sets, get_or-take, get_or-drop, ext_get_or}
use Rattle.manual.specs.Store.{bit, put, tag_of, with_tag}
use Rattle.manual.proofs.Stores.{others_stay}

pub never : (A : Type 0) → false ≡ true → A
never A e = let z : ◌≡◌ {A = ℕ} 0 1 = cc in absurd (omega arith)

-- parts are equal if their elements are
pub part_eq : (l l' : List ℕ) (i n : ℕ) → length l ≡ length l' → ((j : ℕ) → j < n → get_or l (i + j) 0 ≡ get_or l' (i + j) 0)
    → take n (drop i l) ≡ take n (drop i l')
part_eq l l' i n e h =
    ext_get_or 0 (take n (drop i l)) (take n (drop i l'))
    (length-take n (drop i l) ∙ ap (min n) (length-drop i l ∙ ap (λ k. k - i) e ∙ sym (length-drop i l')) ∙ sym (length-take n (drop i l')))
    (λ j k.
    let k' : j < n = omega (arith, length-take n (drop i l)) in
    get_or-take n (drop i l) j 0 k' ∙ get_or-drop i l j 0 ∙ h j k' ∙ sym (get_or-drop i l' j 0) ∙ sym (get_or-take n (drop i l') j 0 k'))

-- the same store keeps whatever is said of an element equal in two lists wherever it was
set_same : {A : Type 0} (f : ℕ → A) (l l' : List ℕ) (i j a : ℕ) → length l ≡ length l' → f (get_or l j 0) ≡ f (get_or l' j 0)
    → f (get_or (set l i a) j 0) ≡ f (get_or (set l' i a) j 0)
set_same f [] [] i j a e h = refl
set_same f [] (y ∷ ys) i j a e h = absurd (omega arith)
set_same f (x ∷ xs) [] i j a e h = absurd (omega arith)
set_same f (x ∷ xs) (y ∷ ys) zero zero a e h = refl
set_same f (x ∷ xs) (y ∷ ys) zero (suc j) a e h = h
set_same f (x ∷ xs) (y ∷ ys) (suc i) zero a e h = h
set_same f (x ∷ xs) (y ∷ ys) (suc i) (suc j) a e h = set_same f xs ys i j a (omega arith) h

sets_same : (vs l l' : List ℕ) (i j : ℕ) → length l ≡ length l' → get_or l j 0 ≡ get_or l' j 0 → get_or (sets l i vs) j 0 ≡ get_or (sets l' i vs) j 0
sets_same [] l l' i j e h = h
sets_same (a ∷ vs) l l' i j e h =
    sets_same vs (set l i a) (set l' i a) (suc i) j (length-set l i a ∙ e ∙ sym (length-set l' i a)) (set_same (λ x. x) l l' i j a e h)

pub put_same : (l l' : List ℕ) (i j : ℕ) (vs : List ℕ) → length l ≡ length l' → get_or l j 0 ≡ get_or l' j 0 → get_or (put l i vs) j 0 ≡ get_or (put l' i vs) j 0
unfolding put
put_same l l' i j vs e h = rw (← e) (go (leb (i + length vs) (length l)))
  where
    go : (t : Bool) → get_or (cond t (sets l i vs) l) j 0 ≡ get_or (cond t (sets l' i vs) l') j 0
    go true = sets_same vs l l' i j e h
    go false = h

-- and the same tag
pub tag_same : (l l' : List ℕ) (i j : ℕ) (t : Bool) → length l ≡ length l' → tag_of l j ≡ tag_of l' j → tag_of (with_tag l i t) j ≡ tag_of (with_tag l' i t) j
unfolding tag_of with_tag
tag_same l l' i j t e h = set_same (λ x. eqb x 1) l l' i j (bit t) e h

-- a line that is tagged after its tag was written was given the tag
pub tag_given : (l : List ℕ) (i : ℕ) (t : Bool) → tag_of (with_tag l i t) i ≡ true → t ≡ true
unfolding tag_of with_tag
tag_given [] i t h = let z = eqb-true 0 1 h in absurd (omega arith)
tag_given (x ∷ xs) zero true h = refl
tag_given (x ∷ xs) zero false h = let z = eqb-true 0 1 h in absurd (omega arith)
tag_given (x ∷ xs) (suc i) t h = tag_given xs i t h

-- a store leaves what it does not come to
pub put_outside : (vs l : List ℕ) (i j : ℕ) → (i ≤ j → j < i + length vs → ⊥) → get_or (put l i vs) j 0 ≡ get_or l j 0
put_outside vs l i j h = go (dec_lt j i) (dec_lt j (i + length vs))
  where
    go : Dec (j < i) → Dec (j < i + length vs) → get_or (put l i vs) j 0 ≡ get_or l j 0
    go (yes p) q = others_stay l i j vs (inl p)
    go (no p) (yes q) = absurd (h (omega arith) q)
    go (no p) (no q) = others_stay l i j vs (inr (omega arith))

-- what holds of each element, up to an index that is asked for, holds after one is set
pub all_set : {A : Type 0} (Asked : ℕ → Type 0) (P : A → Type 0) (d : A) (l : List A) (k : ℕ) (a : A)
    → ((i : ℕ) → Asked i → P (get_or l i d)) → P a → (i : ℕ) → Asked i → P (get_or (set l k a) i d)
all_set Asked P d [] k a h p i q = h i q
all_set Asked P d (x ∷ xs) zero a h p zero q = p
all_set Asked P d (x ∷ xs) zero a h p (suc i) q = h (suc i) q
all_set Asked P d (x ∷ xs) (suc k) a h p zero q = h zero q
all_set Asked P d (x ∷ xs) (suc k) a h p (suc i) q = all_set (λ j. Asked (suc j)) P d xs k a (λ j r. h (suc j) r) p i q
