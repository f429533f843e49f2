-- A walk over pieces that are each a record or nothing goes on to their end. Assumes nothing.
use Rattle.std.specs.Prelude.{Ok}
use Prim.Native.Nat.{ℕ, zero, suc, ◌+◌, ◌≤◌, ◌<◌}
use mathlib.Core.Path.{◌≡◌, refl, sym, ◌∙◌, ap, subst}
use mathlib.Core.Bool.{Bool, true, false, cond}
use mathlib.Core.List.{List, [], ◌++◌, append_assoc}
use native.Mathlib.Omega.{arith}
use borrow.Author.Tests.{le-leb}
use lib.ListN.{length, length-append}
use Rattle.pages.specs.declared.Entry.{Entry}
use Rattle.pages.specs.Record.{head_at}
use Rattle.pages.specs.Book.{more, kind_of, key_of, in_order, after_head, step_at, walk}
use Rattle.pages.proofs.Walks.{rises, goes_on, walk_done}
use Rattle.pages.specs.Compose.{record_of}
use Rattle.pages.specs.Runs.{pieces}
use Rattle.reread.specs.Records.{Found}
use Rattle.reread.proofs.Found.{record_end}

-- what stands from a place on
pub record Suffix (book : List ℕ) (at : ℕ) (rest : List ℕ) : Type 0 where
  pub before : List ℕ
  pub split : book ≡ before ++ rest
  pub place : length before ≡ at

pub further : (book : List ℕ) (at : ℕ) (xs ys : List ℕ) → Suffix book at (xs ++ ys) → Suffix book (at + length xs) ys
further book at xs ys s =
    record {
      before = s.before ++ xs;
      split = s.split ∙ sym (append_assoc s.before xs ys);
      place = length-append s.before xs ∙ ap (λ (n : ℕ). n + length xs) s.place;
    }

-- from a place on the walk accepts, after a record of this kind and key
abbrev pub Goes : List ℕ → ℕ → ℕ → ℕ → ℕ → Type 0
Goes book ram at kind key = (n : ℕ) → length book ≤ n + at → walk n book ram (step_at book ram at kind key) ≡ (Ok tt)

pub goes_end : (book : List ℕ) (ram at kind key : ℕ) → length book ≤ at → Goes book ram at kind key
unfolding step_at head_at after_head
goes_end book ram at kind key h n k = rw (le-leb (length book) at h) (walk_done n book ram)

pub goes_over : (book : List ℕ) (ram at kind key x : ℕ) (e : Entry) → step_at book ram at kind key ≡ more x e → at < x → Goes book ram x (kind_of e) (key_of e) → Goes book ram at kind key
unfolding walk
goes_over book ram at kind key x e p h g zero k = refl
goes_over book ram at kind key x e p h g (suc n) k = rw p (g n (omega arith))

-- every record of kind K from key b on may follow
pub record Upto (K b kind key : ℕ) : Type 0 where
  pub kinds : kind ≤ K
  pub follows : (next : ℕ) → b ≤ next → in_order kind key K next ≡ true

pub upto_more : (K b b' kind key : ℕ) → b ≤ b' → Upto K b kind key → Upto K b' kind key
upto_more K b b' kind key h u = record { kinds = u.kinds; follows = λ next k. u.follows next (omega arith) }

upto_own : (K b b' : ℕ) → b < b' → Upto K b' K b
upto_own K b b' h = record { kinds = omega arith; follows = λ next k. sym (goes_on K b K next (omega arith) refl (omega arith)) }

pub upto_next : (K K' b b' kind key : ℕ) → K < K' → Upto K b kind key → Upto K' b' kind key
upto_next K K' b b' kind key h u =
    let l = u.kinds in
    record { kinds = omega (arith, l); follows = λ next k. sym (rises kind key K' next (omega (arith, l))) }

-- One piece: nothing, or a record that is found. `Before` and `After` say what holds at a place, after a record of a kind and key:
-- a walk that keeps a state says by them what it has then.
pub record Passes (book : List ℕ) (ram : ℕ) (absent : Bool) (body : List ℕ) (entry : Entry) (Before After : ℕ → ℕ → ℕ → Type 0) : Type 0 where
  pub skip : absent ≡ true → (at kind key : ℕ) → After at kind key → Before at kind key
  pub over : absent ≡ false → (at : ℕ) (rest : List ℕ) → Suffix book at (record_of body ++ rest)
      → (kind key x : ℕ) → x ≡ at + length (record_of body) → step_at book ram at kind key ≡ more x entry → at < x → After x (kind_of entry) (key_of entry) → Before at kind key

-- where a walk accepts after a piece, it accepts before it
pub accepts : (book : List ℕ) (ram : ℕ) (absent : Bool) (body : List ℕ) (entry : Entry) → Passes book ram absent body entry (Goes book ram) (Goes book ram)
accepts book ram absent body entry =
    record { skip = λ e at kind key g. g; over = λ e at rest s kind key x q p l g. goes_over book ram at kind key x entry p l g }

module _ (book : List ℕ) (ram : ℕ) (Before After : ℕ → ℕ → ℕ → Type 0) where
  pub piece_goes : (t : Bool) (body : List ℕ) (entry : Entry) (K b b' : ℕ) → kind_of entry ≡ K → key_of entry ≡ b → b < b' → (t ≡ false → Found body ram entry)
      → Passes book ram t body entry Before After → (at : ℕ) (rest : List ℕ) → Suffix book at (cond t [] (record_of body) ++ rest)
      → ((kind key : ℕ) → Upto K b' kind key → After (at + length (cond t [] (record_of body))) kind key)
      → (kind key : ℕ) → Upto K b kind key → Before at kind key
  piece_goes true body entry K b b' ek eb h f q at rest s after kind key u =
      let z : at + 0 ≡ at = omega arith in
      q.skip refl at kind key (subst (λ (x : ℕ). After x kind key) z (after kind key (upto_more K b b' kind key (omega arith) u)))
  piece_goes false body entry K b b' ek eb h f q at rest s after kind key u =
      let o : in_order kind key (kind_of entry) (key_of entry) ≡ true = rw (ek, eb) (u.follows b (omega arith)) in
      let p : step_at book ram at kind key ≡ more (at + length (record_of body)) entry = rw (s.split, ← s.place) (f refl s.before rest kind key o) in
      q.over refl at rest s kind key (at + length (record_of body)) refl p (omega (arith, record_end body at)) (rw (ek, eb) (after K b (upto_own K b b' h)))

-- pieces one after the other; `Holds i` is what holds before piece i
module _ (book : List ℕ) (K low last : ℕ) (key : ℕ → ℕ) (piece : ℕ → List ℕ) (Holds : ℕ → ℕ → ℕ → ℕ → Type 0)
    (one : (i : ℕ) → low ≤ i → i < last → (at : ℕ) (rest : List ℕ) → Suffix book at (piece i ++ rest)
    → ((kind k : ℕ) → Upto K (key (suc i)) kind k → Holds (suc i) (at + length (piece i)) kind k)
    → (kind k : ℕ) → Upto K (key i) kind k → Holds i at kind k) where
  pub pieces_go : (n i at : ℕ) (rest : List ℕ) → low ≤ i → i + n ≤ last → Suffix book at (pieces n i piece ++ rest)
      → ((kind k : ℕ) → Upto K (key (i + n)) kind k → Holds (i + n) (at + length (pieces n i piece)) kind k)
      → (kind k : ℕ) → Upto K (key i) kind k → Holds i at kind k
  unfolding pieces
  pieces_go zero i at rest g h s after kind k u =
      let z : at + 0 ≡ at = omega arith in
      let y : i + 0 ≡ i = omega arith in
      subst (λ (x : ℕ). Holds i x kind k) z (subst (λ (x : ℕ). Holds x (at + 0) kind k) y (after kind k (rw y u)))
  pieces_go (suc n) i at rest g h s after kind₀ k₀ u₀ =
      let P = pieces n (suc i) piece in
      let s' : Suffix book at (piece i ++ (P ++ rest)) = subst (λ (l : List ℕ). Suffix book at l) (append_assoc (piece i) P rest) s in
      let y : suc i + n ≡ i + suc n = omega arith in
      let z : at + length (piece i ++ P) ≡ at + length (piece i) + length P = rw length-append (omega arith) in
      one i g (omega arith) at (P ++ rest) s'
      (pieces_go n (suc i) (at + length (piece i)) rest (omega arith) (omega arith) (further book at (piece i) (P ++ rest) s')
      (λ kind k u.
      subst (λ (x : ℕ). Holds x (at + length (piece i) + length P) kind k) (sym y)
      (subst (λ (x : ℕ). Holds (i + suc n) x kind k) z (after kind k (subst (λ (x : ℕ). Upto K (key x) kind k) y u)))))
      kind₀ k₀ u₀
