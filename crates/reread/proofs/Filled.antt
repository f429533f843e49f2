-- Zeros that take a list's elements from the front become that list: what a reader has at each record. Assumes nothing.
use Prim.Native.Nat.{ℕ, suc, ◌+◌, ◌≤◌, ◌<◌}
use mathlib.Core.Path.{◌≡◌, sym, ◌∙◌, ap}
use mathlib.Core.Bool.{Bool, true, not, ◌&&◌}
use mathlib.Core.List.{List, [], ◌∷◌, ◌++◌, append_assoc, append-nil}
use native.Mathlib.Omega.{arith}
use lib.Dec.{eqb}
use borrow.Author.Tests.{eqb-true, not-true}
use lib.ListN.{length, get_or, set, take, drop, replicate, length-append, length-replicate, get_or-replicate, length-drop, take-append-drop, drop_of_length-le}
use lib.Seq.{take-suc, take-add, take_all, take_at, drop_at, drop-cons, drop-drop, set_at, append_snoc, length-take-le, get_or-take, get_or-drop, ext_get_or}
use Rattle.manual.specs.Number.{to_be}
use Rattle.manual.specs.Store.{bit, put}
use Rattle.manual.proofs.Numbers.{length-to_be}
use Rattle.manual.proofs.Stores.{put_next}
use Rattle.manual.specs.declared.Cap.{Cap}
use Rattle.manual.specs.Narrow.{null}
use Rattle.pages.specs.Compose.{fields, record_of, line_body, zero_cap, zero_bytes}
use Rattle.pages.proofs.Fields.{length_fields}
use Rattle.manual.proofs.Tests.{both_true}
use Rattle.manual.proofs.Accepted.{each}
use Rattle.reread.proofs.Walked.{Suffix}

-- the first i elements of xs over those of zs
abbrev pub filled : {A : Type 0} → List A → List A → ℕ → List A
filled xs zs i = take i xs ++ drop i zs

module _ {A : Type 0} (xs zs : List A) (e : length zs ≡ length xs) (d : A) where
  next_taken : (i : ℕ) → i < length xs → filled xs zs (suc i) ≡ take i xs ++ (get_or xs i d ∷ drop (suc i) zs)
  next_taken i h = rw (take-suc xs i d h) (append_snoc (take i xs) (get_or xs i d) (drop (suc i) zs))

  pub filled_set : (i : ℕ) → i < length xs → set (filled xs zs i) i (get_or xs i d) ≡ filled xs zs (suc i)
  filled_set i h =
      rw (drop-cons zs i d (omega arith), set_at (take i xs) (get_or zs i d) (drop (suc i) zs) (get_or xs i d) i (length-take-le i xs (omega arith)))
      (sym (next_taken i h))

  pub filled_same : (i : ℕ) → i < length xs → get_or zs i d ≡ get_or xs i d → filled xs zs i ≡ filled xs zs (suc i)
  filled_same i h q = rw (drop-cons zs i d (omega arith), q) (sym (next_taken i h))

  pub filled_all : (n : ℕ) → length xs ≤ n → filled xs zs n ≡ xs
  filled_all n h = rw (take_all n xs h, drop_of_length-le zs {i = n} (omega arith), append-nil)

-- the same, a part at a time
module _ (xs zs : List ℕ) (e : length zs ≡ length xs) (at n : ℕ) (h : at + n ≤ length xs) where
  part_length : length (take n (drop at xs)) ≡ n
  part_length = length-take-le n (drop at xs) (rw length-drop (omega arith))

  pub filled_put : put (filled xs zs at) at (take n (drop at xs)) ≡ filled xs zs (at + n)
  filled_put =
      put_next (take at xs) zs (take n (drop at xs)) at (length-take-le at xs (omega arith)) (rw part_length (omega arith))
      ∙ rw (part_length, take-add at n xs)

  pub filled_part : take n (drop at zs) ≡ take n (drop at xs) → filled xs zs at ≡ filled xs zs (at + n)
  filled_part q =
      rw (take-add at n xs, ← q, append_assoc (take at xs) (take n (drop at zs)) (drop (at + n) zs), ← drop-drop n at zs, take-append-drop n (drop at zs))

-- what is not named is zero
pub zero_cap_lem : (c : Cap) → zero_cap c ≡ true → c ≡ null
zero_cap_lem c e =
    let flags = not c.tag && not c.sealed in
    let small = eqb c.spare 0 && (eqb c.otype 0 && eqb c.perms 0) in
    let large = eqb c.base.0 0 && (eqb c.length 0 && eqb c.offset.0 0) in
    let p = both_true flags (small && large) e in
    let f = both_true (not c.tag) (not c.sealed) p.0 in
    let q = both_true small large p.1 in
    let a = both_true (eqb c.spare 0) (eqb c.otype 0 && eqb c.perms 0) q.0 in
    let b = both_true (eqb c.otype 0) (eqb c.perms 0) a.1 in
    let g = both_true (eqb c.base.0 0) (eqb c.length 0 && eqb c.offset.0 0) q.1 in
    let h = both_true (eqb c.length 0) (eqb c.offset.0 0) g.1 in
    λ i. record {
      base = record { 0 = eqb-true c.base.0 0 g.0 i };
      length = eqb-true c.length 0 h.0 i;
      offset = record { 0 = eqb-true c.offset.0 0 h.1 i };
      perms = eqb-true c.perms 0 b.1 i;
      otype = eqb-true c.otype 0 b.0 i;
      spare = eqb-true c.spare 0 a.0 i;
      tag = not-true c.tag f.0 i;
      sealed = not-true c.sealed f.1 i;
    }

pub zero_part : (l : List ℕ) (at n : ℕ) → at + n ≤ length l → zero_bytes (take n (drop at l)) ≡ true → take n (drop at (replicate (length l) 0)) ≡ take n (drop at l)
zero_part l at n h e =
    let zs : List ℕ = replicate (length l) 0 in
    let z : length zs ≡ length l = length-replicate (length l) 0 in
    let len : length (take n (drop at l)) ≡ n = length-take-le n (drop at l) (rw length-drop (omega arith)) in
    let len' : length (take n (drop at zs)) ≡ n = length-take-le n (drop at zs) (rw (length-drop, z) (omega arith)) in
    ext_get_or 0 (take n (drop at zs)) (take n (drop at l)) (len' ∙ sym len)
    (λ i k.
    get_or-take n (drop at zs) i 0 (omega (arith, len', k)) ∙ get_or-drop at zs i 0 ∙ get_or-replicate (length l) (at + i) 0 0 (omega (arith, len', k))
    ∙ sym (eqb-true (get_or (take n (drop at l)) i 0) 0
    (each (length (take n (drop at l))) 0 (λ j. eqb (get_or (take n (drop at l)) j 0) 0) e i (omega arith) (omega (arith, len, len', k)))))

-- the bytes of a line, where its record stands
pub line_bytes_at : (book : List ℕ) (at address : ℕ) (tag : Bool) (bytes rest : List ℕ) → length bytes ≡ 32 → Suffix book at (record_of (line_body address tag bytes) ++ rest)
    → take 32 (drop (at + 12) book) ≡ bytes
unfolding record_of line_body
line_bytes_at book at address tag bytes rest l s =
    let f = fields ((1, 3) ∷ (8, address) ∷ (1, bit tag) ∷ []) in
    let b = to_be 2 (length (f ++ bytes)) in
    let e : (b ++ (f ++ bytes)) ++ rest ≡ (b ++ f) ++ (bytes ++ rest) =
    ap (λ (x : List ℕ). x ++ rest) (sym (append_assoc b f bytes)) ∙ append_assoc (b ++ f) bytes rest in
    let q : book ≡ (s.before ++ (b ++ f)) ++ (bytes ++ rest) = s.split ∙ ap (λ (x : List ℕ). s.before ++ x) e ∙ sym (append_assoc s.before (b ++ f) (bytes ++ rest)) in
    let n : length (s.before ++ (b ++ f)) ≡ at + 12 =
    rw (length-append s.before (b ++ f), length-append b f, s.place, length-to_be 2 (length (f ++ bytes)), length_fields ((1, 3) ∷ (8, address) ∷ (1, bit tag) ∷ [])) in
    rw (q, drop_at (s.before ++ (b ++ f)) (bytes ++ rest) (at + 12) n) (take_at bytes rest 32 l)
