-- The fields of a record, written one after the other. Assumes nothing.
use Rattle.std.proofs.Common.{Bool, true, false, ℕ, suc, ◌+◌, ◌-◌, ◌^◌, ◌<◌, min, ◌≤◌, ◌≡◌, refl, sym, ◌∙◌, ap, List, [], ◌∷◌, ◌++◌, length, get_or, take, arith, append_assoc, append-nil, length-append, add-one}
use Prim.Native.Nat.{zero}
use mir.Val.{bool_byte}
use lib.Seq.{take_all}
use Rattle.manual.specs.Number.{to_be}
use Rattle.manual.specs.Store.{bit, put}
use Rattle.manual.proofs.Numbers.{length-to_be}
use Rattle.pages.specs.Compose.{fields, record_of}
use Rattle.pages.proofs.Fields.{put-put}

-- one field more
fields_more : (fs : List (ℕ × ℕ)) (i : ℕ) (d : ℕ × ℕ) → i < length fs → fields (take (suc i) fs) ≡ fields (take i fs) ++ to_be (get_or fs i d).0 (get_or fs i d).1
unfolding fields
fields_more [] i d h = absurd (omega arith)
fields_more (f ∷ fs) zero d h = append-nil (to_be f.0 f.1)
fields_more (f ∷ fs) (suc i) d h =
    ap (λ x. to_be f.0 f.1 ++ x) (fields_more fs i d (omega arith))
    ∙ sym (append_assoc (to_be f.0 f.1) (fields (take i fs)) (to_be (get_or fs i d).0 (get_or fs i d).1))

pub fields_longer : (fs : List (ℕ × ℕ)) (i : ℕ) (d : ℕ × ℕ) → i < length fs → length (fields (take (i + 1) fs)) ≡ length (fields (take i fs)) + (get_or fs i d).0
fields_longer fs i d h =
    let f = get_or fs i d in
    rw add-one (ap length (fields_more fs i d h) ∙ rw (length-append, length-to_be f.0 f.1))

-- the fields so far are no longer than all of them
fields_front : (fs : List (ℕ × ℕ)) (i : ℕ) → length (fields (take i fs)) ≤ length (fields fs)
unfolding fields
fields_front [] zero = omega arith
fields_front [] (suc i) = omega arith
fields_front (f ∷ fs) zero = omega arith
fields_front (f ∷ fs) (suc i) = simp length-append (omega (arith, fields_front fs i))

-- of a size with room the body has the rest
pub sized : (out : List ℕ) (at size : ℕ) (fs : List (ℕ × ℕ)) (bytes : List ℕ) → size ≡ min (2 ^ 64 - 1) (2 + (length (fields fs) + length bytes)) → length out < 2 ^ 64 - 1 → at + size ≤ length out
    → (size - 2 ≡ length (fields fs ++ bytes)) × (at + (2 + (size - 2)) ≤ length out)
sized out at size fs bytes e h k = (omega (arith, e, length-append (fields fs) bytes), omega (arith, e))

-- a record so far: its length and the first fields
module _ (out : List ℕ) (at body : ℕ) (fs : List (ℕ × ℕ)) (bytes : List ℕ) (is : body ≡ length (fields fs ++ bytes)) (room : at + (2 + body) ≤ length out) where
  abbrev pub so_far : ℕ → List ℕ
  so_far i = to_be 2 body ++ fields (take i fs)

  length_so_far : (i : ℕ) → length (so_far i) ≡ 2 + length (fields (take i fs))
  length_so_far i = rw (length-append, length-to_be 2 body)

  pub field_fits : (i : ℕ) (d : ℕ × ℕ) → i < length fs → length (so_far i) + (get_or fs i d).0 + length bytes ≤ 2 + body
  field_fits i d h =
      let f = get_or fs i d in
      let m : length (fields (take (suc i) fs)) ≡ length (fields (take i fs)) + f.0 =
      ap length (fields_more fs i d h) ∙ rw (length-append, length-to_be f.0 f.1) in
      let n : body ≡ length (fields fs) + length bytes = is ∙ length-append (fields fs) bytes in
      omega (arith, m, n, length_so_far i, fields_front fs (suc i))

  pub field_put : (l : List ℕ) (end i : ℕ) (d : ℕ × ℕ) → i < length fs → l ≡ put out at (so_far i) → end ≡ at + length (so_far i)
      → put l end (to_be (get_or fs i d).0 (get_or fs i d).1) ≡ put out at (so_far (i + 1))
  field_put l end i d h p e =
      let f = get_or fs i d in
      let b = to_be f.0 f.1 in
      let k : at + length (so_far i) + length b ≤ length out = rw (length-to_be f.0 f.1) (omega (arith, field_fits i d h)) in
      rw (p, e, put-put out (so_far i) b at k, append_assoc (to_be 2 body) (fields (take i fs)) b, add-one, fields_more fs i d h)

  pub field_ends : (end i : ℕ) (d : ℕ × ℕ) → i < length fs → end ≡ at + length (so_far i) → end + (get_or fs i d).0 ≡ at + length (so_far (i + 1))
  field_ends end i d h e =
      let f = get_or fs i d in
      let m : length (fields (take (suc i) fs)) ≡ length (fields (take i fs)) + f.0 =
      ap length (fields_more fs i d h) ∙ rw (length-append, length-to_be f.0 f.1) in
      rw add-one (omega (arith, m, e, length_so_far i, length_so_far (suc i)))

  pub record_put : (l : List ℕ) (end i : ℕ) → length fs ≤ i → l ≡ put out at (so_far i) → end ≡ at + length (so_far i)
      → put l end bytes ≡ put out at (record_of (fields fs ++ bytes))
  unfolding record_of
  record_put l end i h p e =
      let a : take i fs ≡ fs = take_all i fs h in
      let n : body ≡ length (fields fs) + length bytes = is ∙ length-append (fields fs) bytes in
      let k : at + length (so_far i) + length bytes ≤ length out = omega (arith, n, length_so_far i, fields_front fs i) in
      rw (p, e, put-put out (so_far i) bytes at k, append_assoc (to_be 2 body) (fields (take i fs)) bytes, a, is)

-- how long a record is
pub length_record : (body : List ℕ) → length (record_of body) ≡ 2 + length body
unfolding record_of
length_record body = rw (length-append, length-to_be 2 (length body))

-- a tag as a byte
pub byte_of_tag : (tag : Bool) → bool_byte tag ≡ bit tag
byte_of_tag true = refl
byte_of_tag false = refl
