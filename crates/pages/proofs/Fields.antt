-- Fields written one after the other are one run of bytes. Assumes nothing.
use Prim.Native.Nat.{ℕ, ◌+◌, ◌≤◌}
use mathlib.Core.Path.{◌≡◌, refl, ◌∙◌}
use mathlib.Core.Bool.{Bool, true, false, cond}
use mathlib.Core.List.{List, [], ◌∷◌, ◌++◌, append_assoc}
use native.Mathlib.Omega.{arith}
use lib.Dec.{leb}
use lib.ListN.{length, take, drop, length-append}
use lib.Seq.{length-take-le}
use Rattle.manual.specs.Store.{bit, put}
use Rattle.manual.proofs.Numbers.{length-to_be}
use Rattle.manual.proofs.Stores.{put-fits, put_next}
use Rattle.manual.specs.declared.Cap.{Cap}
use Rattle.pages.specs.Compose.{fields, record_of, cap_body, general_body, line_body}

pub put_nothing : (l : List ℕ) (at : ℕ) → put l at [] ≡ l
unfolding put
put_nothing l at = go (leb (at + 0) (length l))
  where
    go : (t : Bool) → cond t l l ≡ l
    go true = refl
    go false = refl

-- bytes written behind bytes are one run
pub put-put : (l xs ys : List ℕ) (at : ℕ) → at + length xs + length ys ≤ length l → put (put l at xs) (at + length xs) ys ≡ put l at (xs ++ ys)
put-put l xs ys at h =
    let e : at + length (xs ++ ys) ≡ at + length xs + length ys = rw length-append (omega arith) in
    rw (
      put-fits l at xs (omega arith),
      ← append_assoc (take at l) xs (drop (at + length xs) l),
      put_next (take at l ++ xs) l ys (at + length xs) (rw (length-append, length-take-le at l (omega arith))) h,
      put-fits l at (xs ++ ys) (omega arith),
      e,
      append_assoc (take at l) xs ys,
      append_assoc (take at l) (xs ++ ys) (drop (at + length xs + length ys) l),
    )

-- the bytes that fields take
abbrev pub bytes_of : List (ℕ × ℕ) → ℕ
bytes_of [] = 0
bytes_of (f ∷ fs) = f.0 + bytes_of fs

pub length_fields : (fs : List (ℕ × ℕ)) → length (fields fs) ≡ bytes_of fs
unfolding fields
length_fields [] = refl
length_fields (f ∷ fs) = rw (length-append, length-to_be f.0 f.1, length_fields fs)

-- how long the records are
length_record : (body : List ℕ) (n : ℕ) → length body ≡ n → length (record_of body) ≡ 2 + n
unfolding record_of
length_record body n e = rw (length-append, length-to_be 2 (length body), e)

pub cap_bytes_lem : (number : ℕ) (c : Cap) → length (record_of (cap_body number c)) ≡ 38
unfolding cap_body
cap_bytes_lem number c = length_record _ 36 (length_fields _)

pub general_bytes : (number value : ℕ) → length (record_of (general_body number value)) ≡ 12
unfolding general_body
general_bytes number value = length_record _ 10 (length_fields _)

pub line_bytes_lem : (address : ℕ) (tag : Bool) (bytes : List ℕ) → length (record_of (line_body address tag bytes)) ≡ 12 + length bytes
unfolding line_body
line_bytes_lem address tag bytes =
    length_record _ (10 + length bytes) (rw (length-append, length_fields ((1, 3) ∷ (8, address) ∷ (1, bit tag) ∷ [])))
    ∙ omega arith
