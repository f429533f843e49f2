-- A record inside a book: its head, its body, its fields, its entry. Assumes nothing.
use Rattle.std.specs.Prelude.{Ok}
use Prim.Native.Nat.{ℕ, suc, ◌+◌, ◌-◌, ◌/◌, ◌%◌, ◌^◌, ◌≤◌, ◌<◌}
use mathlib.Core.Path.{◌≡◌, refl, ◌∙◌, subst}
use mathlib.Core.List.{List, [], ◌∷◌, ◌++◌, append_assoc, append-nil}
use native.Mathlib.Omega.{arith}
use native.Mathlib.Nat.{mod-eq_of_lt, pow-le-pow_right}
use lib.ListN.{length, get_or, take, drop, length-append}
use lib.Seq.{take_at, drop_at, drop-drop, get_or-append-add}
use borrow.Author.Tests.{le-ltb, lt-leb, ne_eqb}
use Rattle.manual.specs.Number.{be, to_be}
use Rattle.manual.proofs.Numbers.{length-to_be, be-to_be}
use Rattle.pages.specs.declared.Entry.{Entry}
use Rattle.pages.specs.Record.{spans, byte, number, body_at, head_at}
use Rattle.pages.specs.Entry.{entry_of}
use Rattle.pages.specs.Book.{after_entry, after_head, step_at}
use Rattle.pages.specs.Compose.{fields, record_of}
use Rattle.pages.proofs.Fields.{bytes_of}
use Rattle.reread.specs.Records.{Found}

-- the two bytes of a length below 65,536
two_bytes : (n : ℕ) → n < 65536 → be (to_be 2 n) % 2 ^ 64 ≡ n
two_bytes n h = rw (be-to_be 2 n) (omega arith)

module _ (before body rest : List ℕ) (some : 0 < length body) (short : length body < 65536) where
  behind : drop (length before) (before ++ (record_of body ++ rest)) ≡ to_be 2 (length body) ++ (body ++ rest)
  unfolding record_of
  behind = rw (drop_at before ((to_be 2 (length body) ++ body) ++ rest) (length before) refl, append_assoc (to_be 2 (length body)) body rest)

  long : length (before ++ (record_of body ++ rest)) ≡ length before + (2 + length body + length rest)
  unfolding record_of
  long = rw (length-append, length-append, length-append, length-to_be 2 (length body))

  says : number (before ++ (record_of body ++ rest)) (length before) 2 ≡ length body
  says = rw (behind, take_at (to_be 2 (length body)) (body ++ rest) 2 (length-to_be 2 (length body))) (two_bytes (length body) short)

  head : head_at (before ++ (record_of body ++ rest)) (length before) ≡ spans (length before + 2) (length body)
  unfolding head_at body_at
  head =
      rw (
        lt-leb (length (before ++ (record_of body ++ rest))) (length before) (omega (arith, long)),
        le-ltb (length (before ++ (record_of body ++ rest)) - length before) 2 (omega (arith, long)),
        says,
        ne_eqb (length body) 0 (λ e. omega arith),
        le-ltb (length (before ++ (record_of body ++ rest)) - (length before + 2)) (length body) (omega (arith, long)),
      )

  there : take (length body) (drop (length before + 2) (before ++ (record_of body ++ rest))) ≡ body
  there =
      rw (
        ← drop-drop 2 (length before) (before ++ (record_of body ++ rest)),
        behind,
        drop_at (to_be 2 (length body)) (body ++ rest) 2 (length-to_be 2 (length body)),
        take_at body rest (length body) refl,
      )

pub record_end : (body : List ℕ) (at : ℕ) → at + 2 + length body ≡ at + length (record_of body)
unfolding record_of
record_end body at = rw (length-append, length-to_be 2 (length body)) (omega arith)

fits64 : (n v : ℕ) → n ≤ 8 → v < 256 ^ n → v < 2 ^ 64
fits64 n v h k = omega (arith, pow-le-pow_right {n = 256} (omega arith) {i = n} {j = 8} h, k)

-- a body that is read as an entry, and not refused, is found wherever its record stands
pub found : (body : List ℕ) (ram : ℕ) (entry : Entry) → 0 < length body → length body < 65536 → entry_of body ram ≡ Ok entry → Found body ram entry
unfolding step_at after_head after_entry
found body ram entry some short e before rest kind key o =
    let z : length before + 2 + length body ≡ length before + length (record_of body) = record_end body (length before) in
    rw (head before body rest some short, there before body rest some short, e, z, o)

-- a field among fields, with bytes behind them
field_in : (fs gs : List (ℕ × ℕ)) (n v : ℕ) (tail : List ℕ) → take n (drop (bytes_of fs) (fields (fs ++ ((n, v) ∷ gs)) ++ tail)) ≡ to_be n v
unfolding fields
field_in [] gs n v tail = rw (append_assoc (to_be n v) (fields gs) tail) (take_at (to_be n v) (fields gs ++ tail) n (length-to_be n v))
field_in (f ∷ fs) gs n v tail =
    let b = to_be f.0 f.1 in
    rw (
      append_assoc b (fields (fs ++ ((n, v) ∷ gs))) tail,
      ← drop-drop (bytes_of fs) f.0 (b ++ (fields (fs ++ ((n, v) ∷ gs)) ++ tail)),
      drop_at b (fields (fs ++ ((n, v) ∷ gs)) ++ tail) f.0 (length-to_be f.0 f.1),
    )
    (field_in fs gs n v tail)

pub field_at : (fs gs : List (ℕ × ℕ)) (n v : ℕ) (tail : List ℕ) → n ≤ 8 → v < 256 ^ n → number (fields (fs ++ ((n, v) ∷ gs)) ++ tail) (bytes_of fs) n ≡ v
field_at fs gs n v tail h k = rw (field_in fs gs n v tail, be-to_be n v, mod-eq_of_lt k) (mod-eq_of_lt (fits64 n v h k))

-- the first byte of a field
byte_behind : (xs ys : List ℕ) (m n : ℕ) → length xs ≡ m → get_or (xs ++ ys) (m + n) 0 ≡ get_or ys n 0
byte_behind xs ys m n e = subst (λ (k : ℕ). get_or (xs ++ ys) (k + n) 0 ≡ get_or ys n 0) e (get_or-append-add xs ys n 0)

first_in : (fs gs : List (ℕ × ℕ)) (n v : ℕ) (tail : List ℕ) → byte (fields (fs ++ ((suc n, v) ∷ gs)) ++ tail) (bytes_of fs) ≡ v / 256 ^ n % 256
unfolding fields to_be
first_in [] gs n v tail = refl
first_in (f ∷ fs) gs n v tail =
    let b = to_be f.0 f.1 in
    let t = fields (fs ++ ((suc n, v) ∷ gs)) in
    rw (append_assoc b t tail, byte_behind b (t ++ tail) f.0 (bytes_of fs) (length-to_be f.0 f.1)) (first_in fs gs n v tail)

pub byte_at : (fs gs : List (ℕ × ℕ)) (v : ℕ) (tail : List ℕ) → v < 256 → byte (fields (fs ++ ((1, v) ∷ gs)) ++ tail) (bytes_of fs) ≡ v
byte_at fs gs v tail h = first_in fs gs 0 v tail ∙ omega arith

-- the same where nothing is behind the fields
pub field_of : (fs gs : List (ℕ × ℕ)) (n v : ℕ) → n ≤ 8 → v < 256 ^ n → number (fields (fs ++ ((n, v) ∷ gs))) (bytes_of fs) n ≡ v
field_of fs gs n v h k = subst (λ (l : List ℕ). number l (bytes_of fs) n ≡ v) (append-nil (fields (fs ++ ((n, v) ∷ gs)))) (field_at fs gs n v [] h k)

pub first_of : (fs gs : List (ℕ × ℕ)) (n v : ℕ) → byte (fields (fs ++ ((suc n, v) ∷ gs))) (bytes_of fs) ≡ v / 256 ^ n % 256
first_of fs gs n v = subst (λ (l : List ℕ). byte l (bytes_of fs) ≡ v / 256 ^ n % 256) (append-nil (fields (fs ++ ((suc n, v) ∷ gs)))) (first_in fs gs n v [])

pub byte_of : (fs gs : List (ℕ × ℕ)) (v : ℕ) → v < 256 → byte (fields (fs ++ ((1, v) ∷ gs))) (bytes_of fs) ≡ v
byte_of fs gs v h = first_of fs gs 0 v ∙ omega arith
