-- One record of a start book (01, "The start book"): a length of two bytes, the most significant first, and a body.
use Rattle.std.specs.Prelude.{ℕ, ◌+◌, ◌-◌, ◌%◌, ◌^◌, cond, List, length, get_or, take, drop, eqb, leb, ltb, Result, Ok, Err, Option, Some, None}
use Rattle.manual.specs.Number.{be}
use Rattle.manual.specs.declared.Refusal.{Refusal}
use Rattle.pages.specs.declared.Body.{Body}

-- byte i, and the number in the n bytes from i on
abbrev pub byte : List ℕ → ℕ → ℕ
byte s i = get_or s i 0

abbrev pub number : List ℕ → ℕ → ℕ → ℕ
number s i n = be (take n (drop i s)) % 2 ^ 64

-- what stands at a place: nothing more, a record that is cut or empty, or a body
abbrev pub Head : Type 0
Head = Result (Option Body) Refusal

abbrev pub spans : ℕ → ℕ → Head
spans start bytes = Ok (Some (record { start = start; bytes = bytes }))

-- 31: the body is empty or cut
unfoldable pub body_at : List ℕ → ℕ → ℕ → Head
body_at book start bytes = cond (eqb bytes 0) (Err Refusal.Cut) (cond (ltb (length book - start) bytes) (Err Refusal.Cut) (spans start bytes))

-- the end of the book, or a header of two bytes and its body; 31: the header is cut
unfoldable pub head_at : List ℕ → ℕ → Head
head_at book at = cond (leb (length book) at) (Ok None) (cond (ltb (length book - at) 2) (Err Refusal.Cut) (body_at book (at + 2) (number book at 2)))
