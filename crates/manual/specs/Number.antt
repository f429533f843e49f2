-- Numbers of 64 bits, and numbers in bytes, the most significant first.
use Rattle.std.specs.Prelude.{ℕ, zero, suc, ◌+◌, ◌-◌, ◌*◌, ◌/◌, ◌%◌, ◌^◌, ◌<◌, List, [], ◌∷◌, cond, Bool, length, get_or, eqb}
use Rattle.manual.specs.declared.Address.{Address}
use Rattle.manual.specs.declared.Offset.{Offset}
use Rattle.manual.specs.declared.Size.{Size}
use Rattle.manual.specs.declared.Size.TheVariants.{One, Two, Four, Eight, Line}

-- 01, "A capability": a result past 64 bits is taken mod 2^64
unfoldable pub plus_mod : ℕ → ℕ → ℕ
plus_mod a b = (a + b) % 2 ^ 64

unfoldable pub minus_mod : ℕ → ℕ → ℕ
minus_mod a b = (a + (2 ^ 64 - b)) % 2 ^ 64

-- an offset counts from a base, an address from zero: only these three lead from one to the other
abbrev pub address_at : Address → Offset → Address
address_at base offset = record { 0 = plus_mod base.0 offset.0 }

abbrev pub offset_to : Address → Address → Offset
offset_to base address = record { 0 = minus_mod address.0 base.0 }

abbrev pub moved_by : Offset → ℕ → Offset
moved_by offset by = record { 0 = plus_mod offset.0 by }

-- 01, "Memory": RAM is cut into lines of 32 bytes
abbrev pub LINE : ℕ
LINE = 32

-- the bytes of an access
abbrev pub bytes_in : Size → ℕ
bytes_in One = 1
bytes_in Two = 2
bytes_in Four = 4
bytes_in Eight = 8
bytes_in Line = LINE

-- each element is below 256 (past the end `get_or` gives 0)
abbrev pub Bytes : List ℕ → Type 0
Bytes xs = (i : ℕ) → get_or xs i 0 < 256

-- the number that the bytes say
unfoldable pub be : List ℕ → ℕ
be [] = 0
be (x ∷ xs) = x * 256 ^ length xs + be xs

-- the n lowest bytes of v
unfoldable pub to_be : ℕ → ℕ → List ℕ
to_be zero v = []
to_be (suc n) v = v / 256 ^ n % 256 ∷ to_be n v

-- a number whose top bit weighs half, with that bit carried on to 64 bits
unfoldable pub extend_from : ℕ → ℕ → ℕ
extend_from half v = cond (eqb (v / half % 2) 1) (v % half + (2 ^ 64 - half)) (v % half)

-- a number of n bytes with its top bit carried on to 64 bits
unfoldable pub sign_extend : ℕ → ℕ → ℕ
sign_extend n v = extend_from (128 * 256 ^ (n - 1)) v

abbrev pub extended : Bool → Size → ℕ → ℕ
extended signed size v = cond signed (sign_extend (bytes_in size) v) v
