-- A step that looks at capability registers, on the values of those that its word names.
use Rattle.std.specs.Prelude.{ℕ, List, Option, get_or}
use Rattle.manual.specs.declared.Cap.{Cap}
use Rattle.manual.specs.Word.{field25, field20, field15, field10}
use Rattle.manual.specs.Decode.{decode_word}
use Rattle.derivation.specs.declared.Capable.{Capable}
use Rattle.capable.specs.Capable.{Capably}

-- the instruction of word i, on the registers that word w names
abbrev pub CapablyBy : ℕ → ℕ → Cap → Cap → Cap → Cap → List ℕ → List ℕ → List ℕ → List ℕ → List ℕ → List ℕ → Option Capable → Type 0
CapablyBy i w here k25 k20 k15 flash g ram tags ram' tags' r =
    Capably (decode_word i) (field25 w) (field20 w) (get_or g (field25 w) 0) (get_or g (field15 w) 0) (get_or g (field10 w) 0) here k25 (record { cap = k20; number = field20 w }) (record { cap = k15; number = field15 w }) flash ram tags ram' tags' r
