-- A line as the programs print it.
use Rattle.std.specs.Prelude.{ℕ, List, [], ◌∷◌, ◌++◌}
use Rattle.std.specs.Fmt.{decimal}
use Rattle.manual.specs.declared.Answer.{Answer}

-- a number in decimal, and a byte after it
abbrev pub printed : ℕ → ℕ → List ℕ
printed n end = decimal n ++ end ∷ []

-- numbers with a space (32) between them, and a line end (10)
abbrev pub line : List ℕ → List ℕ
line [] = []
line (n ∷ []) = printed n 10
line (n ∷ m ∷ more) = printed n 32 ++ line (m ∷ more)

-- the bench's line: stop or refusal, cause code, register, place, steps (01, "Bench examples")
abbrev pub answer_line : Answer → List ℕ
answer_line a = line (a.stop ∷ a.cause ∷ a.register ∷ a.place ∷ a.steps ∷ [])
