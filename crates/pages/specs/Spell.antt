-- The bytes of a start book (01, "The start book").
use Rattle.std.specs.Prelude.{ℕ, ◌+◌, ◌*◌, cond, List, [], ◌∷◌, ◌++◌, length, get_or, take, drop}
use Rattle.manual.specs.Place.{RAM_BASE}
use Rattle.manual.specs.Store.{tag_of}
use Rattle.manual.specs.declared.Cap.{Cap}
use Rattle.manual.specs.Narrow.{null}
use Rattle.manual.specs.declared.Machine.{Machine}
use Rattle.manual.specs.Accept.{sizes_fit}
use Rattle.pages.specs.Naming.{cap_piece, general_piece, line_named}
use Rattle.pages.specs.Runs.{pieces}

-- the 32 bytes of a line, and what the book says of it
abbrev pub line_bytes : List ℕ → ℕ → List ℕ
line_bytes ram line = take 32 (drop (line * 32) ram)

unfoldable pub line_piece : List ℕ → List ℕ → ℕ → List ℕ
line_piece ram tags line = line_named (RAM_BASE + line * 32) (tag_of tags line) (line_bytes ram line)

-- within a kind the number or address ascends: registers 0 to 31, 1 to 31, and every line
unfoldable pub cap_pieces : List Cap → List ℕ
cap_pieces caps = pieces 32 0 (λ i. cap_piece i (get_or caps i null))

unfoldable pub general_pieces : List ℕ → List ℕ
general_pieces general = pieces 31 1 (λ i. general_piece i (get_or general i 0))

unfoldable pub line_pieces : List ℕ → List ℕ → List ℕ
line_pieces ram tags = pieces (length tags) 0 (line_piece ram tags)

-- byte 0 is version 1, then the kinds ascend; PCC is number 32 of kind 1
unfoldable pub book_of : Machine → List ℕ → List ℕ → List ℕ
book_of m ram tags = 1 ∷ (cap_pieces m.caps ++ (cap_piece 32 m.pcc ++ (general_pieces m.general ++ line_pieces ram tags)))

-- there is one beside memories of legal sizes alone: 20 refuses others
unfoldable pub legal_book : Machine → List ℕ → List ℕ → List ℕ
legal_book m ram tags = cond (sizes_fit 0 (length ram) (length tags)) (book_of m ram tags) []
