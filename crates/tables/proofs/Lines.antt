-- A line of numbers, by its first. Assumes nothing.
use Rattle.std.proofs.Common.{◌≡◌, ℕ, ◌-◌, ◌<◌, ◌≤◌, List, [], ◌∷◌, ◌++◌, length, take, drop, refl, arith, slice_index_or}
use lib.Seq.{take_all}
use Rattle.std.specs.Prelude.{OnOk, Ok, Err, Result}
use Rattle.tables.specs.Lines.{printed, line}

pub line_none : (ns : List ℕ) → length ns < 1 → line ns ≡ []
line_none [] h = refl
line_none (n ∷ ns) h = absurd (omega arith)

pub line_one : (ns : List ℕ) → 1 ≤ length ns → length ns < 2 → line ns ≡ printed (slice_index_or ns 0 0) 10
line_one [] h k = absurd (omega arith)
line_one (n ∷ []) h k = refl
line_one (n ∷ m ∷ ns) h k = absurd (omega arith)

pub line_more : (ns : List ℕ) → 2 ≤ length ns → line ns ≡ printed (slice_index_or ns 0 0) 32 ++ line (take (length ns - 1) (drop 1 ns))
line_more [] h = absurd (omega arith)
line_more (n ∷ []) h = absurd (omega arith)
line_more (n ∷ m ∷ ns) h =
    let all : take (length (n ∷ m ∷ ns) - 1) (m ∷ ns) ≡ m ∷ ns = take_all (length (n ∷ m ∷ ns) - 1) (m ∷ ns) (omega arith) in
    rw all refl

pub fewer : (ns : List ℕ) → 2 ≤ length ns → length (take (length ns - 1) (drop 1 ns)) < length ns
fewer [] h = absurd (omega arith)
fewer (n ∷ []) h = absurd (omega arith)
fewer (n ∷ m ∷ ns) h =
    let all : take (length (n ∷ m ∷ ns) - 1) (m ∷ ns) ≡ m ∷ ns = take_all (length (n ∷ m ∷ ns) - 1) (m ∷ ns) (omega arith) in
    rw all (omega arith)

-- what a write that passed says, said otherwise
pub passed : {T E P Q : Type 0} → (r : Result T E) → (P → Q) → OnOk r P → OnOk r Q
passed (Ok x) f p = f p
passed (Err e) f p = tt
