-- What a case is where it is read (second/src/generate/format.rs).
use Rattle.std.specs.Prelude.{◌≡◌, ℕ, ◌≤◌, ◌⊎◌, List, [], ◌++◌, length}
use Rattle.std.specs.List.{FoldsTo}
use Rattle.std.specs.Io.KnownBytes.{Consumes}
use Rattle.std.specs.declared.option.Option.{Option}
use Rattle.tables.specs.Tables.{number4}

-- of an input's known bytes: a length of 4 bytes, and a body of no more bytes than it says; cut, the length counts as 0
abbrev pub ReadsBody : Option (List ℕ) → Option (List ℕ) → List ℕ → Type 0
ReadsBody old new body = (head : List ℕ) × (length head ≤ 4) × (length body ≤ number4 head 0) × Consumes old new (head ++ body)

-- a case more: its body is read, and a call at it is made
abbrev pub RunsBody : {F : Type 0} → (F → List ℕ → F → Type 0) → Option (List ℕ) × F → List ℕ → Option (List ℕ) × F → Type 0
RunsBody calls old body new = ReadsBody old.0 new.0 body × calls old.1 body new.1

-- so many cases at most, read one after the other, and a call at the body of each; after fewer the next has no body
abbrev pub RunsCases : {F : Type 0} → ℕ → (F → List ℕ → F → Type 0) → Option (List ℕ) → F → Option (List ℕ) → Type 0
RunsCases {F} most calls old f new =
    (bodies : List (List ℕ)) × (last : Option (List ℕ) × F) × FoldsTo (RunsBody calls) (old, f) bodies last
    × ((ReadsBody last.0 new []) ⊎ ((length bodies ≡ most) × (last.0 ≡ new)))
