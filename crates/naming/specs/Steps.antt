-- What a step does that puts one piece of a book (01, "The start book").
use Rattle.std.specs.Prelude.{ℕ, ◌≤◌, ◌<◌, ◌≡◌, List, length}
use denote.Ref.{MutBor}
use Rattle.manual.specs.Store.{put}

-- a call at a number, a buffer and a place there: how many bytes it tells, and the buffer then
abbrev pub Call : Type 1
Call = ℕ → MutBor (List ℕ) → ℕ → ℕ → MutBor (List ℕ) → Type 0

module _ (first end : ℕ) (call : Call) where
  -- at each of the numbers, `most` bytes or fewer
  abbrev pub PutsAtMost : ℕ → Type 0
  PutsAtMost most = (i at n : ℕ) (o o' : MutBor (List ℕ)) → first ≤ i → i < end → call i o at n o' → n ≤ most

  -- at each of the numbers, its piece
  abbrev pub Puts : (ℕ → List ℕ) → Type 0
  Puts piece =
      (i at n : ℕ) (o o' : MutBor (List ℕ)) → first ≤ i → i < end → call i o at n o'
      → (n ≡ length (piece i)) × (o'.now ≡ put o.now at (piece i))
