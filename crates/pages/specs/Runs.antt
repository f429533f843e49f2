-- Pieces of a book one after the other, and what an inner function promises that writes them at a place of a buffer.
use Rattle.std.specs.Prelude.{ℕ, zero, suc, ◌+◌, ◌≤◌, ◌≡◌, List, [], ◌++◌, length}
use Rattle.manual.specs.Store.{put}

-- what n numbers from the first on have to say, one after the other
unfoldable pub pieces : ℕ → ℕ → (ℕ → List ℕ) → List ℕ
pieces zero first piece = []
pieces (suc n) first piece = piece first ++ pieces n (suc first) piece

-- a run of bytes; a buffer with no room measures it
pub record Runs (before : List ℕ) (at : ℕ) (bytes after : List ℕ) (end : ℕ) : Type 0 where
  pub ends : end ≡ at + length bytes
  pub kept : length after ≡ length before
  pub stands : at + length bytes ≤ length before → after ≡ put before at bytes
