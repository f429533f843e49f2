-- The laws of runs of bytes. Assumes nothing.
use Prim.Native.Nat.{ℕ, zero, suc, ◌+◌, ◌*◌, ◌≤◌}
use mathlib.Core.Path.{◌≡◌, refl, sym, ◌∙◌, ap}
use mathlib.Core.List.{List, [], ◌++◌, append_assoc, append-nil}
use native.Mathlib.Omega.{arith}
use native.Mathlib.Nat.{suc-mul}
use native.Mathlib.Numerals.{add-one}
use lib.ListN.{length, length-append}
use Rattle.manual.specs.Store.{put}
use Rattle.manual.proofs.Stores.{length-put}
use Rattle.pages.proofs.Fields.{put_nothing, put-put}
use Rattle.pages.specs.Runs.{pieces, Runs}

-- one number more
pieces_suc : (n first : ℕ) (piece : ℕ → List ℕ) → pieces (suc n) first piece ≡ pieces n first piece ++ piece (first + n)
unfolding pieces
pieces_suc zero first piece = let z : first + 0 ≡ first = omega arith in rw (z, append-nil)
pieces_suc (suc n) first piece =
    let z : suc first + n ≡ first + suc n = omega arith in
    ap (λ rest. piece first ++ rest) (pieces_suc n (suc first) piece)
    ∙ rw z (sym (append_assoc (piece first) (pieces n (suc first) piece) (piece (first + suc n))))

-- how long they are at most
pub pieces_most : (n first most : ℕ) (piece : ℕ → List ℕ) → ((i : ℕ) → length (piece i) ≤ most) → length (pieces n first piece) ≤ n * most
unfolding pieces
pieces_most zero first most piece h = omega arith
pieces_most (suc n) first most piece h = rw (length-append, suc-mul n most) (omega (arith, h first, pieces_most n (suc first) most piece h))

-- a run of no byte, a store, a run after a run
pub runs_none : (l : List ℕ) (at : ℕ) → Runs l at [] l at
runs_none l at = record { ends = omega arith; kept = refl; stands = λ h. sym (put_nothing l at) }

pub runs_put : (l k : List ℕ) (at end : ℕ) (bytes : List ℕ) → k ≡ put l at bytes → end ≡ at + length bytes → Runs l at bytes k end
runs_put l k at end bytes p e = record { ends = e; kept = ap length p ∙ length-put l at bytes; stands = λ h. p }

pub runs_on : (l k m : List ℕ) (at end last : ℕ) (xs ys : List ℕ) → Runs l at xs k end → Runs k end ys m last → Runs l at (xs ++ ys) m last
runs_on l k m at end last xs ys r s =
    let z : length (xs ++ ys) ≡ length xs + length ys = length-append xs ys in
    record {
      ends = omega (arith, z, r.ends, s.ends);
      kept = s.kept ∙ r.kept;
      stands = λ h.
          s.stands (omega (arith, z, r.ends, r.kept, h)) ∙ rw (r.ends, r.stands (omega (arith, z, h)), put-put l xs ys at (omega (arith, z, h)));
    }

-- a run of pieces: none yet, the next, all of them, and where it ends at most
module _ (l : List ℕ) (at first : ℕ) (piece : ℕ → List ℕ) where
  pub run_begins : Runs l at (pieces 0 first piece) l at
  unfolding pieces
  run_begins = runs_none l at

  pub run_next : (k m : List ℕ) (end last n j : ℕ) → j ≡ first + n → last ≡ end + length (piece j) → Runs l at (pieces n first piece) k end → m ≡ put k end (piece j)
      → Runs l at (pieces (n + 1) first piece) m last
  run_next k m end last n j e h r p =
      rw (add-one, pieces_suc n first piece, ← e) (runs_on l k m at end last (pieces n first piece) (piece j) r (runs_put k m end last (piece j) p h))

  pub run_ends : (k : List ℕ) (end n most : ℕ) → ((i : ℕ) → length (piece i) ≤ most) → Runs l at (pieces n first piece) k end → end ≤ at + n * most
  run_ends k end n most h r = omega (arith, r.ends, pieces_most n first most piece h)
