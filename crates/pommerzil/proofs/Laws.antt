-- What the functions leave in the buffers that they are lent. Assumes nothing.
use Rattle.std.specs.Prelude.{Result}
use Prim.Native.Nat.{ℕ, ◌≤◌}
use mathlib.Core.Path.{◌≡◌, ◌∙◌, ap}
use mathlib.Core.List.{List}
use borrow.Author.Tests.{le-leb}
use lib.ListN.{length}
use Rattle.manual.specs.declared.Answer.{Answer}
use Rattle.manual.specs.Told.{over, ANSWER_NUMBERS, numbers_of, code_of, bytes_of, answer_put}
use Rattle.pages.specs.Answer.{book_run}
use Rattle.pages.specs.Exported.{run_into}
use Rattle.manual.specs.declared.Refusal.{Refusal}

-- a book that was run, and its answer put
module _ (budget : ℕ) (book flash ram tags answer : List ℕ) (room : ANSWER_NUMBERS ≤ length answer) (a : Answer) (ram' tags' answer' : List ℕ)
    (ea : a ≡ (book_run budget book flash ram tags).answer)
    (er : ram' ≡ (book_run budget book flash ram tags).ram)
    (et : tags' ≡ (book_run budget book flash ram tags).tags)
    (en : answer' ≡ answer_put a answer) where
  pub ran : (a.stop ≡ (run_into budget book flash ram tags answer).code) × ((ram' ≡ (run_into budget book flash ram tags answer).ram)
      × ((tags' ≡ (run_into budget book flash ram tags answer).tags) × (answer' ≡ (run_into budget book flash ram tags answer).answer)))
  unfolding run_into
  ran =
      let fits = le-leb ANSWER_NUMBERS (length answer) room in
      rw fits
      (ap (λ (x : Answer). x.stop) ea, (er, (et, (rw fits at en) ∙ ap (λ (x : Answer). over (numbers_of x) answer) ea)))

-- the two numbers that tell an answer of the writer
pub told : (x y : Result ℕ Refusal) (code bytes : ℕ) → x ≡ y → code ≡ code_of x → bytes ≡ bytes_of x → (code ≡ code_of y) × (bytes ≡ bytes_of y)
told x y code bytes e p q = (p ∙ ap code_of e, q ∙ ap bytes_of e)
