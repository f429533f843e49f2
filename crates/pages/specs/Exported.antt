-- What pommerzil_run returns, and what it leaves in the buffers that it is lent.
use Rattle.std.specs.Prelude.{ℕ, cond, List, length, leb}
use Rattle.manual.specs.declared.Refusal.{Refusal}
use Rattle.manual.specs.Told.{ANSWER_NUMBERS, numbers_of, over, refusal_number}
use Rattle.pages.specs.Answer.{Benched, book_run}

-- pommerzil_run: what is returned, and the buffers then
pub record Ran : Type 0 where
  pub code : ℕ
  pub ram : List ℕ
  pub tags : List ℕ
  pub answer : List ℕ

abbrev pub answered : Benched → List ℕ → Ran
answered b answer = record { code = b.answer.stop; ram = b.ram; tags = b.tags; answer = over (numbers_of b.answer) answer }

-- an answer without room comes before all else, and changes nothing
unfoldable pub run_into : ℕ → List ℕ → List ℕ → List ℕ → List ℕ → List ℕ → Ran
run_into budget book flash ram tags answer =
    cond (leb ANSWER_NUMBERS (length answer)) (answered (book_run budget book flash ram tags) answer)
    (record { code = refusal_number Refusal.Room; ram = ram; tags = tags; answer = answer })
