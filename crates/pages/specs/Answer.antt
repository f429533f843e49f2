-- A start book read and, where it is accepted, run: what is told of it, with memories of any size and any budget.
use Rattle.std.specs.Prelude.{ℕ, List, length, Result, Ok, Err}
use Rattle.manual.specs.declared.Outcome.{Outcome}
use Rattle.manual.specs.Steps.{Ran}
use Rattle.pages.specs.Entering.{Start}
use Rattle.pages.specs.Enter.{judged, read_book}
use Rattle.manual.specs.Run.{run_of}
use Rattle.manual.specs.declared.Answer.{Answer}
use Rattle.manual.specs.Told.{refusing}
use Rattle.manual.specs.declared.Refusal.{Refusal}

-- the answer, and what RAM and tags hold then
pub record Benched : Type 0 where
  pub answer : Answer
  pub ram : List ℕ
  pub tags : List ℕ

-- stop or refusal, cause code, register, place, steps
abbrev pub answer_of : Outcome → Answer
answer_of o = record { stop = o.stop; cause = o.cause; register = o.register; place = o.place; steps = o.steps }

abbrev pub ran : Ran → Benched
ran r = record { answer = answer_of r.outcome; ram = r.ram; tags = r.tags }

-- a refused book makes no step and changes nothing; an accepted one is run
abbrev pub started_by : ℕ → Result (Unit {0}) Refusal → List ℕ → Start → Benched
started_by budget (Ok _) flash s = ran (run_of budget flash s.machine s.ram s.tags)
started_by budget (Err refusal) flash s = record { answer = refusing refusal; ram = s.ram; tags = s.tags }

unfoldable pub book_run : ℕ → List ℕ → List ℕ → List ℕ → List ℕ → Benched
book_run budget book flash ram tags =
    started_by budget (judged book (length flash) (length ram) (length tags)) flash (read_book book (length flash) ram tags)
