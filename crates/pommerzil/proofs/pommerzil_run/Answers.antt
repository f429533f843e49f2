use mathlib.Core.Path.{refl}
use borrow.Author.Tests.{lt-leb}
use Rattle.pages.specs.Exported.{run_into}
use Rattle.pommerzil.proofs.Laws.{ran}
use Rattle.pommerzil.proofs.pommerzil_run.Goals as goal

pub returns-then-answer-lt-ANSWER_NUMBERS : goal.returns-then-answer-lt-ANSWER_NUMBERS
unfolding run_into
returns-then-answer-lt-ANSWER_NUMBERS c = rw (lt-leb 5 _ c.if-answer-lt-ANSWER_NUMBERS.true) record { code = c.refusal_number.ensures; ram = refl; tags = refl; answer = refl }

pub returns : goal.returns
returns c =
    let r = ran _ _ _ _ _ _ c.if-answer-lt-ANSWER_NUMBERS.false _ _ _ _ c.run_book-a.ensures.answer c.run_book-a.ensures.ram c.run_book-a.ensures.tags c.put_answer.ensures in
    record { code = r.0; ram = r.1.0; tags = r.1.1.0; answer = r.1.1.1 }
