use native.Mathlib.Omega.{arith}
use borrow.Author.Tests.{lt-leb, le-leb}
use lib.ListN.{length-set}
use Rattle.told.proofs.Laws.{five_set}
use Rattle.told.proofs.put_answer.Goals as goal

pub returns-then-answer-lt-ANSWER_NUMBERS : goal.returns-then-answer-lt-ANSWER_NUMBERS
returns-then-answer-lt-ANSWER_NUMBERS c = rw (lt-leb 5 _ c.if-answer-lt-ANSWER_NUMBERS.true)

pub bounds-answer-1 : goal.bounds-answer-1
bounds-answer-1 c = rw length-set (omega arith)

pub bounds-answer-2 : goal.bounds-answer-2
bounds-answer-2 c = rw (length-set, length-set) (omega arith)

pub bounds-answer-3 : goal.bounds-answer-3
bounds-answer-3 c = rw (length-set, length-set, length-set) (omega arith)

pub returns : goal.returns
returns c = let a = c.args.a in
    rw (le-leb 5 _ c.if-answer-lt-ANSWER_NUMBERS.false, c.from.ensures, c.from-2.ensures, c.from-3.ensures, c.from-4.ensures) (five_set c.args.answer.now a.stop a.cause a.register a.place a.steps c.if-answer-lt-ANSWER_NUMBERS.false)
