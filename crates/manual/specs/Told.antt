-- What is told of a start, of a book and of a run, and its numbers (01, "Stop numbers" and "Bench examples").
use Rattle.std.specs.Prelude.{ℕ, cond, List, [], ◌∷◌, ◌++◌, length, drop, leb, Result, Ok, Err}
use Rattle.manual.specs.declared.Refusal.{Refusal}
use Rattle.manual.specs.declared.Answer.{Answer}

abbrev pub refusal_number : Refusal → ℕ
refusal_number Refusal.Sizes = 20
refusal_number Refusal.TagByte = 21
refusal_number Refusal.Top = 22
refusal_number Refusal.Width = 24
refusal_number Refusal.Version = 30
refusal_number Refusal.Cut = 31
refusal_number Refusal.Kind = 32
refusal_number Refusal.Order = 33
refusal_number Refusal.Field = 34
refusal_number Refusal.Waiting = 35
refusal_number Refusal.Room = 36

-- 0, or the number of the refusal
abbrev pub code_of : {T : Type 0} → Result T Refusal → ℕ
code_of (Ok x) = 0
code_of (Err refusal) = refusal_number refusal

-- the number that is printed for a book: 0 where it is accepted
abbrev pub verdict_number : Result (Unit {0}) Refusal → ℕ
verdict_number verdict = code_of verdict

-- how many bytes pommerzil_write says it wrote
abbrev pub bytes_of : Result ℕ Refusal → ℕ
bytes_of (Ok bytes) = bytes
bytes_of (Err refusal) = 0

-- zeros where they do not apply
abbrev pub refusing : Refusal → Answer
refusing refusal = record { stop = refusal_number refusal; cause = 0; register = 0; place = 0; steps = 0 }

-- stop or refusal, cause code, register, place, steps: the bench's line
abbrev pub numbers_of : Answer → List ℕ
numbers_of a = a.stop ∷ a.cause ∷ a.register ∷ a.place ∷ a.steps ∷ []

abbrev pub ANSWER_NUMBERS : ℕ
ANSWER_NUMBERS = 5

-- at the front of a buffer; what is past it stays
abbrev pub over : List ℕ → List ℕ → List ℕ
over front buffer = front ++ drop (length front) buffer

abbrev pub answer_put : Answer → List ℕ → List ℕ
answer_put a answer = cond (leb ANSWER_NUMBERS (length answer)) (over (numbers_of a) answer) answer
