use mathlib.Core.Path.{refl}
use Rattle.manual.specs.Word.{field10}
use Rattle.manual.specs.Decode.{lookup, operations, special_word}
use Rattle.special.proofs.Laws.{nop_means, op_means}
use Rattle.special.proofs.special.Goals as goal

pub returns-in-0 : goal.returns-in-0
unfolding lookup special_word
returns-in-0 c = rw (c.in-0.is, c.then_some.ensures) (λ o flash ram tags e15 e25 e20. nop_means o flash ram tags c.args.word _ refl)

pub returns-in-20 : goal.returns-in-20
unfolding lookup operations special_word
returns-in-20 c = rw (c.in-20.is, c.then_some-in-20.ensures) (λ o flash ram tags. op_means o flash ram tags _ (field10 c.args.word) _ _ _ _ _ refl c.compute.ensures)

pub returns-in-22 : goal.returns-in-22
unfolding lookup operations special_word
returns-in-22 c = rw (c.in-22.is, c.then_some-in-22.ensures) (λ o flash ram tags. op_means o flash ram tags _ (field10 c.args.word) _ _ _ _ _ refl c.compute-in-22.ensures)

pub returns-in-36 : goal.returns-in-36
unfolding lookup operations special_word
returns-in-36 c = rw (c.in-36.is, c.then_some-in-36.ensures) (λ o flash ram tags. op_means o flash ram tags _ (field10 c.args.word) _ _ _ _ _ refl c.compute-in-36.ensures)

pub returns-in-37 : goal.returns-in-37
unfolding lookup operations special_word
returns-in-37 c = rw (c.in-37.is, c.then_some-in-37.ensures) (λ o flash ram tags. op_means o flash ram tags _ (field10 c.args.word) _ _ _ _ _ refl c.compute-in-37.ensures)

pub returns-in-38 : goal.returns-in-38
unfolding lookup operations special_word
returns-in-38 c = rw (c.in-38.is, c.then_some-in-38.ensures) (λ o flash ram tags. op_means o flash ram tags _ (field10 c.args.word) _ _ _ _ _ refl c.compute-in-38.ensures)

pub returns-in-42 : goal.returns-in-42
unfolding lookup operations special_word
returns-in-42 c = rw (c.in-42.is, c.then_some-in-42.ensures) (λ o flash ram tags. op_means o flash ram tags _ (field10 c.args.word) _ _ _ _ _ refl c.compute-in-42.ensures)

pub returns-in-43 : goal.returns-in-43
unfolding lookup operations special_word
returns-in-43 c = rw (c.in-43.is, c.then_some-in-43.ensures) (λ o flash ram tags. op_means o flash ram tags _ (field10 c.args.word) _ _ _ _ _ refl c.compute-in-43.ensures)

pub returns-in-45 : goal.returns-in-45
unfolding lookup operations special_word
returns-in-45 c = rw (c.in-45.is, c.then_some-in-45.ensures) (λ o flash ram tags. op_means o flash ram tags _ (field10 c.args.word) _ _ _ _ _ refl c.compute-in-45.ensures)

pub returns-in-47 : goal.returns-in-47
unfolding lookup operations special_word
returns-in-47 c = rw (c.in-47.is, c.then_some-in-47.ensures) (λ o flash ram tags. op_means o flash ram tags _ (field10 c.args.word) _ _ _ _ _ refl c.compute-in-47.ensures)
