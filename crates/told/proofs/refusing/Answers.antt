use Rattle.told.proofs.refusing.Goals as goal

pub returns : goal.returns
returns c = rw c.refusal_number.ensures
