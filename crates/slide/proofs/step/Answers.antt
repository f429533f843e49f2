use Rattle.slide.proofs.step.Goals as goal

pub returns : goal.returns
returns c = rw (c.from-i25.ensures, c.from-i20.ensures, c.field.ensures, c.field-n20.ensures, c.field-n15.ensures) at c.plainly.ensures
