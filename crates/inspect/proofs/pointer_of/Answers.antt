use Rattle.manual.specs.Inspect.{pointer_of}
use Rattle.inspect.proofs.pointer_of.Goals as goal

pub returns-then-c : goal.returns-then-c
unfolding pointer_of
returns-then-c c = rw (c.if-c.true, c.offset_to-distance.ensures, c.address_at-at.ensures)

pub returns-else-c : goal.returns-else-c
unfolding pointer_of
returns-else-c c = rw c.if-c.false
