use Rattle.glide.proofs.ride.Goals as goal

pub returns : goal.returns
returns c = rw (c.from.ensures, c.from-2.ensures, c.from-3.ensures, c.from-4.ensures, c.from-5.ensures, c.from-6.ensures, c.field-n25.ensures, c.field-n20.ensures, c.field-n15.ensures, c.field-n10.ensures) at c.capably.ensures
