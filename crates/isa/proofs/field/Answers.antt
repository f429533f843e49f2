use Rattle.std.proofs.Common.{◌≡◌, ◌/◌, ◌%◌, ◌^◌, ◌<◌, ℕ, ◌≤◌, refl, arith, lt_of_lt_of_le}
use Rattle.std.proofs.Math.Nat.{div-eq_of_lt, pow-le-pow_right}
use Rattle.isa.proofs.field.Goals as goal

-- from bit 32 on a word has none
past : (word low : ℕ) → word < 2 ^ 32 → 32 ≤ low → 0 ≡ word / 2 ^ low % 32
past word low fits past_top = rw (div-eq_of_lt (lt_of_lt_of_le fits (pow-le-pow_right {n = 2} (omega arith) past_top))) refl

pub returns-else-this-lt32 : goal.returns-else-this-lt32
returns-else-this-lt32 g c = past c.args.word g.row.LOW c.ranges.word.fits (omega (arith, c.if-this-lt32.false))
