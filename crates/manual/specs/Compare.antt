-- CPtrCmp: one check a line, in the order of its page of 004, and the effect last.
use Rattle.std.specs.Prelude.{ℕ, Bool, cond, not, ◌&&◌, ◌||◌, eqb, ltb}
use Rattle.manual.specs.Number.{address_at}
use Rattle.manual.specs.Store.{bit}
use Rattle.manual.specs.declared.Cap.{Cap}
use Rattle.manual.specs.declared.Compare.{Compare}
use Rattle.manual.specs.Compute.{signed_less}
use Rattle.manual.specs.declared.Named.{Named}
use Rattle.manual.specs.declared.Effect.{Effect}
use Rattle.manual.specs.Checks.{Checked, ok, opened, ◌>>◌}

abbrev pub same_bool : Bool → Bool → Bool
same_bool a b = cond a b (not b)

-- (base + offset) mod 2^64
abbrev pub cursor : Cap → ℕ
cursor c = (address_at c.base c.offset).0

-- where the tags differ nothing is equal, and the untagged one is less; else the cursors decide (ruling A18)
unfoldable pub is_equal : Cap → Cap → Bool
is_equal c d = same_bool c.tag d.tag && eqb (cursor c) (cursor d)

unfoldable pub is_less : Cap → Cap → Bool
is_less c d = cond (same_bool c.tag d.tag) (ltb (cursor c) (cursor d)) (not c.tag)

unfoldable pub is_less_signed : Cap → Cap → Bool
is_less_signed c d = cond (same_bool c.tag d.tag) (signed_less (cursor c) (cursor d)) (not c.tag)

unfoldable pub compares : Compare → Cap → Cap → Bool
compares Compare.Eq c d = is_equal c d
compares Compare.Ne c d = not (is_equal c d)
compares Compare.Lt c d = is_less_signed c d
compares Compare.Le c d = is_less_signed c d || is_equal c d
compares Compare.Ltu c d = is_less c d
compares Compare.Leu c d = is_less c d || is_equal c d

-- CPtrCmp: Capability Pointer Compare: CEQ, CNE, CLT, CLE, CLTU, CLEU. Signed numbers turn at 2^63 (ruling A7).
unfoldable pub c_ptr_cmp : Compare → Cap → ℕ → Named → Named → Checked
c_ptr_cmp kind pcc rd cb ct = do
  opened pcc cb.number
  opened pcc ct.number
  ok (Effect.General rd (bit (compares kind cb.cap ct.cap)))
