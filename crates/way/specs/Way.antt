-- The shorter way of a run: the words it may take, and where a step of it stands.
use Rattle.std.specs.Prelude.{ℕ, Bool, true, false, cond, ◌&&◌, ◌||◌, eqb, leb, Option, Some, None}
use Rattle.manual.specs.declared.Offset.{Offset}
use Rattle.manual.specs.Number.{moved_by}
use Rattle.manual.specs.declared.Cap.{Cap}
use Rattle.manual.specs.Narrow.{set_offset}
use Rattle.manual.specs.Word.{major, field25}
use Rattle.manual.specs.Branch.{branch_offset}
use Rattle.way.specs.declared.Way.{Way}

-- all but the capability instructions other than field reads and those that derive a capability from one alone
unfoldable pub light_word : ℕ → Bool
light_word w = cond (eqb (major w) 18) (leb (field25 w) 6 || (leb 10 (field25 w) && leb (field25 w) 15)) true

abbrev pub next_at : Bool → Offset → Offset → Offset
next_at slot at target = cond slot target (moved_by at 4)

abbrev pub waiting_at : Bool → Cap → Offset → Option Cap
waiting_at slot pcc target = cond slot (Some (set_offset pcc target)) None

abbrev pub on_from : Way → Way
on_from way = record { at = next_at way.slot way.at way.target; slot = false; target = way.target }

abbrev pub turned_by : Way → ℕ → Way
turned_by way words = record { at = next_at way.slot way.at way.target; slot = true; target = branch_offset way.at words }
