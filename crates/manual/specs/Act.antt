-- A step's turn (01, "Stop numbers").
use Rattle.std.specs.Prelude.{ℕ, Bool, cond, ◌&&◌, List, Result, Ok, Err}
use Rattle.manual.specs.Decode.{decode_word, is_jump_word}
use Rattle.manual.specs.declared.Fault.{Fault}
use Rattle.manual.specs.Checks.{settle}
use Rattle.manual.specs.declared.Operands.{Operands}
use Rattle.manual.specs.Plan.{plan_of}
use Rattle.manual.specs.Perform.{turn_of, ram_of, tags_of}
use Rattle.manual.specs.declared.Effect.{Effect}
use Rattle.manual.specs.declared.Change.{Change}

-- a step tests fetch, then 7, then 4, then the instruction's own
unfoldable pub planned_of : Operands → Bool → Result ℕ Fault → Result Effect Fault
planned_of o slot (Err fault) = Err fault
planned_of o slot (Ok w) = cond (slot && is_jump_word w) (Err Fault.Pending) (settle (plan_of o (decode_word w)))

abbrev pub done_turn : Operands → List ℕ → List ℕ → List ℕ → Result Effect Fault → Result Change Fault
done_turn o flash ram tags (Err fault) = Err fault
done_turn o flash ram tags (Ok effect) = turn_of o.c0.cap o.cause flash ram tags effect

abbrev pub done_ram : List ℕ → List ℕ → Result Effect Fault → List ℕ
done_ram flash ram (Err fault) = ram
done_ram flash ram (Ok effect) = ram_of flash ram effect

abbrev pub done_tags : List ℕ → List ℕ → List ℕ → Result Effect Fault → List ℕ
done_tags flash ram tags (Err fault) = tags
done_tags flash ram tags (Ok effect) = tags_of flash ram tags effect

abbrev pub act_turn : Operands → Bool → Result ℕ Fault → List ℕ → List ℕ → List ℕ → Result Change Fault
act_turn o slot fetched flash ram tags = done_turn o flash ram tags (planned_of o slot fetched)

abbrev pub act_ram : Operands → Bool → Result ℕ Fault → List ℕ → List ℕ → List ℕ
act_ram o slot fetched flash ram = done_ram flash ram (planned_of o slot fetched)

abbrev pub act_tags : Operands → Bool → Result ℕ Fault → List ℕ → List ℕ → List ℕ → List ℕ
act_tags o slot fetched flash ram tags = done_tags flash ram tags (planned_of o slot fetched)
