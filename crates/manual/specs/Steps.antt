-- Many steps: as many as the budget has, or up to the one that stops (01, "Stop numbers").
use Rattle.std.specs.Prelude.{ℕ, zero, suc, ◌+◌, List, Result, Ok, Err}
use Rattle.manual.specs.Act.{act_turn, act_ram, act_tags}
use Rattle.manual.specs.Fetch.{fetch_of, word_of}
use Rattle.manual.specs.Registers.{is_pending}
use Rattle.manual.specs.declared.Machine.{Machine}
use Rattle.manual.specs.declared.Outcome.{Outcome}
use Rattle.manual.specs.State.{operands_of, commit, stopped_at, ended_with}
use Rattle.manual.specs.declared.Fault.{Fault}
use Rattle.manual.specs.declared.Change.{Change}

-- what the step of a machine writes, and what it leaves in RAM and tags
abbrev pub fetched_by : List ℕ → Machine → List ℕ → Result ℕ Fault
fetched_by flash m ram = fetch_of flash ram m.pcc

unfoldable pub turn_at : List ℕ → Machine → List ℕ → List ℕ → Result Change Fault
turn_at flash m ram tags = act_turn (operands_of m (word_of (fetched_by flash m ram))) (is_pending m.pending) (fetched_by flash m ram) flash ram tags

unfoldable pub ram_at : List ℕ → Machine → List ℕ → List ℕ
ram_at flash m ram = act_ram (operands_of m (word_of (fetched_by flash m ram))) (is_pending m.pending) (fetched_by flash m ram) flash ram

unfoldable pub tags_at : List ℕ → Machine → List ℕ → List ℕ → List ℕ
tags_at flash m ram tags = act_tags (operands_of m (word_of (fetched_by flash m ram))) (is_pending m.pending) (fetched_by flash m ram) flash ram tags

pub record Ran : Type 0 where
  pub outcome : Outcome
  pub ram : List ℕ
  pub tags : List ℕ

-- so many steps are left, and n are made; a stop leaves RAM and tags as they were before its step
unfoldable pub run_from : ℕ → ℕ → List ℕ → Machine → List ℕ → List ℕ → Ran
run_from zero n flash m ram tags = record { outcome = ended_with 0 n m; ram = ram; tags = tags }
run_from (suc k) n flash m ram tags =
    elim (turn_at flash m ram tags) [
      | Ok d ↦ run_from k (n + 1) flash (commit m d) (ram_at flash m ram) (tags_at flash m ram tags)
      | Err fault ↦ record { outcome = stopped_at fault n m; ram = ram; tags = tags }
    ]
