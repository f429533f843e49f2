-- A run: the start is judged first, then come its steps (01, "Stop numbers").
use Rattle.std.specs.Prelude.{ℕ, List, length, get_or, Result, Ok, Err}
use Rattle.manual.specs.Told.{refusal_number}
use Rattle.manual.specs.Accept.{verdict_of}
use Rattle.manual.specs.declared.Machine.{Machine}
use Rattle.manual.specs.State.{ended_with}
use Rattle.manual.specs.Steps.{Ran, run_from}
use Rattle.manual.specs.declared.Refusal.{Refusal}

-- a refusal gives back everything as it came
abbrev pub judged : ℕ → List ℕ → Machine → List ℕ → List ℕ → Result (Unit {0}) Refusal → Ran
judged budget flash m ram tags (Ok _) = run_from budget 0 flash m ram tags
judged budget flash m ram tags (Err refusal) = record { outcome = ended_with (refusal_number refusal) 0 m; ram = ram; tags = tags }

unfoldable pub run_of : ℕ → List ℕ → Machine → List ℕ → List ℕ → Ran
run_of budget flash m ram tags =
    judged budget flash m ram tags (verdict_of m.caps m.pcc m.pending (get_or m.general 0 0) (length flash) ram tags)
