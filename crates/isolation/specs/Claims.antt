-- What is claimed of every run.
use Rattle.std.specs.Prelude.{ℕ, ◌≡◌, ◌↔◌, length, get_or, Ok}
use Rattle.manual.specs.declared.Cap.{Cap}
use Rattle.manual.specs.Accept.{verdict_of}
use Rattle.manual.specs.declared.Machine.{Machine}
use Rattle.manual.specs.Steps.{Ran}
use Rattle.manual.specs.Run.{run_of}
use Rattle.isolation.specs.Reach.{Memories, Reach}
use Rattle.isolation.specs.Agree.{Agree, Alike, Under, Kept, left}

-- the machine's run over these memories, and that it does not refuse them
abbrev pub ran : ℕ → Machine → Memories → Ran
ran budget m x = run_of budget x.flash m x.ram x.tags

abbrev pub Accepted : Machine → Memories → Type 0
Accepted m x = verdict_of m.caps m.pcc m.pending (get_or m.general 0 0) (length x.flash) x.ram x.tags ≡ Ok tt

-- Demand 3. Two accepted starts with equal registers, PC, pending jump, cause and memory sizes, whose memories differ only where
-- nothing within reach at the start can read, load or fetch, stop alike for any budget: same answer, steps and registers, and the
-- same bytes and tags wherever that reach can read or load.
abbrev pub Confined : Type 0
Confined =
    (budget : ℕ) (m : Machine) (x y : Memories) → Accepted m x → Accepted m y → Agree (Reach m x) x y
    → Alike (Reach m x) x (ran budget m x) y (ran budget m y)

-- Both starts have the same reach.
abbrev pub SameReach : Type 0
SameReach = (m : Machine) (x y : Memories) → Agree (Reach m x) x y → (c : Cap) → Reach m x c ↔ Reach m y c

-- Reach does not grow: each member afterwards is inside one single member of the reach at the start.
abbrev pub NoGrowth : Type 0
NoGrowth =
    (budget : ℕ) (m : Machine) (x : Memories) → Accepted m x
    → (c : Cap) → Reach (ran budget m x).outcome.machine (left x (ran budget m x)) c → Under (Reach m x) c

-- What no member of the reach at the start can write is as it was.
abbrev pub NothingOutside : Type 0
NothingOutside = (budget : ℕ) (m : Machine) (x : Memories) → Accepted m x → Kept (Reach m x) x (left x (ran budget m x))
