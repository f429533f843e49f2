-- What a start book grants: a start that read_book accepts is one that run accepts, and a book that gives no tagged capability gives nothing.
use Rattle.std.specs.Prelude.{ℕ, ◌+◌, ◌*◌, ◌≤◌, ◌<◌, ◌≡◌, true, false, List, [], ◌∷◌, length, get_or, replicate, Ok}
use Rattle.manual.specs.declared.Cap.{Cap}
use Rattle.manual.specs.Accept.{sizes_fit, verdict_of}
use Rattle.manual.specs.declared.Machine.{Machine}
use Rattle.manual.specs.State.{capability}
use Rattle.manual.specs.Run.{run_of}
use Rattle.pages.specs.Entering.{Start, zero_machine}
use Rattle.pages.specs.Enter.{judged, read_book}
use Rattle.isolation.specs.Reach.{Memories, Reach, CanRead, CanLoad}

-- read_book accepts this book beside these memories, and what it then sets
abbrev pub BookAccepted : List ℕ → List ℕ → List ℕ → List ℕ → Type 0
BookAccepted book flash ram tags = judged book (length flash) (length ram) (length tags) ≡ Ok tt

abbrev pub read : List ℕ → List ℕ → List ℕ → List ℕ → Start
read book flash ram tags = read_book book (length flash) ram tags

-- run accepts this start: not 20, 21, 22 or 24
abbrev pub StartAccepted : List ℕ → Start → Type 0
StartAccepted flash s =
    verdict_of s.machine.caps s.machine.pcc s.machine.pending (get_or s.machine.general 0 0) (length flash) s.ram s.tags ≡ Ok tt

-- Whatever the book, the flash and what the RAM and the tags held: a start that read_book accepts is a start that run accepts.
abbrev pub ReadIsAccepted : Type 0
ReadIsAccepted = (book flash ram tags : List ℕ) → BookAccepted book flash ram tags → StartAccepted flash (read book flash ram tags)

-- no tagged capability in C0..C31 or PCC; lines may be tagged
pub record NoneTagged (m : Machine) : Type 0 where
  pub registers : (i : ℕ) → i < 32 → (capability m i).tag ≡ false
  pub pcc : m.pcc.tag ≡ false

-- the flash and the memories of a start, as a run is lent them
abbrev pub lent : List ℕ → Start → Memories
lent flash s = record { flash = flash; ram = s.ram; tags = s.tags }

-- What this start gives beside this flash: nothing. The place is where its run stops.
pub record GivesNothing (flash : List ℕ) (s : Start) (place : ℕ) : Type 0 where
  -- the reach is empty: no byte can be read and no tag loaded
  pub nothing_reached : (c : Cap) → Reach s.machine (lent flash s) c → ⊥
  pub nothing_read : (address : ℕ) → CanRead (Reach s.machine (lent flash s)) address → ⊥
  pub no_tag_loaded : (line : ℕ) → CanLoad (Reach s.machine (lent flash s)) line → ⊥
  -- a run of one step or more stops with Tag on PCC, before its first step; the cause register is set and all else is as it was
  pub stops : (budget : ℕ) → 1 ≤ budget
      → run_of budget flash s.machine s.ram s.tags
      ≡ record {
        outcome = record {
          stop = 1;
          cause = 2;
          register = 255;
          place = place;
          steps = 0;
          machine = record {
            general = s.machine.general;
            caps = s.machine.caps;
            pcc = s.machine.pcc;
            pending = s.machine.pending;
            cause = 2 * 256 + 255;
          };
        };
        ram = s.ram;
        tags = s.tags;
      }
  -- a run of no step is complete, and all is as it was
  pub unchanged : run_of 0 flash s.machine s.ram s.tags
      ≡ record { outcome = record { stop = 0; cause = 0; register = 0; place = 0; steps = 0; machine = s.machine }; ram = s.ram; tags = s.tags }

-- Demand 1's last sentence: every book that read_book accepts and that gives no tagged capability to C0..C31 or PCC gives nothing,
-- whatever its tagged lines, the flash and the budget. The run's place is PCC's offset.
abbrev pub NothingGranted : Type 0
NothingGranted =
    (book flash ram tags : List ℕ) → BookAccepted book flash ram tags → NoneTagged (read book flash ram tags).machine
    → GivesNothing flash (read book flash ram tags) (read book flash ram tags).machine.pcc.offset.0

-- the all-zero machine, and all-zero memories of these sizes
abbrev pub all_zero : List ℕ → List ℕ → Start
all_zero ram tags = record { machine = zero_machine; ram = replicate (length ram) 0; tags = replicate (length tags) 0 }

-- The book of the single byte 1, its version, beside memories of legal sizes.
pub record OnlyVersion (flash ram tags : List ℕ) : Type 0 where
  pub accepted : BookAccepted (1 ∷ []) flash ram tags
  pub reads : read (1 ∷ []) flash ram tags ≡ all_zero ram tags
  pub nothing : GivesNothing flash (all_zero ram tags) 0

abbrev pub EmptyBook : Type 0
EmptyBook = (flash ram tags : List ℕ) → sizes_fit (length flash) (length ram) (length tags) ≡ true → OnlyVersion flash ram tags
