-- Instructions that derive a capability register: where they go on, what is planned of them.
use Rattle.std.specs.Prelude.{ℕ, ◌≡◌, Bool, not, ◌&&◌, eqb, leb, Result, Option, Ok, Some, None, ⊤}
use Rattle.manual.specs.declared.Cap.{Cap}
use Rattle.manual.specs.Cap.{register_open}
use Rattle.manual.specs.Word.{below}
use Rattle.manual.specs.Decode.{capability_word}
use Rattle.manual.specs.declared.Named.{Named}
use Rattle.manual.specs.declared.Effect.{Effect}
use Rattle.manual.specs.Checks.{settle}
use Rattle.manual.specs.declared.Operands.{Operands}
use Rattle.manual.specs.Plan.{plan_of}
use Rattle.derivation.specs.declared.Capable.{Capable}
use Rattle.derivation.specs.declared.Tests.{Tests}
use Rattle.manual.specs.declared.Fault.{Fault}

-- a word that names two registers, or three, and PCC opens those that are capabilities
abbrev pub names : ℕ → ℕ → ℕ → Cap → Named → Bool
names registers w cd pcc cb = register_open pcc.perms cd && register_open pcc.perms cb.number && eqb (below registers w) 0

abbrev pub tested_of : ℕ → ℕ → Cap → Named → ℕ → Tests
tested_of w cd pcc cb rt = record {
  two = names 2 w cd pcc cb;
  movable = names 3 w cd pcc cb && not (cb.cap.tag && cb.cap.sealed);
  free = names 3 w cd pcc cb && cb.cap.tag && not cb.cap.sealed;
  shorter = names 3 w cd pcc cb && cb.cap.tag && not cb.cap.sealed && leb rt cb.cap.length;
}

-- an answer is what is planned; None says nothing
abbrev pub Leads : Result Effect Fault → Option Capable → Type 0
Leads planned (Some (Capable.Sets rd v)) = planned ≡ Ok (Effect.General rd v)
Leads planned (Some (Capable.Puts cd c)) = planned ≡ Ok (Effect.Capability cd c)
Leads planned None = ⊤

-- whatever the other operands, and whatever a branch would count
abbrev pub Derives : ℕ → ℕ → Cap → Named → ℕ → Option Capable → Type 0
Derives w cd pcc cb rt r =
    (o : Operands) (count : ℕ) → o.n20 ≡ cd → o.pcc ≡ pcc → o.c15 ≡ cb → o.g10 ≡ rt → Leads (settle (plan_of o (capability_word w count))) r
