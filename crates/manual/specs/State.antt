-- The machine's registers, and what a step leaves in them (01, "What the model is" and "Stop numbers").
use Rattle.std.specs.Prelude.{ℕ, ◌+◌, ◌*◌, ◌%◌, cond, List, get_or, set, eqb, Option, Some, None}
use Rattle.manual.specs.declared.Cap.{Cap}
use Rattle.manual.specs.Narrow.{null, inc_offset}
use Rattle.manual.specs.Word.{field25, field20, field15, field10}
use Rattle.manual.specs.declared.Fault.{Fault}
use Rattle.manual.specs.Checks.{stop_number}
use Rattle.manual.specs.declared.Operands.{Operands}
use Rattle.manual.specs.declared.Change.{Change}
use Rattle.manual.specs.declared.Machine.{Machine}
use Rattle.manual.specs.declared.Outcome.{Outcome}

abbrev pub gathered : ℕ → ℕ → ℕ → ℕ → ℕ → Cap → Cap → Cap → Cap → Cap → Cap → ℕ → Operands
gathered w g25 g20 g15 g10 k25 k20 k15 k10 k0 pcc cause =
    record {
      n25 = field25 w;
      n20 = field20 w;
      n15 = field15 w;
      g25 = g25;
      g20 = g20;
      g15 = g15;
      g10 = g10;
      c25 = record { number = field25 w; cap = k25 };
      c20 = record { number = field20 w; cap = k20 };
      c15 = record { number = field15 w; cap = k15 };
      c10 = record { number = field10 w; cap = k10 };
      c0 = record { number = 0; cap = k0 };
      pcc = pcc;
      cause = cause;
    }

-- the general registers by the word, the capability registers as they are handed over
abbrev pub operands_by : ℕ → List ℕ → Cap → Cap → Cap → Cap → Cap → Cap → ℕ → Operands
operands_by w g k25 k20 k15 k10 k0 pcc cause = gathered w (get_or g (field25 w) 0) (get_or g (field20 w) 0) (get_or g (field15 w) 0) (get_or g (field10 w) 0) k25 k20 k15 k10 k0 pcc cause

abbrev pub general : Machine → ℕ → ℕ
general m n = get_or m.general n 0

abbrev pub capability : Machine → ℕ → Cap
capability m n = get_or m.caps n null

-- the registers that the word's fields name, C0, PCC and the cause
unfoldable pub operands_of : Machine → ℕ → Operands
operands_of m w =
    gathered w (general m (field25 w)) (general m (field20 w)) (general m (field15 w)) (general m (field10 w))
    (capability m (field25 w)) (capability m (field20 w)) (capability m (field15 w)) (capability m (field10 w))
    (capability m 0) m.pcc m.cause

-- register 0 reads as 0 and writes to it vanish
abbrev pub kept : ℕ → ℕ → ℕ
kept rd value = cond (eqb rd 0) 0 value

-- the jump takes effect after its slot; otherwise PC grows by 4 mod 2^64
abbrev pub next_pcc : Cap → Option Cap → Cap
next_pcc pcc None = inc_offset pcc 4
next_pcc pcc (Some target) = target

-- the machine with a step's change written
unfoldable pub commit : Machine → Change → Machine
commit m d =
    record {
      general = set m.general (d.rd % 32) (kept (d.rd % 32) d.value);
      caps = set m.caps (d.cd % 32) d.cap;
      pcc = next_pcc m.pcc m.pending;
      pending = d.jump;
      cause = d.cause;
    }

-- cause and register are 0 except with stop 1
abbrev pub cause_of : Fault → ℕ
cause_of (Fault.Raise cause register) = cause
cause_of Fault.Misaligned = 0
cause_of Fault.StoreMisaligned = 0
cause_of Fault.Reserved = 0
cause_of Fault.Nowhere = 0
cause_of Fault.IntoFlash = 0
cause_of Fault.Pending = 0
cause_of Fault.Break = 0

abbrev pub register_of : Fault → ℕ
register_of (Fault.Raise cause register) = register
register_of Fault.Misaligned = 0
register_of Fault.StoreMisaligned = 0
register_of Fault.Reserved = 0
register_of Fault.Nowhere = 0
register_of Fault.IntoFlash = 0
register_of Fault.Pending = 0
register_of Fault.Break = 0

-- the cause code in bits 15..8 and the register in bits 7..0; a stop other than 1 leaves it as it was (ruling A19)
abbrev pub cause_after : Fault → ℕ → ℕ
cause_after (Fault.Raise code register) cause = code * 256 + register
cause_after Fault.Misaligned cause = cause
cause_after Fault.StoreMisaligned cause = cause
cause_after Fault.Reserved cause = cause
cause_after Fault.Nowhere cause = cause
cause_after Fault.IntoFlash cause = cause
cause_after Fault.Pending cause = cause
cause_after Fault.Break cause = cause

-- state before that step, cause register set with stop 1; the place is the PC of the stopped instruction
unfoldable pub stopped_at : Fault → ℕ → Machine → Outcome
stopped_at fault steps m =
    record {
      stop = stop_number fault;
      cause = cause_of fault;
      register = register_of fault;
      place = m.pcc.offset.0;
      steps = steps;
      machine = record { general = m.general; caps = m.caps; pcc = m.pcc; pending = m.pending; cause = cause_after fault m.cause };
    }

-- stop 0 or a refusal: place, cause and register are 0
abbrev pub ended_with : ℕ → ℕ → Machine → Outcome
ended_with stop steps m = record { stop = stop; cause = 0; register = 0; place = 0; steps = steps; machine = m }
