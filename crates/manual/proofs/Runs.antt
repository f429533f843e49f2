-- The laws of a run: a turn that goes on, a turn that stops, and no turn left. Assumes nothing.
use Rattle.std.specs.Prelude.{Result, Ok, Err}
use Prim.Native.Nat.{ℕ, suc, ◌+◌, ◌-◌, ◌%◌, ◌<◌, ◌≤◌}
use mathlib.Core.Path.{◌≡◌, sym, ◌∙◌}
use mathlib.Core.List.{List}
use native.Mathlib.Omega.{arith}
use lib.ListN.{get_or, set}
use Rattle.manual.specs.declared.Cap.{Cap}
use Rattle.manual.specs.Narrow.{null}
use Rattle.manual.specs.Word.{field25, field20, field15, field10}
use Rattle.manual.specs.declared.Fault.{Fault}
use Rattle.manual.specs.declared.Operands.{Operands}
use Rattle.manual.specs.declared.Change.{Change}
use Rattle.manual.specs.Act.{planned_of, act_turn, act_ram, act_tags}
use Rattle.manual.specs.Fetch.{fetch_of, word_of}
use Rattle.manual.specs.Registers.{is_pending}
use Rattle.manual.proofs.Keeps.{stop_keeps}
use Rattle.manual.specs.declared.Machine.{Machine}
use Rattle.manual.specs.declared.Outcome.{Outcome}
use Rattle.manual.specs.State.{operands_by, operands_of, kept, next_pcc, commit, stopped_at, ended_with}
use Rattle.manual.specs.Steps.{Ran, fetched_by, turn_at, ram_at, tags_at, run_from}

-- what the code hands over is what the word names
module _ (flash ram tags : List ℕ) (m : Machine) (fetched : Result ℕ Fault) (w i25 i20 i15 i10 : ℕ)
    (f : fetched ≡ fetch_of flash ram m.pcc) (fw : w ≡ word_of fetched) (f25 : i25 ≡ field25 w) (f20 : i20 ≡ field20 w) (f15 : i15 ≡ field15 w) (f10 : i10 ≡ field10 w) where
  abbrev handed : Operands
  handed = operands_by w m.general (get_or m.caps i25 null) (get_or m.caps i20 null) (get_or m.caps i15 null) (get_or m.caps i10 null) (get_or m.caps 0 null) m.pcc m.cause

  operands : handed ≡ operands_of m (word_of (fetched_by flash m ram))
  unfolding operands_of
  operands = rw (f25, f20, f15, f10, fw, f)

  pub turn_is : (t : Result Change Fault) → t ≡ act_turn handed (is_pending m.pending) fetched flash ram tags → t ≡ turn_at flash m ram tags
  unfolding turn_at
  turn_is t e = rw (e, operands, f)

  pub ram_is : (l : List ℕ) → l ≡ act_ram handed (is_pending m.pending) fetched flash ram → l ≡ ram_at flash m ram
  unfolding ram_at
  ram_is l e = rw (e, operands, f)

  pub tags_is : (l : List ℕ) → l ≡ act_tags handed (is_pending m.pending) fetched flash ram tags → l ≡ tags_at flash m ram tags
  unfolding tags_at
  tags_is l e = rw (e, operands, f)

left : (b n : ℕ) → n < b → b - n ≡ suc (b - (n + 1))
left b n h = omega arith

-- a step that goes on, with k steps left after it
pub goes : (k n : ℕ) (flash ram tags : List ℕ) (m : Machine) (d : Change) → turn_at flash m ram tags ≡ Ok d
    → run_from (suc k) n flash m ram tags ≡ run_from k (n + 1) flash (commit m d) (ram_at flash m ram) (tags_at flash m ram tags)
unfolding run_from
goes k n flash ram tags m d e = rw (e, run_from)

module _ (b n : ℕ) (flash ram tags : List ℕ) (m : Machine) (h : n < b) where
  stops : (f : Fault) → turn_at flash m ram tags ≡ Err f → run_from (suc (b - (n + 1))) n flash m ram tags ≡ record { outcome = stopped_at f n m; ram = ram; tags = tags }
  unfolding run_from
  stops f e = rw (e, run_from)

  -- one step more, as the code writes it
  pub on : (d : Change) (ram' tags' : List ℕ) (v : ℕ) (p : Cap) → Ok d ≡ turn_at flash m ram tags → ram' ≡ ram_at flash m ram → tags' ≡ tags_at flash m ram tags
      → v ≡ kept (d.rd % 32) d.value → p ≡ next_pcc m.pcc m.pending
      → run_from (b - (n + 1)) (n + 1) flash (record { general = set m.general (d.rd % 32) v; caps = set m.caps (d.cd % 32) d.cap; pcc = p; pending = d.jump; cause = d.cause }) ram' tags'
      ≡ run_from (b - n) n flash m ram tags
  unfolding commit
  on d ram' tags' v p qd qr qt qv qp = rw (left b n h, goes (b - (n + 1)) n flash ram tags m d (sym qd), qv, qp, qr, qt)

  -- a stop: nothing was written
  pub off : (f : Fault) (ram' tags' : List ℕ) (r : Outcome) → Err f ≡ turn_at flash m ram tags → ram' ≡ ram_at flash m ram → tags' ≡ tags_at flash m ram tags → r ≡ stopped_at f n m
      → ◌≡◌ {A = Ran} (record { outcome = r; ram = ram'; tags = tags' }) (run_from (b - n) n flash m ram tags)
  unfolding turn_at ram_at tags_at
  off f ram' tags' r qf qr qt qo =
      let k = stop_keeps (operands_of m (word_of (fetched_by flash m ram))) (planned_of (operands_of m (word_of (fetched_by flash m ram))) (is_pending m.pending) (fetched_by flash m ram)) flash ram tags f (sym qf) in
      rw (left b n h, stops f (sym qf), qo, qr ∙ k.0, qt ∙ k.1)

pub done : (b n : ℕ) (flash ram tags : List ℕ) (m : Machine) (r : Outcome) → b ≤ n → r ≡ ended_with 0 n m
    → ◌≡◌ {A = Ran} (record { outcome = r; ram = ram; tags = tags }) (run_from (b - n) n flash m ram tags)
unfolding run_from
done b n flash ram tags m r h e = let z : b - n ≡ 0 = omega arith in rw (z, e)

pub first : (b : ℕ) (flash ram tags : List ℕ) (m : Machine) → run_from (b - 0) 0 flash m ram tags ≡ run_from b 0 flash m ram tags
first b flash ram tags m = let e : b - 0 ≡ b = omega arith in rw e
