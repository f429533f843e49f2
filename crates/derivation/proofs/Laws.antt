-- The laws of the instructions that derive a capability register: their checks passed. Assumes nothing.
use Rattle.std.specs.Prelude.{Ok}
use Rattle.std.specs.Bool.{then_some}
use Rattle.derivation.specs.declared.Capable.{Capable}
use Prim.Native.Nat.{ℕ}
use mathlib.Core.Path.{◌≡◌, refl}
use mathlib.Core.Bool.{Bool, true, false, not, ◌&&◌}
use lib.Dec.{eqb, leb}
use borrow.Author.Tests.{not-true}
use Rattle.manual.specs.declared.Cap.{Cap}
use Rattle.manual.specs.Cap.{register_open}
use Rattle.manual.specs.Narrow.{and_perms, clear_tag, inc_base, set_length, set_offset, inc_offset}
use Rattle.manual.specs.declared.Instr.{Instr}
use Rattle.manual.specs.Word.{below}
use Rattle.manual.specs.Decode.{if_zero}
use Rattle.manual.specs.declared.Named.{Named}
use Rattle.manual.specs.declared.Effect.{Effect}
use Rattle.manual.specs.Checks.{settle}
use Rattle.manual.specs.Derive.{c_and_perm, c_clear_tag, c_inc_base, c_set_len, c_set_offset, c_inc_offset}
use Rattle.manual.specs.declared.Operands.{Operands}
use Rattle.manual.specs.Plan.{plan_of}
use Rattle.manual.proofs.Tests.{both_true}
use Rattle.derivation.specs.Deriving.{Leads, names, tested_of}

-- an answer that asks for its checks, of an instruction whose unused field is tested first
pub leads : (o : Operands) (field : ℕ) (i : Instr) (passes : Bool) (cd : ℕ) (c : Cap) → (passes ≡ true → (eqb field 0 ≡ true) × (settle (plan_of o i) ≡ Ok (Effect.Capability cd c)))
    → Leads (settle (plan_of o (if_zero field i))) (then_some passes (Capable.Puts cd c))
unfolding if_zero
leads o field i true cd c h = rw (h refl).0 (h refl).1
leads o field i false cd c h = tt

module _ (w : ℕ) (pcc : Cap) (cd : ℕ) (cb : Named) (rt : ℕ) where
  -- the operands are named and both registers are open
  named : (registers : ℕ) → names registers w cd pcc cb ≡ true → (eqb (below registers w) 0 ≡ true) × ((register_open pcc.perms cd ≡ true) × (register_open pcc.perms cb.number ≡ true))
  named registers h =
      let t = both_true (register_open pcc.perms cd && register_open pcc.perms cb.number) (eqb (below registers w) 0) h in
      (t.1, both_true (register_open pcc.perms cd) (register_open pcc.perms cb.number) t.0)

  -- and the register at 15..11 is tagged and free
  freed : (tested_of w cd pcc cb rt).free ≡ true → (names 3 w cd pcc cb ≡ true) × ((cb.cap.tag ≡ true) × (cb.cap.sealed ≡ false))
  freed h =
      let t = both_true (names 3 w cd pcc cb && cb.cap.tag) (not cb.cap.sealed) h in
      let u = both_true (names 3 w cd pcc cb) cb.cap.tag t.0 in (u.0, (u.1, not-true cb.cap.sealed t.1))

  pub and_perm : (tested_of w cd pcc cb rt).free ≡ true → (eqb (below 3 w) 0 ≡ true) × (settle (c_and_perm pcc cd cb rt) ≡ Ok (Effect.Capability cd (and_perms cb.cap rt)))
  unfolding c_and_perm settle
  and_perm h = let f = freed h in let x = named 3 f.0 in (x.0, rw (x.1.0, x.1.1, f.1.0, f.1.1))

  pub clear_tag_lem : (tested_of w cd pcc cb rt).two ≡ true → (eqb (below 2 w) 0 ≡ true) × (settle (c_clear_tag pcc cd cb) ≡ Ok (Effect.Capability cd (clear_tag cb.cap)))
  unfolding c_clear_tag settle
  clear_tag_lem h = let x = named 2 h in (x.0, rw (x.1.0, x.1.1))

  -- to no more than its length
  pub inc_base_lem : (tested_of w cd pcc cb rt).shorter ≡ true → (eqb (below 3 w) 0 ≡ true) × (settle (c_inc_base pcc cd cb rt) ≡ Ok (Effect.Capability cd (inc_base cb.cap rt)))
  unfolding c_inc_base settle
  inc_base_lem h = let s = both_true (tested_of w cd pcc cb rt).free (leb rt cb.cap.length) h in let f = freed s.0 in let x = named 3 f.0 in (x.0, rw (x.1.0, x.1.1, f.1.0, f.1.1, s.1))

  pub set_len : (tested_of w cd pcc cb rt).shorter ≡ true → (eqb (below 3 w) 0 ≡ true) × (settle (c_set_len pcc cd cb rt) ≡ Ok (Effect.Capability cd (set_length cb.cap rt)))
  unfolding c_set_len settle
  set_len h = let s = both_true (tested_of w cd pcc cb rt).free (leb rt cb.cap.length) h in let f = freed s.0 in let x = named 3 f.0 in (x.0, rw (x.1.0, x.1.1, f.1.0, f.1.1, s.1))

  -- unless it is tagged and sealed
  moved : (tested_of w cd pcc cb rt).movable ≡ true → ((eqb (below 3 w) 0 ≡ true) × ((register_open pcc.perms cd ≡ true) × (register_open pcc.perms cb.number ≡ true))) × (not (cb.cap.tag && cb.cap.sealed) ≡ true)
  moved h = let m = both_true (names 3 w cd pcc cb) (not (cb.cap.tag && cb.cap.sealed)) h in (named 3 m.0, m.1)

  pub set_offset_lem : (tested_of w cd pcc cb rt).movable ≡ true → (eqb (below 3 w) 0 ≡ true) × (settle (c_set_offset pcc cd cb rt) ≡ Ok (Effect.Capability cd (set_offset cb.cap (record { 0 = rt }))))
  unfolding c_set_offset settle
  set_offset_lem h = let m = moved h in (m.0.0, rw (m.0.1.0, m.0.1.1, m.1))

  pub inc_offset_lem : (tested_of w cd pcc cb rt).movable ≡ true → (eqb (below 3 w) 0 ≡ true) × (settle (c_inc_offset pcc cd cb rt) ≡ Ok (Effect.Capability cd (inc_offset cb.cap rt)))
  unfolding c_inc_offset settle
  inc_offset_lem h = let m = moved h in (m.0.0, rw (m.0.1.0, m.0.1.1, m.1))
