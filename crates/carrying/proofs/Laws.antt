-- The laws of CLC and CSC. Assumes nothing.
use Rattle.std.specs.Prelude.{Result, Ok, Some}
use Rattle.std.specs.Option.{option_map}
use Rattle.std.specs.Result.{result_ok}
use Prim.Native.Nat.{ℕ}
use mathlib.Core.Path.{◌≡◌, refl, ◌∙◌}
use mathlib.Core.Bool.{Bool, true, false, not, ◌||◌}
use mathlib.Core.List.{List}
use Rattle.manual.specs.declared.Address.{Address}
use Rattle.manual.specs.declared.Place.{Place}
use Rattle.manual.specs.declared.Place.TheVariants.{Flash, Ram, Nowhere}
use Rattle.manual.specs.Store.{answer_at, ram_after, tags_after}
use Rattle.manual.specs.declared.Cap.{Cap}
use Rattle.manual.specs.Cap.{LOAD_CAPABILITY, STORE_CAPABILITY, STORE_LOCAL, GLOBAL, permits, register_open}
use Rattle.manual.specs.Line.{encode, load_cap}
use Rattle.manual.specs.declared.Named.{Named}
use Rattle.manual.specs.declared.Fault.{Fault}
use Rattle.manual.specs.declared.Effect.{Effect}
use Rattle.manual.specs.Checks.{Checked, guard, settle}
use Rattle.manual.specs.Transfer.{c_lc, c_sc, may_store}
use Rattle.manual.specs.declared.Operands.{Operands}
use Rattle.manual.specs.Perform.{turn_of, ram_of, tags_of}
use Rattle.manual.specs.Place.{place_in}
use Rattle.data.specs.Data.{Reaches}
use Rattle.data.proofs.Reaches.{planned_at, planned_reached}
use Rattle.derivation.specs.declared.Capable.{Capable}
use Rattle.special.specs.Special.{Amounts}

-- a check that passes
goes_on : (holds : Bool) (fault : Fault) (rest : Checked) → holds ≡ true → settle (guard holds fault rest) ≡ settle rest
unfolding settle
goes_on holds fault rest h = rw h

module _ (o : Operands) (planned : Result Effect Fault) (flash ram tags : List ℕ) where
  -- CLC whose checks pass
  line_value : (a : Address) (cd : ℕ) (c : Cap) → load_cap flash ram tags a ≡ Some c → planned ≡ Ok (Effect.LoadCapability a cd) → Amounts o planned flash ram tags ram tags (Some (Capable.Puts cd c))
  unfolding turn_of ram_of tags_of
  line_value a cd c e p = rw (p, e) (refl, (refl, refl))

  pub clc_amounts : (x cd : ℕ) (pcc : Cap) (cb : Named) (rt : ℕ) (a : Address) (c : Cap) → planned ≡ settle (c_lc x pcc cd cb rt) → register_open pcc.perms cd ≡ true → Reaches LOAD_CAPABILITY pcc cb rt x 32 a → load_cap flash ram tags a ≡ Some c
      → Amounts o planned flash ram tags ram tags (Some (Capable.Puts cd c))
  unfolding c_lc settle
  clc_amounts x cd pcc cb rt a c p h r e = line_value a cd c e (p ∙ rw h (planned_reached _ _ _ _ _ _ a Fault.Misaligned (λ b. Effect.LoadCapability b cd) r))

  -- CSC whose checks pass
  line_stored : (a : Address) (c : Cap) (at : Place) → place_in flash ram a 32 ≡ at → planned ≡ Ok (Effect.StoreCapability a c)
      → Amounts o planned flash ram tags (ram_after at ram (encode c)) (tags_after at tags c.tag) (option_map (λ _. Capable.Sets 0 0) (result_ok (answer_at at)))
  unfolding turn_of ram_of tags_of
  line_stored a c (Flash i) e p = (refl, refl)
  line_stored a c (Ram i) e p = rw (p, e) (refl, (refl, refl))
  line_stored a c Nowhere e p = (refl, refl)

  pub csc_amounts : (x : ℕ) (pcc : Cap) (cs cb : Named) (rt : ℕ) (a : Address) → planned ≡ settle (c_sc x pcc cs cb rt) → register_open pcc.perms cs.number ≡ true → may_store cs.cap cb.cap ≡ true → Reaches STORE_CAPABILITY pcc cb rt x 32 a
      → Amounts o planned flash ram tags (ram_after (place_in flash ram a 32) ram (encode cs.cap)) (tags_after (place_in flash ram a 32) tags cs.cap.tag) (option_map (λ _. Capable.Sets 0 0) (result_ok (answer_at (place_in flash ram a 32))))
  unfolding c_sc
  csc_amounts x pcc cs cb rt a p from may r =
      line_stored a cs.cap (place_in flash ram a 32) refl
      (p ∙ goes_on _ _ _ from ∙ r.passes _ ∙ goes_on _ _ _ may ∙ planned_at _ cb.number Fault.StoreMisaligned (λ b. Effect.StoreCapability b cs.cap) a r.lands)

-- a capability that is global, or stored with the permission for local ones
may : (local untagged global : Bool) → (local || global) ≡ true → (local || (untagged || global)) ≡ true
may true untagged global e = refl
may false true global e = refl
may false false global e = e

pub stores : (c by : Cap) (local global : Bool) → local ≡ permits by STORE_LOCAL → global ≡ permits c GLOBAL → (local || global) ≡ true → may_store c by ≡ true
unfolding may_store
stores c by local global el eg e = may (permits by STORE_LOCAL) (not c.tag) (permits c GLOBAL) (rw (← el, ← eg) e)
