-- The laws of the plain instructions: a law for each kind that another function answers for. Assumes nothing.
use Rattle.std.specs.Prelude.{Result, Option, Ok, Err, Some, IfSome}
use Rattle.std.specs.Option.{option_map}
use Rattle.std.specs.Result.{result_ok}
use Prim.Native.Nat.{ℕ}
use mathlib.Core.Path.{◌≡◌, refl, sym, subst}
use mathlib.Core.Bool.{Bool, true, false, cond, ◌&&◌}
use mathlib.Core.List.{List}
use native.Mathlib.Omega.{arith}
use lib.Dec.{eqb}
use Rattle.manual.specs.declared.Size.{Size}
use Rattle.manual.specs.Number.{bytes_in}
use Rattle.manual.specs.declared.Cap.{Cap}
use Rattle.manual.specs.Cap.{LOAD, STORE}
use Rattle.manual.specs.declared.Named.{Named}
use Rattle.manual.specs.declared.Fault.{Fault}
use Rattle.manual.specs.Checks.{settle}
use Rattle.manual.specs.Transfer.{load, store}
use Rattle.manual.specs.declared.Instr.{Instr}
use Rattle.manual.specs.Word.{signed16}
use Rattle.manual.specs.Decode.{lookup, majors, decode_word, is_jump_word}
use Rattle.manual.specs.Branch.{wanted, branch}
use Rattle.manual.specs.declared.Operands.{Operands}
use Rattle.manual.specs.Plan.{plan_of}
use Rattle.manual.specs.declared.Change.{Change}
use Rattle.manual.specs.Perform.{turn_of, ram_of, tags_of}
use Rattle.manual.specs.Act.{planned_of, done_turn}
use Rattle.special.specs.Special.{Means}
use Rattle.special.proofs.Does.{load_does, store_does}
use Rattle.manual.specs.Fetch.{RESERVED, ahead_of}
use Rattle.plain.specs.Plain.{Sees, branches_by}
use Rattle.special.specs.declared.Plain.{Plain}
use Rattle.data.specs.Data.{Reaches, loaded_at, stored_at, stores_ram, stores_tags}
use Rattle.manual.specs.declared.Effect.{Effect}
use Rattle.manual.specs.declared.Address.{Address}

module _ (o : Operands) (planned : Result Effect Fault) (flash ram tags : List ℕ) where
  pub load_means : (size : Size) (x rd : ℕ) (pcc : Cap) (cb : Named) (rt : ℕ) (lies : Option Address) → planned ≡ settle (load size false x pcc rd cb rt) → IfSome lies (Reaches LOAD pcc cb rt x (bytes_in size))
      → Means o planned flash ram tags ram tags (option_map (λ v. Plain.Sets rd v) (loaded_at flash ram false size lies))
  load_means size x rd pcc cb rt lies p r = load_does o planned flash ram tags (λ l. Means o planned flash ram tags ram tags (option_map (λ v. Plain.Sets rd v) l)) size false x rd pcc cb rt lies p r (λ v d. d) (refl, refl)

  pub store_means : (size : Size) (x v : ℕ) (pcc : Cap) (cb : Named) (rt : ℕ) (lies : Option Address) → planned ≡ settle (store size x pcc v cb rt) → IfSome lies (Reaches STORE pcc cb rt x (bytes_in size))
      → Means o planned flash ram tags (stores_ram flash ram size v lies) (stores_tags flash ram tags size lies) (option_map (λ _. Plain.Sets 0 0) (result_ok (stored_at flash ram size lies)))
  store_means size x v pcc cb rt lies p r =
      store_does o planned flash ram tags (λ s ram' tags'. Means o planned flash ram tags ram' tags' (option_map (λ _. Plain.Sets 0 0) (result_ok s))) size x v pcc cb rt lies p r (λ ram' tags' d. d) (refl, refl) (refl, refl)

module _ (o : Operands) (flash ram tags : List ℕ) (n20 n15 g25 g20 : ℕ) (c0 : Cap) (s : Sees o n20 n15 g25 g20 c0) where
  branch_goes : (equal taken : Bool) (x : ℕ) → taken ≡ wanted equal (eqb g25 g20) → Means o (settle (branch equal x o.pcc o.g25 o.g20)) flash ram tags ram tags (Some (branches_by taken x))
  unfolding branch settle turn_of ram_of tags_of
  branch_goes equal true x e = rw (s.is_g25, s.is_g20, ← e) (refl, (refl, refl))
  branch_goes equal false x e = rw (s.is_g25, s.is_g20, ← e) (refl, (refl, refl))

  pub branch_means : (w : ℕ) (equal taken : Bool) (r : Plain) → decode_word w ≡ Instr.Branch equal (signed16 w) → r ≡ branches_by taken (signed16 w) → taken ≡ wanted equal (eqb g25 g20)
      → Means o (settle (plan_of o (decode_word w))) flash ram tags ram tags (Some r)
  unfolding plan_of
  branch_means w equal taken r d q e =
      subst (λ (y : Plain). Means o (settle (plan_of o (decode_word w))) flash ram tags ram tags (Some y)) (sym q)
      (subst (λ (i : Instr). Means o (settle (plan_of o i)) flash ram tags ram tags (Some (branches_by taken (signed16 w)))) (sym d) (branch_goes equal taken _ e))

no_turn : (A : Type 0) (f : Fault) (d : Change) → Err f ≡ Ok d → A
no_turn A f d q = let z : ◌≡◌ {A = ℕ} 0 1 = cc in absurd (omega arith)

-- a jump in a slot has no turn to speak of
word_goes : (o : Operands) (w : ℕ) (flash ram tags : List ℕ) (d : Change) (jumps : Bool) → done_turn o flash ram tags (settle (plan_of o (decode_word (cond jumps RESERVED w)))) ≡ Ok d
    → settle (plan_of o (decode_word (cond jumps RESERVED w))) ≡ cond jumps (Err Fault.Pending) (settle (plan_of o (decode_word w)))
unfolding plan_of settle lookup majors decode_word
word_goes o w flash ram tags d true e = no_turn _ _ _ e
word_goes o w flash ram tags d false e = refl

-- a turn that goes on: the step has an instruction, and it was this one
pub ahead_goes : (o : Operands) (slot : Bool) (fetched : Result ℕ Fault) (flash ram tags : List ℕ) (d : Change) → done_turn o flash ram tags (settle (plan_of o (decode_word (ahead_of slot fetched)))) ≡ Ok d
    → settle (plan_of o (decode_word (ahead_of slot fetched))) ≡ planned_of o slot fetched
unfolding plan_of settle planned_of lookup majors decode_word
ahead_goes o slot (Err f) flash ram tags d e = no_turn _ _ _ e
ahead_goes o slot (Ok w) flash ram tags d e = word_goes o w flash ram tags d (slot && is_jump_word w) e
