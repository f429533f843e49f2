-- The laws of the shorter way: one plain step more, as the run's definition makes it. Assumes nothing.
use Rattle.std.specs.Prelude.{Result, Option, Some, None}
use Prim.Native.Nat.{ℕ, suc, ◌+◌, ◌%◌}
use mathlib.Core.Path.{◌≡◌, refl, sym, ◌∙◌, ap}
use mathlib.Core.Bool.{Bool, true, false}
use mathlib.Core.List.{List, [], ◌∷◌}
use native.Mathlib.Omega.{arith}
use lib.ListN.{get_or, set}
use Rattle.manual.specs.declared.Offset.{Offset}
use Rattle.manual.specs.declared.Cap.{Cap}
use Rattle.manual.specs.Narrow.{null, set_offset, inc_offset}
use Rattle.manual.specs.Word.{field25, field20, field15}
use Rattle.manual.specs.Decode.{decode_word}
use Rattle.manual.specs.Branch.{branch_offset, branch_to}
use Rattle.manual.specs.Checks.{settle}
use Rattle.manual.specs.declared.Operands.{Operands}
use Rattle.manual.specs.Plan.{plan_of}
use Rattle.manual.specs.declared.Change.{Change}
use Rattle.manual.specs.Perform.{to_general}
use Rattle.manual.specs.Fetch.{fetch_of, word_of, ahead_of}
use Rattle.manual.specs.Registers.{is_pending}
use Rattle.special.specs.declared.Plain.{Plain}
use Rattle.special.specs.Special.{Does, Means}
use Rattle.plain.specs.Plain.{Plainly}
use Rattle.plain.specs.Plain as plain
use Rattle.plain.proofs.Laws.{ahead_goes}
use Rattle.manual.specs.State.{operands_of, kept, next_pcc, commit}
use Rattle.manual.specs.Steps.{turn_at, ram_at, tags_at, run_from}
use Rattle.way.specs.declared.Way.{Way}
use Rattle.way.specs.Way.{next_at, waiting_at, on_from, turned_by}
use Rattle.slide.specs.Slide.{holding, Glides, PlainlyBy, Slides, Sees}
use Rattle.manual.proofs.Runs.{goes}
use Rattle.manual.specs.declared.Effect.{Effect}
use Rattle.manual.specs.declared.Fault.{Fault}

-- the operands of the step at PCC
abbrev pub here_operands : List ℕ → List ℕ → List ℕ → List Cap → Cap → Option Cap → ℕ → Operands
here_operands flash ram g caps pcc pending cause = operands_of (holding g caps pcc pending cause) (word_of (fetch_of flash ram pcc))

-- what that step plans
abbrev pub here_planned : List ℕ → List ℕ → List ℕ → List Cap → Cap → Option Cap → ℕ → Result Effect Fault
here_planned flash ram g caps pcc pending cause = settle (plan_of (here_operands flash ram g caps pcc pending cause) (decode_word (ahead_of (is_pending pending) (fetch_of flash ram pcc))))

-- what an answer of the shorter way says of the step, whatever the cause
pub record Tells (flash g : List ℕ) (caps : List Cap) (pcc : Cap) (pending : Option Cap) (ram tags ram' tags' : List ℕ) (r : Option Plain) : Type 0 where
  pub tells : (cause : ℕ) → Means (here_operands flash ram g caps pcc pending cause) (here_planned flash ram g caps pcc pending cause) flash ram tags ram' tags' r

sees : (g : List ℕ) (caps : List Cap) (pcc : Cap) (pending : Option Cap) (w cause : ℕ)
    → plain.Sees (operands_of (holding g caps pcc pending cause) w) (field20 w) (field15 w) (get_or g (field25 w) 0) (get_or g (field20 w) 0) (get_or caps 0 null)
unfolding operands_of
sees g caps pcc pending w cause = record { is_n20 = refl; is_n15 = refl; is_g25 = refl; is_g20 = refl; is_c0 = refl }

-- C0 written as it was
same_first : (caps : List Cap) → set caps 0 (get_or caps 0 null) ≡ caps
same_first [] = refl
same_first (c ∷ cs) = refl

-- a step that its plan lets go on is a step of the definition
step_goes : (flash g : List ℕ) (caps : List Cap) (pcc : Cap) (pending : Option Cap) (ram tags ram' tags' : List ℕ) (cause k s : ℕ) (d : Change)
    → Does (here_operands flash ram g caps pcc pending cause) (here_planned flash ram g caps pcc pending cause) flash ram tags ram' tags' d
    → run_from (suc k) s flash (holding g caps pcc pending cause) ram tags ≡ run_from k (s + 1) flash (commit (holding g caps pcc pending cause) d) ram' tags'
unfolding turn_at ram_at tags_at
step_goes flash g caps pcc pending ram tags ram' tags' cause k s d e =
    let o = here_operands flash ram g caps pcc pending cause in
    let x = rw (ahead_goes o (is_pending pending) (fetch_of flash ram pcc) flash ram tags d e.0) at e in
    goes k s flash ram tags (holding g caps pcc pending cause) d x.0 ∙ rw (x.1.0, x.1.1)

module _ (flash g₀ : List ℕ) (caps₀ : List Cap) (pcc₀ : Cap) (pending₀ : Option Cap) (ram₀ tags₀ : List ℕ) (n : ℕ) (g : List ℕ) (caps : List Cap) (pcc : Cap) (pending : Option Cap) (ram tags ram' tags' : List ℕ)
    (so_far : Glides flash g₀ caps₀ pcc₀ pending₀ ram₀ tags₀ n g caps pcc pending ram tags) where
  -- from here on, one step of the definition
  onward : (cause k s : ℕ) → run_from (n + 1 + k) s flash (holding g₀ caps₀ pcc₀ pending₀ cause) ram₀ tags₀ ≡ run_from (suc k) (s + n) flash (holding g caps pcc pending cause) ram tags
  onward cause k s = let e : n + 1 + k ≡ n + suc k = omega arith in rw e (so_far.leads cause (suc k) s)

  pub then_goes : (cause k s : ℕ) (d : Change) → Does (here_operands flash ram g caps pcc pending cause) (here_planned flash ram g caps pcc pending cause) flash ram tags ram' tags' d
      → run_from (n + 1 + k) s flash (holding g₀ caps₀ pcc₀ pending₀ cause) ram₀ tags₀ ≡ run_from k (s + (n + 1)) flash (commit (holding g caps pcc pending cause) d) ram' tags'
  then_goes cause k s d e = let q : s + (n + 1) ≡ s + n + 1 = omega arith in rw q (onward cause k s ∙ step_goes flash g caps pcc pending ram tags ram' tags' cause k (s + n) d e)

  pub set_general : (rd v v' : ℕ) (pcc' : Cap) → v' ≡ kept (rd % 32) v → pcc' ≡ next_pcc pcc pending
      → ((cause : ℕ) → Does (here_operands flash ram g caps pcc pending cause) (here_planned flash ram g caps pcc pending cause) flash ram tags ram' tags' (to_general (here_operands flash ram g caps pcc pending cause).c0.cap (here_operands flash ram g caps pcc pending cause).cause rd v))
      → Glides flash g₀ caps₀ pcc₀ pending₀ ram₀ tags₀ (n + 1) (set g (rd % 32) v') caps pcc' None ram' tags'
  unfolding commit operands_of
  set_general rd v v' pcc' qv qp does = record { leads = λ cause k s. then_goes cause k s _ (does cause) ∙ rw (qv, qp, same_first caps) }

  sets : (r : Option Plain) (rd v v' : ℕ) (pcc' : Cap) → Tells flash g caps pcc pending ram tags ram' tags' r → r ≡ Some (Plain.Sets rd v) → v' ≡ kept (rd % 32) v → pcc' ≡ next_pcc pcc pending
      → Glides flash g₀ caps₀ pcc₀ pending₀ ram₀ tags₀ (n + 1) (set g (rd % 32) v') caps pcc' None ram' tags'
  sets r rd v v' pcc' t q qv qp = set_general rd v v' pcc' qv qp (λ cause. rw q at (t.tells cause))

  jumps : (r : Option Plain) (words : ℕ) (pcc' : Cap) (jump : Option Cap) → Tells flash g caps pcc pending ram tags ram' tags' r → r ≡ Some (Plain.Jumps words) → pcc' ≡ next_pcc pcc pending → Some (branch_to pcc words) ≡ jump
      → Glides flash g₀ caps₀ pcc₀ pending₀ ram₀ tags₀ (n + 1) (set g 0 0) caps pcc' jump ram' tags'
  unfolding commit operands_of
  jumps r words pcc' jump t q qp qj = record { leads = λ cause k s. then_goes cause k s _ (rw q at (t.tells cause)) ∙ rw (qp, ← qj, same_first caps) }

-- no step
pub starts : (flash g : List ℕ) (caps : List Cap) (pcc : Cap) (pending : Option Cap) (ram tags : List ℕ) → Glides flash g caps pcc pending ram tags 0 g caps pcc pending ram tags
starts flash g caps pcc pending ram tags = record {
  leads = λ cause k s. let e : s + 0 ≡ s = omega arith in let e0 : 0 + k ≡ k = omega arith in rw (e, e0);
}

-- PCC and the pending jump as an offset, a flag and a target
pub slot_is : (slot : Bool) (pcc : Cap) (target : Offset) → slot ≡ is_pending (waiting_at slot pcc target)
slot_is true pcc target = refl
slot_is false pcc target = refl

pub next_is : (slot : Bool) (pcc : Cap) (at target at' : Offset) → at' ≡ next_at slot at target → set_offset pcc at' ≡ next_pcc (set_offset pcc at) (waiting_at slot pcc target)
unfolding inc_offset
next_is true pcc at target at' q = ap (λ (o : Offset). set_offset pcc o) q
next_is false pcc at target at' q = ap (λ (o : Offset). set_offset pcc o) q

pub branch_is : (pcc : Cap) (at to : Offset) (words : ℕ) → to ≡ branch_offset at words → Some (branch_to (set_offset pcc at) words) ≡ waiting_at true pcc to
unfolding branch_to
branch_is pcc at to words q = ap (λ (o : Offset). Some (set_offset pcc o)) (sym q)

-- one step more of those that slide
module _ (flash : List ℕ) (c0 pcc : Cap) (g₀ : List ℕ) (way₀ : Way) (ram₀ tags₀ : List ℕ) (n : ℕ) (g : List ℕ) (way : Way) (ram tags ram' tags' : List ℕ) (w i : ℕ) (r : Option Plain)
    (so_far : Slides flash c0 pcc g₀ way₀ ram₀ tags₀ n g way ram tags) (here : Sees flash pcc way ram w i) (did : PlainlyBy i w c0 flash g ram tags ram' tags' r) where
  -- what the code hands over is what the word names
  told : (caps : List Cap) → c0 ≡ get_or caps 0 null → Tells flash g caps (set_offset pcc way.at) (waiting_at way.slot pcc way.target) ram tags ram' tags' r
  told caps fc = record {
    tells = λ cause.
        (rw (fc, here.is_ahead, slot_is way.slot pcc way.target, here.is_word) at did) (here_operands flash ram g caps (set_offset pcc way.at) (waiting_at way.slot pcc way.target) cause)
        (sees g caps (set_offset pcc way.at) (waiting_at way.slot pcc way.target) (word_of (fetch_of flash ram (set_offset pcc way.at))) cause);
  }

  pub slid_sets : (rd v v' : ℕ) (way' : Way) → r ≡ Some (Plain.Sets rd v) → v' ≡ kept (rd % 32) v → way' ≡ on_from way → Slides flash c0 pcc g₀ way₀ ram₀ tags₀ (n + 1) (set g (rd % 32) v') way' ram' tags'
  slid_sets rd v v' way' q qv qw = rw qw (record {
    slides = λ caps e. sets _ _ _ _ _ _ _ _ _ _ _ _ _ _ _ _ (so_far.slides caps e) r rd v v' _ (told caps e) q qv (next_is way.slot pcc way.at way.target _ refl);
  })

  pub slid_jumps : (words : ℕ) (way' : Way) → r ≡ Some (Plain.Jumps words) → way' ≡ turned_by way words → Slides flash c0 pcc g₀ way₀ ram₀ tags₀ (n + 1) (set g 0 0) way' ram' tags'
  slid_jumps words way' q qw = rw qw (record {
    slides = λ caps e. jumps _ _ _ _ _ _ _ _ _ _ _ _ _ _ _ _ (so_far.slides caps e) r words _ _ (told caps e) q (next_is way.slot pcc way.at way.target _ refl) (branch_is pcc way.at _ words refl);
  })

  -- a step that is none of these was not begun, and wrote nothing
  pub slid_rests : r ≡ None → Slides flash c0 pcc g₀ way₀ ram₀ tags₀ n g way ram' tags' × Sees flash pcc way ram' w i
  slid_rests q = let m = rw q at ((told (c0 ∷ []) refl).tells 0) in rw (m.0, m.1) (so_far, here)

-- no step
pub stays : (flash : List ℕ) (c0 pcc : Cap) (g : List ℕ) (way : Way) (ram tags : List ℕ) → Slides flash c0 pcc g way ram tags 0 g way ram tags
stays flash c0 pcc g way ram tags = record { slides = λ caps e. starts _ _ _ _ _ _ _ }
