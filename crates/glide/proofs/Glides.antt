-- The laws of gliding: one step more that looks at capability registers, and those that slide, as the run's definition makes them.
-- Assumes nothing.
use Rattle.std.specs.Prelude.{Option, Some, None}
use Prim.Native.Nat.{ℕ, ◌+◌, ◌-◌, ◌%◌, ◌≤◌}
use mathlib.Core.Path.{◌≡◌, refl, sym, ◌∙◌}
use mathlib.Core.List.{List}
use native.Mathlib.Omega.{arith}
use lib.ListN.{get_or, set}
use Rattle.manual.specs.declared.Cap.{Cap}
use Rattle.manual.specs.Narrow.{null, set_offset}
use Rattle.manual.specs.Word.{field25, field20, field15, field10}
use Rattle.manual.specs.Fetch.{fetch_of, word_of}
use Rattle.special.specs.Special.{Amounts}
use Rattle.derivation.specs.declared.Capable.{Capable}
use Rattle.capable.specs.Capable.{Shows}
use Rattle.manual.specs.State.{operands_of, kept, next_pcc, commit}
use Rattle.manual.specs.Steps.{run_from}
use Rattle.way.specs.declared.Way.{Way}
use Rattle.way.specs.Way.{waiting_at, on_from}
use Rattle.slide.specs.Slide.{holding, Glides, Slides, Sees}
use Rattle.slide.proofs.Slides.{here_operands, here_planned, then_goes, set_general, next_is, slot_is}
use Rattle.glide.specs.Glide.{CapablyBy}

-- what an answer of the shorter way says of the step, whatever the cause
pub record Adds (flash g : List ℕ) (caps : List Cap) (pcc : Cap) (pending : Option Cap) (ram tags ram' tags' : List ℕ) (r : Option Capable) : Type 0 where
  pub adds : (cause : ℕ) → Amounts (here_operands flash ram g caps pcc pending cause) (here_planned flash ram g caps pcc pending cause) flash ram tags ram' tags' r

shows : (g : List ℕ) (caps : List Cap) (pcc : Cap) (pending : Option Cap) (w cause : ℕ)
    → Shows (operands_of (holding g caps pcc pending cause) w) (field25 w) (field20 w) (get_or g (field25 w) 0) (get_or g (field15 w) 0) (get_or g (field10 w) 0) pcc (get_or caps (field25 w) null)
    (record { cap = get_or caps (field20 w) null; number = field20 w }) (record { cap = get_or caps (field15 w) null; number = field15 w })
unfolding operands_of
shows g caps pcc pending w cause = record { is_n25 = refl; is_n20 = refl; is_g25 = refl; is_g15 = refl; is_g10 = refl; is_pcc = refl; is_c25 = refl; is_c20 = refl; is_c15 = refl }

module _ (flash g₀ : List ℕ) (caps₀ : List Cap) (pcc₀ : Cap) (pending₀ : Option Cap) (ram₀ tags₀ : List ℕ) (n : ℕ) (g : List ℕ) (caps : List Cap) (pcc : Cap) (pending : Option Cap) (ram tags ram' tags' : List ℕ)
    (so_far : Glides flash g₀ caps₀ pcc₀ pending₀ ram₀ tags₀ n g caps pcc pending ram tags) where
  also_sets : (r : Option Capable) (rd v v' : ℕ) (pcc' : Cap) → Adds flash g caps pcc pending ram tags ram' tags' r → r ≡ Some (Capable.Sets rd v) → v' ≡ kept (rd % 32) v → pcc' ≡ next_pcc pcc pending
      → Glides flash g₀ caps₀ pcc₀ pending₀ ram₀ tags₀ (n + 1) (set g (rd % 32) v') caps pcc' None ram' tags'
  also_sets r rd v v' pcc' t q qv qp = set_general _ _ _ _ _ _ _ _ _ _ _ _ _ _ _ _ so_far rd v v' pcc' qv qp (λ cause. rw q at (t.adds cause))

  puts : (r : Option Capable) (cd : ℕ) (c pcc' : Cap) → Adds flash g caps pcc pending ram tags ram' tags' r → r ≡ Some (Capable.Puts cd c) → pcc' ≡ next_pcc pcc pending
      → Glides flash g₀ caps₀ pcc₀ pending₀ ram₀ tags₀ (n + 1) (set g 0 0) (set caps (cd % 32) c) pcc' None ram' tags'
  unfolding commit operands_of
  puts r cd c pcc' t q qp = record { leads = λ cause k s. then_goes _ _ _ _ _ _ _ _ _ _ _ _ _ _ _ _ so_far cause k s _ (rw q at (t.adds cause)) ∙ rw qp }

  -- a step that is none of these was not begun
  rests : (r : Option Capable) → Adds flash g caps pcc pending ram tags ram' tags' r → r ≡ None → Glides flash g₀ caps₀ pcc₀ pending₀ ram₀ tags₀ n g caps pcc pending ram' tags'
  rests r t q = let m = rw q at (t.adds 0) in rw (m.0, m.1) so_far

-- where a run stands after such a step, or without it
abbrev pub Came : List ℕ → List ℕ → List Cap → Cap → Option Cap → List ℕ → List ℕ → ℕ → List ℕ → List Cap → Cap → Way → List ℕ → List ℕ → Option Capable → Type 0
Came flash g₀ caps₀ pcc₀ pending₀ ram₀ tags₀ n g caps pcc way ram tags None = Glides flash g₀ caps₀ pcc₀ pending₀ ram₀ tags₀ n g caps (set_offset pcc way.at) (waiting_at way.slot pcc way.target) ram tags
Came flash g₀ caps₀ pcc₀ pending₀ ram₀ tags₀ n g caps pcc way ram tags (Some (Capable.Sets rd v)) = Glides flash g₀ caps₀ pcc₀ pending₀ ram₀ tags₀ (n + 1) (set g (rd % 32) (kept (rd % 32) v)) caps (set_offset pcc (on_from way).at) None ram tags
Came flash g₀ caps₀ pcc₀ pending₀ ram₀ tags₀ n g caps pcc way ram tags (Some (Capable.Puts cd c)) = Glides flash g₀ caps₀ pcc₀ pending₀ ram₀ tags₀ (n + 1) (set g 0 0) (set caps (cd % 32) c) (set_offset pcc (on_from way).at) None ram tags

-- the steps of one after those of another
joins : (flash g : List ℕ) (caps : List Cap) (pcc : Cap) (pending : Option Cap) (ram tags : List ℕ) (n : ℕ) (g₁ : List ℕ) (caps₁ : List Cap) (pcc₁ : Cap) (pending₁ : Option Cap) (ram₁ tags₁ : List ℕ) (m : ℕ) (g₂ : List ℕ) (caps₂ : List Cap) (pcc₂ : Cap) (pending₂ : Option Cap) (ram₂ tags₂ : List ℕ)
    → Glides flash g caps pcc pending ram tags n g₁ caps₁ pcc₁ pending₁ ram₁ tags₁ → Glides flash g₁ caps₁ pcc₁ pending₁ ram₁ tags₁ m g₂ caps₂ pcc₂ pending₂ ram₂ tags₂ → Glides flash g caps pcc pending ram tags (n + m) g₂ caps₂ pcc₂ pending₂ ram₂ tags₂
joins flash g caps pcc pending ram tags n g₁ caps₁ pcc₁ pending₁ ram₁ tags₁ m g₂ caps₂ pcc₂ pending₂ ram₂ tags₂ first second = record {
  leads = λ cause k s.
      let e : n + m + k ≡ n + (m + k) = omega arith in
      let q : s + (n + m) ≡ s + n + m = omega arith in
      rw (e, q) (first.leads cause (m + k) s ∙ second.leads cause k (s + n));
}

-- the steps that slid after those that were glided
module _ (flash g₀ : List ℕ) (caps₀ : List Cap) (pcc₀ : Cap) (pending₀ : Option Cap) (ram₀ tags₀ : List ℕ) (n : ℕ) (g₁ : List ℕ) (caps : List Cap) (pcc : Cap) (way₁ : Way) (ram₁ tags₁ : List ℕ) (m : ℕ) (g : List ℕ) (way : Way) (ram tags : List ℕ)
    (so_far : Came flash g₀ caps₀ pcc₀ pending₀ ram₀ tags₀ n g₁ caps pcc way₁ ram₁ tags₁ None) (slid : Slides flash (get_or caps 0 null) pcc g₁ way₁ ram₁ tags₁ m g way ram tags) where
  pub also_slid : Came flash g₀ caps₀ pcc₀ pending₀ ram₀ tags₀ (n + m) g caps pcc way ram tags None
  also_slid = joins _ _ _ _ _ _ _ _ _ _ _ _ _ _ _ _ _ _ _ _ _ so_far (slid.slides caps refl)

module _ (flash g₀ : List ℕ) (caps₀ : List Cap) (pcc₀ : Cap) (pending₀ : Option Cap) (ram₀ tags₀ : List ℕ) (n : ℕ) (g : List ℕ) (caps : List Cap) (pcc : Cap) (way : Way) (ram tags ram' tags' : List ℕ)
    (so_far : Came flash g₀ caps₀ pcc₀ pending₀ ram₀ tags₀ n g caps pcc way ram tags None) (here : Cap) (w i i25 i20 i15 : ℕ)
    (sees : Sees flash pcc way ram w i) (fh : here ≡ set_offset pcc way.at) (f25 : i25 ≡ field25 w) (f20 : i20 ≡ field20 w) (f15 : i15 ≡ field15 w) where
  added : (r : Option Capable) → CapablyBy i w here (get_or caps i25 null) (get_or caps i20 null) (get_or caps i15 null) flash g ram tags ram' tags' r
      → Adds flash g caps (set_offset pcc way.at) (waiting_at way.slot pcc way.target) ram tags ram' tags' r
  added r did = record {
    adds = λ cause.
        (rw (sees.is_ahead, slot_is way.slot pcc way.target, f25, f20, f15, sees.is_word, fh) at did) (here_operands flash ram g caps (set_offset pcc way.at) (waiting_at way.slot pcc way.target) cause)
        (shows g caps (set_offset pcc way.at) (waiting_at way.slot pcc way.target) (word_of (fetch_of flash ram (set_offset pcc way.at))) cause);
  }

  next : set_offset pcc (on_from way).at ≡ next_pcc (set_offset pcc way.at) (waiting_at way.slot pcc way.target)
  next = next_is way.slot pcc way.at way.target _ refl

  pub came : (r : Option Capable) → CapablyBy i w here (get_or caps i25 null) (get_or caps i20 null) (get_or caps i15 null) flash g ram tags ram' tags' r → Came flash g₀ caps₀ pcc₀ pending₀ ram₀ tags₀ n g caps pcc way ram' tags' r
  came None did = rests _ _ _ _ _ _ _ _ _ _ _ _ _ _ _ _ so_far None (added None did) refl
  came (Some (Capable.Sets rd v)) did = also_sets _ _ _ _ _ _ _ _ _ _ _ _ _ _ _ _ so_far _ rd v _ _ (added _ did) refl refl next
  came (Some (Capable.Puts cd c)) did = puts _ _ _ _ _ _ _ _ _ _ _ _ _ _ _ _ so_far _ cd c _ (added _ did) refl next

-- the steps that were glided, within a run
pub along : (b n steps : ℕ) (flash g : List ℕ) (caps : List Cap) (pcc : Cap) (pending : Option Cap) (cause : ℕ) (ram tags g' : List ℕ) (caps' : List Cap) (pcc' : Cap) (pending' : Option Cap) (ram' tags' : List ℕ)
    → steps ≤ b - n → Glides flash g caps pcc pending ram tags steps g' caps' pcc' pending' ram' tags'
    → run_from (b - (n + steps)) (n + steps) flash (holding g' caps' pcc' pending' cause) ram' tags' ≡ run_from (b - n) n flash (holding g caps pcc pending cause) ram tags
along b n steps flash g caps pcc pending cause ram tags g' caps' pcc' pending' ram' tags' h glided =
    let e : b - n ≡ steps + (b - (n + steps)) = omega arith in rw e (sym (glided.leads cause (b - (n + steps)) n))
