-- What an accepted start says of each register and line. Assumes nothing.
use Rattle.std.specs.Prelude.{Option, Ok, Err, Result}
use Prim.Native.Nat.{ℕ, zero, suc, ◌+◌, ◌-◌, ◌*◌, ◌/◌, ◌%◌, ◌^◌, ◌≤◌, ◌<◌}
use mathlib.Core.Path.{◌≡◌, refl, sym, ◌∙◌, ap, subst}
use mathlib.Core.Bool.{Bool, true, false, cond, not, ◌&&◌}
use mathlib.Core.List.{List, []}
use native.Mathlib.Omega.{arith}
use lib.Dec.{eqb, leb, ltb}
use lib.ListN.{length, get_or, take, drop, length-drop}
use lib.Seq.{length-take-le}
use borrow.Author.Tests.{le-leb, lt-leb, le-ltb, leb-true, ltb-false, not-true, eqb-true, eqb-false}
use Rattle.manual.specs.Place.{RAM_BASE, memory_fits, tags_fit, place_of, bytes_of}
use Rattle.manual.specs.Store.{tag_of}
use Rattle.manual.specs.declared.Place.{Place}
use Rattle.manual.specs.declared.Cap.{Cap}
use Rattle.manual.specs.Narrow.{null}
use Rattle.manual.specs.Line.{from_words, decode, cap_in, load_cap}
use Rattle.manual.specs.declared.Refusal.{Refusal}
use Rattle.manual.proofs.Tests.{both_true}
use Rattle.manual.specs.Accept.{every, sizes_fit, tag_bytes_fit, top_fits, caps_fit, jump_fits, loaded_fits, line_at, line_fits, lines_fit, width_fits, widths_fit, jump_width, verdict_of}

-- a scan that passed, passed everywhere
cond_true : (t r : Bool) → cond t r false ≡ true → (t ≡ true) × (r ≡ true)
cond_true true r e = (refl, e)
cond_true false r e = let z : ◌≡◌ {A = ℕ} 0 1 = cc in absurd (omega arith)

pub each : (n i : ℕ) (p : ℕ → Bool) → every n i p ≡ true → (j : ℕ) → i ≤ j → j < i + n → p j ≡ true
unfolding every
each zero i p e j h k = absurd (omega arith)
each (suc n) i p e j h k = go (eqb i j) refl (λ l. each n (suc i) p (cond_true (p i) (every n (suc i) p) e).1 j l (omega arith))
  where
    go : (b : Bool) → eqb i j ≡ b → (suc i ≤ j → p j ≡ true) → p j ≡ true
    go true z later = subst (λ (x : ℕ). p x ≡ true) (eqb-true i j z) (cond_true (p i) (every n (suc i) p) e).0
    go false z later = later (omega (arith, eqb-false i j z))

-- an accepted start passed every test
tests : (a b d e : Bool)
    → ◌≡◌ {A = Result (Unit {0}) Refusal} (Ok tt) (cond a (cond b (cond d (cond e (Ok tt) (Err Refusal.Width)) (Err Refusal.Top)) (Err Refusal.TagByte)) (Err Refusal.Sizes))
    → (a ≡ true) × (b ≡ true) × (d ≡ true) × (e ≡ true)
tests true true true true q = (refl, refl, refl, refl)
tests true true true false q = let z : ◌≡◌ {A = ℕ} 0 1 = cc in absurd (omega arith)
tests true true false e q = let z : ◌≡◌ {A = ℕ} 0 1 = cc in absurd (omega arith)
tests true false d e q = let z : ◌≡◌ {A = ℕ} 0 1 = cc in absurd (omega arith)
tests false b d e q = let z : ◌≡◌ {A = ℕ} 0 1 = cc in absurd (omega arith)

module _ (caps : List Cap) (pcc : Cap) (pending : Option Cap) (first flash : ℕ) (ram tags : List ℕ) (v : (Ok tt) ≡ verdict_of caps pcc pending first flash ram tags) where
  passed : (sizes_fit flash (length ram) (length tags) ≡ true) × (tag_bytes_fit tags ≡ true) × (((caps_fit caps && (top_fits pcc && jump_fits pending)) && lines_fit ram tags) ≡ true) × (((widths_fit caps && (width_fits pcc && jump_width pending)) && eqb first 0) ≡ true)
  unfolding verdict_of
  passed =
      tests (sizes_fit flash (length ram) (length tags)) (tag_bytes_fit tags) ((caps_fit caps && (top_fits pcc && jump_fits pending)) && lines_fit ram tags)
      ((widths_fit caps && (width_fits pcc && jump_width pending)) && eqb first 0) v

  pub tag_low : (i : ℕ) → i < length tags → get_or tags i 0 ≤ 1
  tag_low i h = ltb-false 1 (get_or tags i 0) (not-true (ltb 1 (get_or tags i 0)) (each (length tags) 0 (λ j. not (ltb 1 (get_or tags j 0))) passed.1 i (omega arith) (omega arith)))

  pub sizes_fit_lem : sizes_fit flash (length ram) (length tags) ≡ true
  sizes_fit_lem = passed.0

  pub whole_lines : length ram ≡ length tags * 32
  whole_lines =
      let a = both_true (memory_fits flash && memory_fits (length ram)) (tags_fit (length ram) (length tags)) passed.0 in
      let b = both_true (eqb (length ram % 32) 0) (leb (length ram) 65536) (both_true (memory_fits flash) (memory_fits (length ram)) a.0).1 in
      omega (arith, eqb-true (length tags) (length ram / 32) a.1, eqb-true (length ram % 32) 0 b.0)

  pub few_lines : length tags ≤ 2048
  few_lines =
      let a = both_true (memory_fits flash && memory_fits (length ram)) (tags_fit (length ram) (length tags)) passed.0 in
      let b = both_true (eqb (length ram % 32) 0) (leb (length ram) 65536) (both_true (memory_fits flash) (memory_fits (length ram)) a.0).1 in
      omega (arith, eqb-true (length tags) (length ram / 32) a.1, leb-true (length ram) 65536 b.1)

  pub first_zero : first ≡ 0
  first_zero = eqb-true first 0 (both_true (widths_fit caps && (width_fits pcc && jump_width pending)) (eqb first 0) passed.3).1

  tops : ((caps_fit caps && (top_fits pcc && jump_fits pending)) ≡ true) × (lines_fit ram tags ≡ true)
  tops = both_true (caps_fit caps && (top_fits pcc && jump_fits pending)) (lines_fit ram tags) passed.2

  widths : (widths_fit caps && (width_fits pcc && jump_width pending)) ≡ true
  widths = (both_true (widths_fit caps && (width_fits pcc && jump_width pending)) (eqb first 0) passed.3).0

  pub cap_top : (i : ℕ) → i < 32 → top_fits (get_or caps i null) ≡ true
  cap_top i h = each 32 0 (λ j. top_fits (get_or caps j null)) (both_true (caps_fit caps) (top_fits pcc && jump_fits pending) tops.0).0 i (omega arith) (omega arith)

  pub pcc_top : top_fits pcc ≡ true
  pcc_top = (both_true (top_fits pcc) (jump_fits pending) (both_true (caps_fit caps) (top_fits pcc && jump_fits pending) tops.0).1).0

  pub jump_top : jump_fits pending ≡ true
  jump_top = (both_true (top_fits pcc) (jump_fits pending) (both_true (caps_fit caps) (top_fits pcc && jump_fits pending) tops.0).1).1

  pub cap_width : (i : ℕ) → i < 32 → width_fits (get_or caps i null) ≡ true
  cap_width i h = each 32 0 (λ j. width_fits (get_or caps j null)) (both_true (widths_fit caps) (width_fits pcc && jump_width pending) widths).0 i (omega arith) (omega arith)

  pub pcc_width : width_fits pcc ≡ true
  pcc_width = (both_true (width_fits pcc) (jump_width pending) (both_true (widths_fit caps) (width_fits pcc && jump_width pending) widths).1).0

  pub jump_width_lem : jump_width pending ≡ true
  jump_width_lem = (both_true (width_fits pcc) (jump_width pending) (both_true (widths_fit caps) (width_fits pcc && jump_width pending) widths).1).1

  pub line_top : (i : ℕ) → i < length tags → line_fits ram tags i ≡ true
  line_top i h = each (length tags) 0 (line_fits ram tags) tops.1 i (omega arith) (omega arith)

-- the capability that a start's test loads from a line is the one in the line's bytes
module _ (ram tags : List ℕ) (i : ℕ) (h : i * 32 + 32 ≤ length ram) (k : i < 2048) where
  place : place_of 0 (length ram) (line_at i) 32 ≡ Place.Ram (i * 32)
  unfolding place_of
  place =
      let a = RAM_BASE + i % 2 ^ 24 * 32 in
      let z : a - RAM_BASE ≡ i * 32 = omega arith in
      rw (lt-leb (a + 32) 0 (omega arith), le-ltb a RAM_BASE (omega arith), z, le-leb (i * 32 + 32) (length ram) h)

  pub load_line : load_cap [] ram tags (line_at i) ≡ cap_in (tag_of tags i) (take 32 (drop (i * 32) ram))
  unfolding load_cap bytes_of
  load_line = let z : i * 32 / 32 ≡ i = omega arith in rw (place, z)

  pub bytes_32 : length (take 32 (drop (i * 32) ram)) ≡ 32
  bytes_32 = length-take-le 32 (drop (i * 32) ram) (rw length-drop (omega arith))

  pub untagged : loaded_fits (cap_in false (take 32 (drop (i * 32) ram))) ≡ true
  unfolding cap_in decode from_words
  untagged = rw bytes_32

  pub loaded_top : line_fits ram tags i ≡ true → loaded_fits (cap_in (tag_of tags i) (take 32 (drop (i * 32) ram))) ≡ true
  loaded_top e = go (tag_of tags i) refl
    where
      go : (t : Bool) → tag_of tags i ≡ t → loaded_fits (cap_in (tag_of tags i) (take 32 (drop (i * 32) ram))) ≡ true
      go true q = ap loaded_fits (sym load_line) ∙ sym (ap (λ (t : Bool). cond t (loaded_fits (load_cap [] ram tags (line_at i))) true) q) ∙ e
      go false q = rw q untagged
