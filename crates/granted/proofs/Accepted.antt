-- A sound start is one that a run accepts. Assumes nothing.
use Rattle.std.specs.Prelude.{Result, Ok, Err}
use Prim.Native.Nat.{ℕ, zero, suc, ◌+◌, ◌*◌, ◌≤◌, ◌<◌}
use mathlib.Core.Path.{◌≡◌, refl, ap}
use mathlib.Core.Bool.{Bool, true, false, cond, not, ◌&&◌}
use mathlib.Core.List.{List}
use native.Mathlib.Omega.{arith}
use borrow.Author.Tests.{eq-eqb, le-ltb}
use lib.Dec.{eqb, ltb}
use lib.ListN.{length, get_or}
use Rattle.manual.specs.Store.{tag_of}
use Rattle.manual.specs.declared.Cap.{Cap}
use Rattle.manual.specs.Narrow.{null}
use Rattle.manual.specs.declared.Refusal.{Refusal}
use Rattle.manual.specs.Accept.{every, sizes_fit, tag_bytes_fit, top_fits, caps_fit, jump_fits, line_fits, lines_fit, width_fits, widths_fit, jump_width, verdict_of}
use Rattle.pages.specs.Entering.{Start}
use Rattle.manual.proofs.Accepted.{load_line}
use Rattle.granted.proofs.Sound.{Sound}

-- a scan passes where each test does
scan : (n i : ℕ) (p : ℕ → Bool) → ((j : ℕ) → j < i + n → p j ≡ true) → every n i p ≡ true
unfolding every
scan zero i p h = refl
scan (suc n) i p h = rw (h i (omega arith)) (scan n (suc i) p (λ j k. h j (omega arith)))

both : (a b : Bool) → a ≡ true → b ≡ true → (a && b) ≡ true
both a b p q = rw (p, q)

tests : (a b d e : Bool) → a ≡ true → b ≡ true → d ≡ true → e ≡ true
    → ◌≡◌ {A = Result (Unit {0}) Refusal}
    (cond a (cond b (cond d (cond e (Ok tt) (Err Refusal.Width)) (Err Refusal.Top)) (Err Refusal.TagByte)) (Err Refusal.Sizes))
    (Ok tt)
tests a b d e p q r t = rw (p, q, r, t)

either : (t : Bool) → cond t true true ≡ true
either true = refl
either false = refl

module _ (flash lines : ℕ) (few : lines ≤ 2048) (fit : sizes_fit flash (lines * 32) lines ≡ true) (s : Start) (g : Sound lines s) where
  abbrev caps : List Cap
  caps = s.machine.caps

  sizes : sizes_fit flash (length s.ram) (length s.tags) ≡ true
  sizes = rw (g.memories.ram_size, g.memories.tags_size) fit

  tag_bytes : tag_bytes_fit s.tags ≡ true
  tag_bytes = scan (length s.tags) 0 (λ i. not (ltb 1 (get_or s.tags i 0))) (λ i h. ap not (le-ltb 1 (get_or s.tags i 0) (g.memories.tag_low i)))

  line : (i : ℕ) → i < lines → line_fits s.ram s.tags i ≡ true
  line i h =
      rw (load_line s.ram s.tags i (omega (arith, g.memories.ram_size)) (omega arith), g.memories.fits i h) (either (tag_of s.tags i))

  lines_fit_lem : lines_fit s.ram s.tags ≡ true
  lines_fit_lem = scan (length s.tags) 0 (line_fits s.ram s.tags) (λ i h. line i (omega (arith, g.memories.tags_size)))

  tops : ((caps_fit caps && (top_fits s.machine.pcc && jump_fits s.machine.pending)) && lines_fit s.ram s.tags) ≡ true
  tops =
      both _ _ (both _ _ (scan 32 0 (λ i. top_fits (get_or caps i null)) (λ i h. (g.registers.caps i).top))
      (both _ _ g.registers.pcc.top (ap jump_fits g.registers.quiet))) lines_fit_lem

  pub widths : ((widths_fit caps && (width_fits s.machine.pcc && jump_width s.machine.pending)) && eqb (get_or s.machine.general 0 0) 0) ≡ true
  widths =
      both _ _ (both _ _ (scan 32 0 (λ i. width_fits (get_or caps i null)) (λ i h. (g.registers.caps i).width))
      (both _ _ g.registers.pcc.width (ap jump_width g.registers.quiet))) (eq-eqb (get_or s.machine.general 0 0) 0 g.registers.first_zero)

  pub accepted : verdict_of s.machine.caps s.machine.pcc s.machine.pending (get_or s.machine.general 0 0) flash s.ram s.tags ≡ (Ok tt)
  unfolding verdict_of
  accepted = tests _ _ _ _ sizes tag_bytes tops widths
