-- What read_book sets is sound, and so a run accepts it. Assumes nothing.
use Rattle.std.specs.Prelude.{Result, Ok, Err}
use Prim.Native.Nat.{ℕ, zero, suc, ◌*◌, ◌/◌, ◌%◌, ◌≤◌}
use mathlib.Core.Path.{◌≡◌, refl, sym, subst}
use mathlib.Core.Bool.{Bool, true, false, cond, ◌&&◌}
use mathlib.Core.List.{List}
use native.Mathlib.Omega.{arith}
use borrow.Author.Tests.{leb-true, eqb-true}
use lib.Dec.{eqb, leb}
use lib.ListN.{length, get_or, replicate, length-replicate}
use Rattle.manual.specs.Place.{memory_fits, tags_fit}
use Rattle.manual.specs.Store.{tag_of}
use Rattle.manual.specs.Narrow.{null}
use Rattle.manual.specs.Accept.{sizes_fit}
use Rattle.manual.specs.declared.Refusal.{Refusal}
use Rattle.pages.specs.Book.{check_book, step_at}
use Rattle.pages.specs.Entering.{bare}
use Rattle.pages.specs.Enter.{judged}
use Rattle.manual.proofs.Tests.{both_true}
use Rattle.manual.proofs.Accepted.{untagged}
use Rattle.reread.proofs.Again.{read_accepted}
use Rattle.granted.specs.Granted.{BookAccepted, read, ReadIsAccepted}
use Rattle.granted.proofs.Says.{Fit}
use Rattle.granted.proofs.Sound.{Sound, all}
use Rattle.granted.proofs.Accepted.{accepted}

-- sizes that fit: whole lines, and at most 2,048 of them
sized : (flash ram tags : ℕ) → sizes_fit flash ram tags ≡ true → (ram ≡ tags * 32) × (tags ≤ 2048)
sized flash ram tags e =
    let a = both_true (memory_fits flash && memory_fits ram) (tags_fit ram tags) e in
    let b = both_true (eqb (ram % 32) 0) (leb ram 65536) (both_true (memory_fits flash) (memory_fits ram) a.0).1 in
    omega (arith, eqb-true tags (ram / 32) a.1, eqb-true (ram % 32) 0 b.0, leb-true ram 65536 b.1)

-- the zeros that a book is entered over
pub same : {A : Type 0} (n i : ℕ) (a : A) → get_or (replicate n a) i a ≡ a
same zero i a = refl
same (suc n) zero a = refl
same (suc n) (suc i) a = same n i a

no_tag : (n i : ℕ) → tag_of (replicate n 0) i ≡ false
unfolding tag_of
no_tag n i = rw (same {A = ℕ} n i 0)

bare_sound : (lines : ℕ) → lines ≤ 2048 → Sound lines (bare (replicate (lines * 32) 0) (replicate lines 0))
bare_sound lines few =
    let ram : List ℕ = replicate (lines * 32) 0 in
    let tags : List ℕ = replicate lines 0 in
    let long : length ram ≡ lines * 32 = length-replicate (lines * 32) 0 in
    let null-fits : Fit null = record { top = refl; width = refl } in
    record {
      registers = record { caps = λ i. subst Fit (sym (same 32 i null)) null-fits; pcc = null-fits; quiet = refl; first_zero = refl };
      memories = record {
        ram_size = long;
        tags_size = length-replicate lines 0;
        tag_low = λ i. rw (same {A = ℕ} lines i 0) (omega arith);
        fits = λ i h. rw (no_tag lines i) (untagged ram tags i (omega (arith, long)) (omega arith));
      };
    }

fitting : (t : Bool) (v : Result (Unit {0}) Refusal) → cond t v (Err Refusal.Sizes) ≡ (Ok tt) → t ≡ true
fitting true v e = refl
fitting false v e = let z : ◌≡◌ {A = ℕ} 0 1 = cc in absurd (omega arith)

module _ (book flash ram tags : List ℕ) (e : BookAccepted book flash ram tags) where
  sizes_fit_lem : sizes_fit (length flash) (length ram) (length tags) ≡ true
  unfolding judged
  sizes_fit_lem = fitting (sizes_fit (length flash) (length ram) (length tags)) (check_book book (length ram)) e

  whole : (length ram ≡ length tags * 32) × (length tags ≤ 2048)
  whole = sized (length flash) (length ram) (length tags) sizes_fit_lem

  pub read_sound : Sound (length tags) (read book flash ram tags)
  read_sound =
      rw (read_accepted book (length flash) ram tags e, whole.0)
      (all book (length tags) (length book) 1 0 0 (step_at book (length tags * 32) 1 0 0) (bare (replicate (length tags * 32) 0) (replicate (length tags) 0)) refl
      (bare_sound (length tags) whole.1))

pub read_is_accepted : ReadIsAccepted
read_is_accepted book flash ram tags e =
    let w = whole book flash ram tags e in
    accepted (length flash) (length tags) w.1 (rw (← w.0) (sizes_fit_lem book flash ram tags e)) (read book flash ram tags) (read_sound book flash ram tags e)
