-- What every start is that a book sets: nothing in it is refused. Assumes nothing.
use Rattle.std.specs.Prelude.{None, Ok, Err, Some}
use Prim.Native.Nat.{ℕ, zero, suc, ◌+◌, ◌-◌, ◌*◌, ◌/◌, ◌≤◌, ◌<◌}
use mathlib.Core.Path.{◌≡◌, refl, sym, ◌∙◌, subst}
use mathlib.Core.Logic.{◌⊎◌, inl, inr, ⊎_elim}
use mathlib.Core.Bool.{Bool, true, false, cond}
use mathlib.Core.List.{List, [], ◌∷◌}
use native.Mathlib.Omega.{arith}
use borrow.Author.Tests.{eqb-true, eqb-false, ltb-true, ltb-false}
use lib.Dec.{eqb, ltb}
use lib.ListN.{length, get_or, set, take, drop, length-take, length-drop}
use lib.Seq.{ext_get_or, get_or-take, get_or-drop, get_or-set_other, length-take-le}
use Rattle.manual.specs.Place.{RAM_BASE}
use Rattle.manual.specs.Store.{bit, put, tag_of, with_tag}
use Rattle.manual.proofs.Stores.{length-put, put-read, others_stay, length_with_tag, tag_is_set, other_tags_stay}
use Rattle.manual.specs.declared.Cap.{Cap}
use Rattle.manual.specs.Narrow.{null}
use Rattle.manual.specs.Line.{cap_in}
use Rattle.manual.specs.Accept.{loaded_fits}
use Rattle.manual.specs.declared.Machine.{Machine}
use Rattle.pages.specs.declared.Entry.{Entry}
use Rattle.pages.specs.Book.{Step, more, kind_of, key_of, step_at}
use Rattle.pages.specs.Entering.{Start, machine_with, ram_with, tags_with, entered, enter_all, LineIsThere}
use Rattle.pages.proofs.Enters.{there}
use Rattle.granted.proofs.Says.{Fit, Says, more_says}

-- the registers of a machine that a book set
pub record Registers (m : Machine) : Type 0 where
  pub caps : (i : ℕ) → Fit (get_or m.caps i null)
  pub pcc : Fit m.pcc
  pub quiet : m.pending ≡ None
  pub first_zero : get_or m.general 0 0 ≡ 0

-- the capability in a line, with the line's tag, fits
abbrev pub LineFits : List ℕ → List ℕ → ℕ → Type 0
LineFits ram tags i = loaded_fits (cap_in (tag_of tags i) (take 32 (drop (i * 32) ram))) ≡ true

-- its memories: so many lines, each with a tag of 0 or 1 and a capability that fits
pub record Lines (lines : ℕ) (ram tags : List ℕ) : Type 0 where
  pub ram_size : length ram ≡ lines * 32
  pub tags_size : length tags ≡ lines
  pub tag_low : (i : ℕ) → get_or tags i 0 ≤ 1
  pub fits : (i : ℕ) → i < lines → LineFits ram tags i

-- one element replaced: what holds of it and of all others holds of all
pub set_all : {A : Type 0} (P : A → Type 0) (l : List A) (n : ℕ) (a d : A) → P a → ((i : ℕ) → P (get_or l i d)) → (i : ℕ) → P (get_or (set l n a) i d)
set_all P [] n a d p h i = h i
set_all P (x ∷ xs) zero a d p h zero = p
set_all P (x ∷ xs) zero a d p h (suc i) = h (suc i)
set_all P (x ∷ xs) (suc n) a d p h zero = h zero
set_all P (x ∷ xs) (suc n) a d p h (suc i) = set_all P xs n a d p (λ j. h (suc j)) i

capability_set : (t : Bool) (m : Machine) (number : ℕ) (c : Cap) → Fit c → Registers m
    → Registers (cond t (record { general = m.general; caps = m.caps; pcc = c; pending = m.pending; cause = m.cause })
    (record { general = m.general; caps = set m.caps number c; pcc = m.pcc; pending = m.pending; cause = m.cause }))
capability_set true m number c f r = record { caps = r.caps; pcc = f; quiet = r.quiet; first_zero = r.first_zero }
capability_set false m number c f r = record { caps = set_all Fit m.caps number c null f r.caps; pcc = r.pcc; quiet = r.quiet; first_zero = r.first_zero }

registers_with : (e : Entry) (bytes : List ℕ) (m : Machine) → Says bytes e → Registers m → Registers (machine_with e m)
unfolding machine_with
registers_with (Entry.Capability number c) bytes m f r = capability_set (eqb number 32) m number c f r
registers_with (Entry.General number value) bytes m f r =
    record { caps = r.caps; pcc = r.pcc; quiet = r.quiet; first_zero = get_or-set_other m.general number 0 value 0 (λ e. omega arith) ∙ r.first_zero }
registers_with (Entry.Line address tag) bytes m f r = r

-- a part that is not written is as it was
part_kept : (l vs : List ℕ) (at j n : ℕ) → (j + n ≤ at) ⊎ (at + length vs ≤ j) → take n (drop j (put l at vs)) ≡ take n (drop j l)
part_kept l vs at j n h =
    ext_get_or 0 (take n (drop j (put l at vs))) (take n (drop j l)) (simp (length-take, length-drop, length-put l at vs))
    (λ i k.
    let b : i < n = omega (arith, length-take n (drop j (put l at vs))) in
    rw (get_or-take n (drop j (put l at vs)) i 0 b, get_or-take n (drop j l) i 0 b, get_or-drop j (put l at vs) i 0, get_or-drop j l i 0)
    (others_stay l at (j + i) vs (⊎_elim (λ w. inl (omega arith)) (λ w. inr (omega arith)) h)))

bit_low : (t : Bool) → bit t ≤ 1
bit_low true = omega arith
bit_low false = omega arith

-- line k written, and its tag
module _ (lines : ℕ) (ram tags vs : List ℕ) (k : ℕ) (tag : Bool) (long : length vs ≡ 32) (inside : k < lines)
    (fit : loaded_fits (cap_in tag vs) ≡ true) (s : Lines lines ram tags) where
  own : LineFits (put ram (k * 32) vs) (with_tag tags k tag) k
  own = rw (tag_is_set tags k tag (omega (arith, s.tags_size)), put-read ram (k * 32) 32 vs (omega (arith, s.ram_size)) long) fit

  other : (i : ℕ) → i < lines → (i ≡ k → ⊥) → LineFits (put ram (k * 32) vs) (with_tag tags k tag) i
  other i h z = rw (other_tags_stay tags k i tag z, part_kept ram vs (k * 32) (i * 32) 32 (apart (ltb i k) refl)) (s.fits i h)
    where
      apart : (b : Bool) → ltb i k ≡ b → (i * 32 + 32 ≤ k * 32) ⊎ (k * 32 + length vs ≤ i * 32)
      apart true e = inl (omega (arith, ltb-true i k e))
      apart false e = inr (omega (arith, ltb-false i k e, z))

  line_put : Lines lines (put ram (k * 32) vs) (with_tag tags k tag)
  unfolding with_tag
  line_put =
      record {
        ram_size = length-put ram (k * 32) vs ∙ s.ram_size;
        tags_size = length_with_tag tags k tag ∙ s.tags_size;
        tag_low = set_all (λ (x : ℕ). x ≤ 1) tags k (bit tag) 0 (bit_low tag) s.tag_low;
        fits = λ i h. go i h (eqb i k) refl;
      }
    where
      go : (i : ℕ) → i < lines → (b : Bool) → eqb i k ≡ b → LineFits (put ram (k * 32) vs) (with_tag tags k tag) i
      go i h true e = subst (LineFits (put ram (k * 32) vs) (with_tag tags k tag)) (sym (eqb-true i k e)) own
      go i h false e = other i h (eqb-false i k e)

lines_with : (book : List ℕ) (x : ℕ) (e : Entry) (lines : ℕ) (ram tags : List ℕ) → Says (take 32 (drop (x - 32) book)) e → LineIsThere book x e (lines * 32)
    → Lines lines ram tags → Lines lines (ram_with book x e ram) (tags_with e tags)
unfolding ram_with tags_with
lines_with book x (Entry.Capability number c) lines ram tags f t s = s
lines_with book x (Entry.General number value) lines ram tags f t s = s
lines_with book x (Entry.Line address tag) lines ram tags f t s =
    let k = (address - RAM_BASE) / 32 in
    let vs = take 32 (drop (x - 32) book) in
    let z : address - RAM_BASE ≡ k * 32 = omega (arith, f.aligned, t.2) in
    let long : length vs ≡ 32 = length-take-le 32 (drop (x - 32) book) (rw (length-drop (x - 32) book) (omega (arith, t.0, t.1))) in
    subst (λ (at : ℕ). Lines lines (put ram at vs) (with_tag tags k tag)) (sym z)
    (line_put lines ram tags vs k tag long (omega (arith, t.3)) f.fits s)

-- a whole start
pub record Sound (lines : ℕ) (s : Start) : Type 0 where
  pub registers : Registers s.machine
  pub memories : Lines lines s.ram s.tags

-- one record after the other
module _ (book : List ℕ) (lines : ℕ) where
  one : (at kind key x : ℕ) (e : Entry) (s : Start) → more x e ≡ step_at book (lines * 32) at kind key → Sound lines s → Sound lines (entered book x e s)
  one at kind key x e s q g =
      let f = more_says book (lines * 32) at kind key x e q in
      record {
        registers = registers_with e (take 32 (drop (x - 32) book)) s.machine f g.registers;
        memories = lines_with book x e lines s.ram s.tags f (there book (lines * 32) (lines * 32) at kind key x e refl q) g.memories;
      }

  pub all : (n at kind key : ℕ) (step : Step) (s : Start) → step ≡ step_at book (lines * 32) at kind key → Sound lines s → Sound lines (enter_all n book (lines * 32) step s)
  unfolding enter_all
  all zero at kind key step s q g = g
  all (suc n) at kind key (Ok None) s q g = g
  all (suc n) at kind key (Err refusal) s q g = g
  all (suc n) at kind key (Ok (Some r)) s q g =
      let x = r.end in
      let e = r.entry in
      all n x (kind_of e) (key_of e) (step_at book (lines * 32) x (kind_of e) (key_of e)) (entered book x e s) refl (one at kind key x e s q g)
