-- The records of a written book give back the machine, the RAM and the tags that were written. Assumes nothing.
use Rattle.std.specs.Prelude.{Option, Ok, Some, None}
use Prim.Native.Nat.{ℕ, zero, suc, ◌+◌, ◌-◌, ◌*◌, ◌/◌, ◌≤◌, ◌<◌}
use mathlib.Core.Path.{◌≡◌, refl, sym, ◌∙◌, ap, subst}
use mathlib.Core.Bool.{Bool, true, false, not, ◌&&◌}
use mathlib.Core.List.{List}
use native.Mathlib.Omega.{arith}
use lib.Dec.{eqb}
use lib.ListN.{length, get_or, set, take, drop, replicate, length-replicate, get_or-replicate}
use borrow.Author.Tests.{le-leb, eqb-true, ne_eqb, not-true}
use Rattle.manual.specs.Place.{RAM_BASE, memory_fits, tags_fit}
use Rattle.manual.specs.Store.{bit, put, tag_of, with_tag}
use Rattle.manual.specs.declared.Cap.{Cap}
use Rattle.manual.specs.Narrow.{null}
use Rattle.manual.specs.Registers.{is_pending}
use Rattle.manual.specs.Accept.{verdict_of}
use Rattle.manual.specs.declared.Machine.{Machine}
use Rattle.pages.specs.declared.Entry.{Entry}
use Rattle.pages.specs.Record.{head_at}
use Rattle.pages.specs.Book.{Step, more, kind_of, key_of, after_head, step_at}
use Rattle.pages.proofs.Walks.{more_fits}
use Rattle.pages.specs.Compose.{cap_body, general_body, line_body, zero_bytes}
use Rattle.pages.proofs.Fields.{line_bytes_lem}
use Rattle.pages.specs.Spell.{line_bytes}
use Rattle.pages.specs.Write.{rests}
use Rattle.pages.specs.Entering.{Start, entered, machine_with, ram_with, tags_with, enter_all, enter_book, bare}
use Rattle.pages.specs.Enter.{judged, read_book}
use Rattle.reread.specs.Claims.{Typed, WrittenAndRead}
use Rattle.reread.proofs.Walked.{Passes}
use Rattle.manual.proofs.Tests.{both_true}
use Rattle.manual.proofs.Accepted.{sizes_fit_lem, tag_low, whole_lines, first_zero, bytes_32}
use Rattle.reread.proofs.Filled.{filled, filled_set, filled_same, filled_all, filled_put, filled_part, zero_part, line_bytes_at}
use Rattle.reread.proofs.Written.{Omits, book_omitting, zeros, written_omits, there, book_walk, book_accepted, taken}

-- nothing pending, and no cause
abbrev with : List Cap → Cap → List ℕ → List ℕ → List ℕ → Start
with caps pcc general ram tags = record { machine = record { general = general; caps = caps; pcc = pcc; pending = None; cause = 0 }; ram = ram; tags = tags }

done : (n : ℕ) (book : List ℕ) (ram : ℕ) (s : Start) → enter_all n book ram (Ok None) s ≡ s
unfolding enter_all
done zero book ram s = refl
done (suc n) book ram s = refl

at_end : (book : List ℕ) (ram at kind key : ℕ) → length book ≤ at → step_at book ram at kind key ≡ Ok None
unfolding step_at head_at after_head
at_end book ram at kind key h = rw (le-leb (length book) at h)

-- a tag byte of 0 or 1 is its tag
tag_back : (x : ℕ) → x ≤ 1 → bit (eqb x 1) ≡ x
tag_back zero h = refl
tag_back (suc zero) h = refl
tag_back (suc (suc x)) h = absurd (omega arith)

tag_byte : (tags : List ℕ) (i : ℕ) → get_or tags i 0 ≤ 1 → bit (tag_of tags i) ≡ get_or tags i 0
unfolding tag_of
tag_byte tags i h = tag_back (get_or tags i 0) h

no_tag : (tags : List ℕ) (i : ℕ) → get_or tags i 0 ≤ 1 → tag_of tags i ≡ false → 0 ≡ get_or tags i 0
no_tag tags i h e = sym (ap bit e) ∙ tag_byte tags i h

module _ (m : Machine) (o : Omits m) (ram tags : List ℕ) (ty : Typed m) (lc : length m.caps ≡ 32) (lg : length m.general ≡ 32)
    (v : (Ok tt) ≡ verdict_of m.caps m.pcc m.pending (get_or m.general 0 0) 0 ram tags) where
  abbrev book : List ℕ
  book = book_omitting m o ram tags

  abbrev nulls : List Cap
  nulls = replicate 32 null

  abbrev zg : List ℕ
  zg = replicate 32 0

  abbrev zr : List ℕ
  zr = replicate (length ram) 0

  abbrev zt : List ℕ
  zt = replicate (length tags) 0

  -- from here on the records say the rest
  abbrev At : Start → ℕ → ℕ → ℕ → Type 0
  At s at kind key = (n : ℕ) → length book ≤ n + at → enter_all n book (length ram) (step_at book (length ram) at kind key) s ≡ with m.caps m.pcc m.general ram tags

  over : (s : Start) (at kind key x : ℕ) (e : Entry) → step_at book (length ram) at kind key ≡ more x e → At (entered book x e s) x (kind_of e) (key_of e) → At s at kind key
  unfolding enter_all
  over s at kind key x e p g zero k = let f = more_fits book (length ram) at kind key x e (sym p) in absurd (omega (arith, f.0, f.1))
  over s at kind key x e p g (suc n) k = let f = more_fits book (length ram) at kind key x e (sym p) in rw p (g n (omega (arith, f.0)))

  -- what was entered before each record
  abbrev Caps : ℕ → ℕ → ℕ → ℕ → Type 0
  Caps i = At (with (filled m.caps nulls i) null zg zr zt)

  abbrev Generals : ℕ → ℕ → ℕ → ℕ → Type 0
  Generals i = At (with m.caps m.pcc (filled m.general zg i) zr zt)

  abbrev Lines : ℕ → ℕ → ℕ → ℕ → Type 0
  Lines i = At (with m.caps m.pcc m.general (filled ram zr (i * 32)) (filled tags zt i))

  lc' : length nulls ≡ length m.caps
  lc' = length-replicate 32 null ∙ sym lc

  lg' : length zg ≡ length m.general
  lg' = length-replicate {A = ℕ} 32 0 ∙ sym lg

  cap_passes : (i : ℕ) → i < 32 → Passes book (length ram) (o.cap i) (cap_body i (get_or m.caps i null)) (Entry.Capability i (get_or m.caps i null)) (Caps i) (Caps (suc i))
  unfolding machine_with ram_with tags_with
  cap_passes i h =
      let c = get_or m.caps i null in
      let k : i < length m.caps = omega (arith, lc) in
      record {
        skip = λ e at kind key g.
            subst (λ (l : List Cap). At (with l null zg zr zt) at kind key) (sym (filled_same m.caps nulls lc' null i k (get_or-replicate 32 i null null h ∙ sym (o.cap_zero i e)))) g;
        over = λ e at rest s kind key x q p l g.
            over (with (filled m.caps nulls i) null zg zr zt) at kind key x (Entry.Capability i c) p
            (rw (ne_eqb i 32 (λ z. omega arith), filled_set m.caps nulls lc' null i k) g);
      }

  first_same : zg ≡ filled m.general zg 1
  first_same = filled_same m.general zg lg' 0 0 (omega (arith, lg)) (sym (first_zero m.caps m.pcc m.pending (get_or m.general 0 0) 0 ram tags v))

  pcc-passes : Passes book (length ram) o.pcc (cap_body 32 m.pcc) (Entry.Capability 32 m.pcc) (Caps 32) (Generals 1)
  unfolding machine_with ram_with tags_with
  pcc-passes =
      let a = filled_all m.caps nulls lc' null 32 (omega (arith, lc)) in
      record {
        skip = λ e at kind key g. rw (a, first_same) (subst (λ (c : Cap). At (with m.caps c (filled m.general zg 1) zr zt) at kind key) (o.pcc_zero e) g);
        over = λ e at rest s kind key x q p l g.
            over (with (filled m.caps nulls 32) null zg zr zt) at kind key x (Entry.Capability 32 m.pcc) p
            (subst (λ (c : List Cap). At (with c m.pcc zg zr zt) x 1 32) (sym a) (subst (λ (y : List ℕ). At (with m.caps m.pcc y zr zt) x 1 32) (sym first_same) g));
      }

  general-passes : (i : ℕ) → 1 ≤ i → i < 32 → Passes book (length ram) (o.general i) (general_body i (get_or m.general i 0)) (Entry.General i (get_or m.general i 0)) (Generals i) (Generals (suc i))
  unfolding machine_with ram_with tags_with
  general-passes i h₁ h =
      let y = get_or m.general i 0 in
      let k : i < length m.general = omega (arith, lg) in
      record {
        skip = λ e at kind key g.
            subst (λ (l : List ℕ). At (with m.caps m.pcc l zr zt) at kind key) (sym (filled_same m.general zg lg' 0 i k (get_or-replicate 32 i 0 0 h ∙ sym (o.general_zero i e)))) g;
        over = λ e at rest s kind key x q p l g.
            over (with m.caps m.pcc (filled m.general zg i) zr zt) at kind key x (Entry.General i y) p
            (subst (λ (l : List ℕ). At (with m.caps m.pcc l zr zt) x 2 i) (sym (filled_set m.general zg lg' 0 i k)) g);
      }

  line_passes : (i : ℕ) → i < length tags
      → Passes book (length ram) (not (tag_of tags i) && zero_bytes (line_bytes ram i)) (line_body (RAM_BASE + i * 32) (tag_of tags i) (line_bytes ram i)) (Entry.Line (RAM_BASE + i * 32) (tag_of tags i)) (Lines i) (Lines (suc i))
  unfolding with_tag machine_with ram_with tags_with
  line_passes i h =
      let t = tag_of tags i in
      let a = RAM_BASE + i * 32 in
      let low = tag_low m.caps m.pcc m.pending (get_or m.general 0 0) 0 ram tags v i h in
      let w = there m o ram tags ty v in
      let r : i * 32 + 32 ≤ length ram = omega (arith, w.0, h) in
      let k : i < 2048 = omega (arith, w.1, h) in
      let er : length zr ≡ length ram = length-replicate {A = ℕ} (length ram) 0 in
      let et : length zt ≡ length tags = length-replicate {A = ℕ} (length tags) 0 in
      let z : suc i * 32 ≡ i * 32 + 32 = omega arith in
      let b : a - RAM_BASE ≡ i * 32 = omega arith in
      let d : i * 32 / 32 ≡ i = omega arith in
      record {
        skip = λ e at kind key g.
            let f = both_true (not t) (zero_bytes (line_bytes ram i)) e in
            let y : filled tags zt i ≡ filled tags zt (suc i) =
            filled_same tags zt et 0 i h (get_or-replicate (length tags) i 0 0 h ∙ no_tag tags i low (not-true t f.0)) in
            let x : filled ram zr (i * 32) ≡ filled ram zr (i * 32 + 32) = filled_part ram zr er (i * 32) 32 r (zero_part ram (i * 32) 32 r f.1) in
            subst (λ (l : List ℕ). At (with m.caps m.pcc m.general l (filled tags zt i)) at kind key) (ap (filled ram zr) z ∙ sym x)
            (subst (λ (l : List ℕ). At (with m.caps m.pcc m.general (filled ram zr (suc i * 32)) l) at kind key) (sym y) g);
        over = λ e at rest s kind key x q p l g.
            let n : x - 32 ≡ at + 12 = omega (arith, q, line_bytes_lem a t (line_bytes ram i), bytes_32 ram tags i r k) in
            let bytes : take 32 (drop (x - 32) book) ≡ line_bytes ram i =
            ap (λ (j : ℕ). take 32 (drop j book)) n ∙ line_bytes_at book at a t (line_bytes ram i) rest (bytes_32 ram tags i r k) s in
            let put-there : put (filled ram zr (i * 32)) (a - RAM_BASE) (take 32 (drop (x - 32) book)) ≡ filled ram zr (suc i * 32) =
            rw (b, bytes, z) (filled_put ram zr er (i * 32) 32 r) in
            let tag_there : set (filled tags zt i) ((a - RAM_BASE) / 32) (bit t) ≡ filled tags zt (suc i) =
            rw (b, d, tag_byte tags i low) (filled_set tags zt et 0 i h) in
            over (with m.caps m.pcc m.general (filled ram zr (i * 32)) (filled tags zt i)) at kind key x (Entry.Line a t) p
            (subst (λ (y : List ℕ). At (with m.caps m.pcc m.general y (set (filled tags zt i) ((a - RAM_BASE) / 32) (bit t))) x 3 a) (sym put-there)
            (subst (λ (y : List ℕ). At (with m.caps m.pcc m.general (filled ram zr (suc i * 32)) y) x 3 a) (sym tag_there) g));
      }

  turns : (at kind key : ℕ) → Lines 0 at kind key → Generals 32 at kind key
  turns at kind key g =
      subst (λ (l : List ℕ). At (with m.caps m.pcc l zr zt) at kind key) (sym (filled_all m.general zg lg' 0 32 (omega (arith, lg)))) g

  ended : (at kind key : ℕ) → length book ≤ at → Lines (length tags) at kind key
  ended at kind key h n k =
      let er : length zr ≡ length ram = length-replicate {A = ℕ} (length ram) 0 in
      let et : length zt ≡ length tags = length-replicate {A = ℕ} (length tags) 0 in
      let w = whole_lines m.caps m.pcc m.pending (get_or m.general 0 0) 0 ram tags v in
      ap (λ (s : Step). enter_all n book (length ram) s (with m.caps m.pcc m.general (filled ram zr (length tags * 32)) (filled tags zt (length tags)))) (at_end book (length ram) at kind key h)
      ∙ done n book (length ram) (with m.caps m.pcc m.general (filled ram zr (length tags * 32)) (filled tags zt (length tags)))
      ∙ rw (filled_all ram zr er 0 (length tags * 32) (omega (arith, w)), filled_all tags zt et 0 (length tags) (omega arith))

  pub book_entered : (n : ℕ) → length book ≤ n + 1
      → enter_all n book (length ram) (step_at book (length ram) 1 0 0) (bare zr zt) ≡ with m.caps m.pcc m.general ram tags
  book_entered = book_walk m o ram tags ty v book Caps Generals Lines cap_passes pcc-passes general-passes turns line_passes ended refl

-- nothing is pending
quiet : (p : Option Cap) → not (is_pending p) ≡ true → None ≡ p
quiet None e = refl
quiet (Some c) e = let z : ◌≡◌ {A = ℕ} 0 1 = cc in absurd (omega arith)

resting : (m : Machine) (ram tags : List ℕ) → rests m ≡ true → with m.caps m.pcc m.general ram tags ≡ record { machine = m; ram = ram; tags = tags }
resting m ram tags e =
    let f = both_true (not (is_pending m.pending)) (eqb m.cause 0) e in
    λ i. record {
      machine = record { general = m.general; caps = m.caps; pcc = m.pcc; pending = quiet m.pending f.0 i; cause = sym (eqb-true m.cause 0 f.1) i };
      ram = ram;
      tags = tags;
    }

-- a flash of a legal length beside sizes that fit
sizes : (a b t : Bool) → ((a && b) && t) ≡ true → (flash : Bool) → flash ≡ true → ((flash && b) && t) ≡ true
sizes a b t e flash f = let p = both_true (a && b) t e in let q = both_true a b p.0 in rw (f, q.1, p.1)

-- an accepted book is entered over zeros
pub read_accepted : (book : List ℕ) (flash : ℕ) (ram tags : List ℕ) → judged book flash (length ram) (length tags) ≡ (Ok tt)
    → read_book book flash ram tags ≡ enter_all (length book) book (length ram) (step_at book (length ram) 1 0 0) (bare (replicate (length ram) 0) (replicate (length tags) 0))
unfolding read_book enter_book
read_accepted book flash ram tags e =
    rw e (ap (λ (r : ℕ). enter_all (length book) book r (step_at book r 1 0 0) (bare (replicate (length ram) 0) (replicate (length tags) 0))) (length-replicate {A = ℕ} (length ram) 0))

-- a book that names all registers but some that are zero gives back the machine, the RAM and the tags that it is of
pub omitting_read : (m : Machine) (o : Omits m) (ram tags : List ℕ) (flash : ℕ) (ram' tags' : List ℕ) → Typed m → length m.caps ≡ 32 → length m.general ≡ 32
    → (Ok tt) ≡ verdict_of m.caps m.pcc m.pending (get_or m.general 0 0) 0 ram tags
    → rests m ≡ true
    → memory_fits flash ≡ true
    → length ram' ≡ length ram
    → length tags' ≡ length tags
    → (judged (book_omitting m o ram tags) flash (length ram') (length tags') ≡ (Ok tt))
    × (read_book (book_omitting m o ram tags) flash ram' tags' ≡ record { machine = m; ram = ram; tags = tags })
unfolding judged
omitting_read m o ram tags flash ram' tags' ty lc lg v r ff er et =
    let book = book_omitting m o ram tags in
    let fits = sizes (memory_fits 0) (memory_fits (length ram)) (tags_fit (length ram) (length tags)) (sizes_fit_lem m.caps m.pcc m.pending (get_or m.general 0 0) 0 ram tags v) (memory_fits flash) ff in
    let accepted : judged book flash (length ram') (length tags') ≡ (Ok tt) = rw (er, et, fits) (book_accepted m o ram tags ty v) in
    let read : read_book book flash ram' tags' ≡ record { machine = m; ram = ram; tags = tags } =
    read_accepted book flash ram' tags' accepted ∙ rw (er, et) (book_entered m o ram tags ty lc lg v (length book) (omega arith) ∙ resting m ram tags r) in
    (accepted, read)

pub written_and_read : WrittenAndRead
written_and_read m ram tags out n flash ram' tags' ty lc lg e ff er et =
    let f = taken m ram tags out n e in
    rw (f.2, written_omits m ram tags) (omitting_read m (zeros m) ram tags flash ram' tags' ty lc lg f.0 f.1 ff er et)
