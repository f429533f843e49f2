-- What a step keeps: whatever is held, and whatever can be loaded, stays under the reach at the start. Assumes nothing.
use Rattle.std.specs.Prelude.{Result, Option, Ok, Err, Some, None}
use Prim.Native.Nat.{ℕ, ◌+◌, ◌*◌, ◌-◌, ◌/◌, ◌%◌, ◌≤◌, ◌<◌}
use mathlib.Core.Path.{◌≡◌, refl, sym, ap, ap₂, subst, ◌∙◌}
use mathlib.Core.Bool.{Bool, true, false, cond}
use mathlib.Core.Logic.{◌≢◌}
use mathlib.Core.List.{List, []}
use native.Mathlib.Omega.{arith}
use native.Mathlib.Decide.{ℕ_discrete}
use borrow.Author.Tests.{leb-true, ltb-false}
use lib.Dec.{eqb, leb, ltb}
use lib.ListN.{length, take, drop}
use Rattle.manual.specs.declared.Address.{Address}
use Rattle.manual.specs.declared.Size.{Size}
use Rattle.manual.specs.declared.Size.TheVariants.{One, Two, Four, Eight, Line}
use Rattle.manual.specs.declared.Place.{Place}
use Rattle.manual.specs.declared.Place.TheVariants.{Flash, Ram, Nowhere}
use Rattle.manual.specs.Number.{LINE, bytes_in, to_be}
use Rattle.manual.specs.Place.{RAM_BASE, place_of, part_of, bytes_of, load_of}
use Rattle.manual.specs.Store.{put, tag_of, with_tag, tag_at, answer_at, ram_after, tags_after}
use Rattle.manual.proofs.Numbers.{length-to_be}
use Rattle.manual.proofs.Stores.{put-read, length-put, other_tags_stay}
use Rattle.manual.specs.declared.Cap.{Cap}
use Rattle.manual.specs.Cap.{permits, LOAD_CAPABILITY}
use Rattle.manual.specs.Narrow.{null, inc_offset}
use Rattle.manual.specs.Line.{encode, decode, from_words, cap_in, load_cap}
use Rattle.manual.proofs.Lines.{length-encode}
use Rattle.manual.specs.Word.{field25, field20, field15, field10}
use Rattle.manual.specs.declared.Effect.{Effect}
use Rattle.manual.specs.declared.Operands.{Operands}
use Rattle.manual.specs.declared.Change.{Change}
use Rattle.manual.specs.Perform.{quiet, loaded_turn, stored_turn, cap_turn, turn_of, ram_of, tags_of}
use Rattle.manual.specs.Act.{planned_of, done_turn, done_ram, done_tags}
use Rattle.manual.specs.Fetch.{word_of}
use Rattle.manual.specs.Registers.{is_pending}
use Rattle.manual.specs.declared.Machine.{Machine}
use Rattle.manual.specs.State.{capability, operands_of, next_pcc, commit}
use Rattle.manual.specs.Steps.{fetched_by, turn_at, ram_at, tags_at}
use Rattle.isolation.specs.Reach.{Memories, Spans, line_cap, Held, in_register, in_pcc, in_pending, Writes, by_store, by_store_capability, CanLoad, CanWrite}
use Rattle.isolation.specs.Agree.{Under, Kept}
use Rattle.isolation.proofs.Ranges.{Fits, Narrows, covers_span, inside_span, inside_trans, narrows_offset}
use Rattle.isolation.proofs.Lists.{never, part_eq, tag_given, put_outside, all_set}
use Rattle.isolation.proofs.Plans.{Made, Through, Allowed, Given, Passes, planned_good}
use Rattle.isolation.proofs.Stored.{stored_narrows}
use Rattle.manual.specs.declared.Fault.{Fault}

-- ---- where an access lies

pub data At (flash ram a n : ℕ) : Place → Type 0 where
  at_flash : a + n ≤ flash → At flash ram a n (Flash a)
  at_ram : (i : ℕ) → a ≡ RAM_BASE + i → i + n ≤ ram → At flash ram a n (Ram i)
  at_none : At flash ram a n Nowhere

pub where_is : (flash ram : ℕ) (a : Address) (n : ℕ) → At flash ram a.0 n (place_of flash ram a n)
unfolding place_of
where_is flash ram a n = go (leb (a.0 + n) flash) (ltb a.0 RAM_BASE) (leb (a.0 - RAM_BASE + n) ram) refl refl refl
  where
    go : (x y z : Bool) → leb (a.0 + n) flash ≡ x → ltb a.0 RAM_BASE ≡ y → leb (a.0 - RAM_BASE + n) ram ≡ z
        → At flash ram a.0 n (cond x (Flash a.0) (cond y Nowhere (cond z (Ram (a.0 - RAM_BASE)) Nowhere)))
    go true y z p q r = at_flash (leb-true (a.0 + n) flash p)
    go false true z p q r = at_none
    go false false true p q r =
        let l = ltb-false a.0 RAM_BASE q in
        let h = leb-true (a.0 - RAM_BASE + n) ram r in
        at_ram (a.0 - RAM_BASE) (omega arith) h
    go false false false p q r = at_none

pub size_pos : (size : Size) → 0 < bytes_in size
size_pos One = omega arith
size_pos Two = omega arith
size_pos Four = omega arith
size_pos Eight = omega arith
size_pos Line = omega arith

-- an aligned access lies in one line
one_line : (size : Size) (a i : ℕ) → a % bytes_in size ≡ 0 → a ≡ RAM_BASE + i → i % LINE + bytes_in size ≤ LINE
one_line One a i h e = omega arith
one_line Two a i h e = omega arith
one_line Four a i h e = omega arith
one_line Eight a i h e = omega arith
one_line Line a i h e = omega arith

no_jump : (A : Type 0) (c : Cap) → None ≡ Some c → A
no_jump A c e = let z : ◌≡◌ {A = ℕ} 0 1 = cc in absurd (omega arith)

abbrev target_of : Cap → Option Cap → Cap
target_of d None = d
target_of d (Some c) = c

decode_tag : (t : Bool) (l : List ℕ) → (decode t l).tag ≡ t
unfolding decode from_words
decode_tag t l = refl

untagged : (A : Type 0) (l : List ℕ) (c : Cap) → decode false l ≡ c → c.tag ≡ true → A
untagged A l c d g = never A (sym (decode_tag false l) ∙ ap (λ (k : Cap). k.tag) d ∙ g)

-- the capability that a load gave is that of the bytes
value_is : (tag : Bool) (part : List ℕ) (c : Cap) → cap_in tag part ≡ Some c → decode tag part ≡ c
unfolding cap_in
value_is tag part c e = go (eqb (length part) 32) e
  where
    go : (b : Bool) → cond b (Some (decode tag part)) None ≡ Some c → decode tag part ≡ c
    go true e = cc
    go false e = never _ cc

-- the registers that a word names are held
pub given : (m : Machine) (w : ℕ) → Given (Held m) (operands_of m w)
unfolding operands_of
given m w = record {
  c25 = in_register (field25 w) (omega arith) refl;
  c20 = in_register (field20 w) (omega arith) refl;
  c15 = in_register (field15 w) (omega arith) refl;
  c10 = in_register (field10 w) (omega arith) refl;
  c0 = in_register 0 (omega arith) refl;
  pcc = in_pcc refl;
}

-- the memories after a step
abbrev pub stepped : Machine → Memories → Memories
stepped m x = record { flash = x.flash; ram = ram_at x.flash m x.ram; tags = tags_at x.flash m x.ram x.tags }

module _ (Member : Cap → Type 0) where
  -- under a member, in range and width
  pub record Safely (c : Cap) : Type 0 where
    pub under : Under Member c
    pub fits : Fits c

  abbrev pub Safe : Cap → Type 0
  Safe c = c.tag ≡ true → Safely c

  -- the invariant of a run
  pub record Inv (m : Machine) (x : Memories) : Type 0 where
    pub registers : (i : ℕ) → i < 32 → Safe (capability m i)
    pub pcc : Safe m.pcc
    pub pending : (c : Cap) → m.pending ≡ Some c → Safe c
    pub lines : (i : ℕ) → CanLoad Member i → tag_of x.tags i ≡ true → Safely (line_cap x i)

  pub held_safe : {m : Machine} {x : Memories} {c : Cap} → Inv m x → Held m c → Safe c
  held_safe v (in_register i l e) = subst Safe e (v.registers i l)
  held_safe v (in_pcc e) = subst Safe e v.pcc
  held_safe {c = c} v (in_pending e) = v.pending c e

  narrowed : {c d : Cap} → Narrows c d → Safely d → Safely c
  narrowed n s = record {
    under = record { by = s.under.by; member = s.under.member; inside = inside_trans (n.inside s.fits) s.under.inside };
    fits = n.fits s.fits;
  }

  made_safe : {m : Machine} {x : Memories} {c : Cap} → Inv m x → Made (Held m) c → Safe c
  made_safe v f t = let g = f t in narrowed g.narrows (held_safe v g.held g.tagged)

  -- a member through which an access goes
  pub record Via (permission address bytes : ℕ) : Type 0 where
    pub by : Cap
    pub member : Member by
    pub may : permits by permission ≡ true
    pub spans : Spans by address bytes

  pub via : {m : Machine} {x : Memories} {p a n : ℕ} → 0 < n → Inv m x → Through (Held m) p a n → Via p a n
  via z v t =
      let u = (held_safe v t.held t.tagged).under in
      record { by = u.by; member = u.member; may = u.inside.permissions _ t.may; spans = inside_span u.inside z t.spans }

  via_write : {p a n : ℕ} → ((c : Cap) → permits c p ≡ true → Writes c) → Via p a n → (i : ℕ) → i < n → CanWrite Member (a + i)
  via_write f t i h = record { by = t.by; member = t.member; writes = f t.by t.may; covers = covers_span t.spans i h }

  -- the line of an access that loads capabilities
  pub via_line : {a : ℕ} (i : ℕ) → a ≡ RAM_BASE + i → a % LINE ≡ 0 → Via LOAD_CAPABILITY a LINE → CanLoad Member (i / LINE)
  via_line i e al t = record { by = t.by; member = t.member; loads = t.may; spans = omega (arith, t.spans) }

  -- ---- the registers after a step

  next_safe : (pcc : Cap) (p : Option Cap) → Safe pcc → ((t : Cap) → p ≡ Some t → Safe t) → Safe (next_pcc pcc p)
  unfolding inc_offset
  next_safe pcc None s h = λ t. narrowed (narrows_offset pcc 4) (s t)
  next_safe pcc (Some t) s h = h t refl

  committed : {m : Machine} {x y : Memories} (d : Change) → Inv m x → Safe d.cap → ((t : Cap) → d.jump ≡ Some t → Safe t)
      → ((i : ℕ) → CanLoad Member i → tag_of y.tags i ≡ true → Safely (line_cap y i)) → Inv (commit m d) y
  unfolding commit
  committed {m} d v s j l = record {
    registers = all_set (λ i. i < 32) Safe null m.caps (d.cd % 32) d.cap v.registers s;
    pcc = next_safe m.pcc m.pending v.pcc v.pending;
    pending = j;
    lines = l;
  }

  -- ---- a write into one line

  abbrev written : Memories → ℕ → List ℕ → Bool → Memories
  written x i bytes tag = record { flash = x.flash; ram = put x.ram i bytes; tags = with_tag x.tags (i / LINE) tag }

  -- so many bytes at i lie in one line
  abbrev OneLine : ℕ → ℕ → Type 0
  OneLine i n = i % LINE + n ≤ LINE

  other_line : (x : Memories) (i : ℕ) (bytes : List ℕ) (tag : Bool) (j : ℕ) → OneLine i (length bytes) → j ≢ i / LINE
      → line_cap (written x i bytes tag) j ≡ line_cap x j
  unfolding line_cap
  other_line x i bytes tag j l ne =
      ap₂ decode
      (other_tags_stay x.tags (i / LINE) j tag ne)
      (part_eq (put x.ram i bytes) x.ram (j * LINE) LINE (length-put x.ram i bytes)
      (λ k h. put_outside bytes x.ram i (j * LINE + k) (λ p q. ne (omega arith))))

  -- the lines after a write are safe if the line written is
  write_lines : (x : Memories) (i : ℕ) (bytes : List ℕ) (tag : Bool) → OneLine i (length bytes)
      → ((j : ℕ) → CanLoad Member j → tag_of x.tags j ≡ true → Safely (line_cap x j))
      → (tag_of (written x i bytes tag).tags (i / LINE) ≡ true → Safely (line_cap (written x i bytes tag) (i / LINE)))
      → (j : ℕ) → CanLoad Member j → tag_of (written x i bytes tag).tags j ≡ true → Safely (line_cap (written x i bytes tag) j)
  write_lines x i bytes tag l old new j c = go (ℕ_discrete j (i / LINE))
    where
      go : Dec (j ≡ i / LINE) → tag_of (with_tag x.tags (i / LINE) tag) j ≡ true → Safely (line_cap (written x i bytes tag) j)
      go (yes e) g = rw e (new (rw e at g))
      go (no ne) g =
          subst Safely (sym (other_line x i bytes tag j l ne))
          (old j c (sym (other_tags_stay x.tags (i / LINE) j tag ne) ∙ g))

  -- a line that a capability was stored in is safe
  stored_line : (x : Memories) (i : ℕ) (c : Cap) → i % LINE ≡ 0 → i + LINE ≤ length x.ram → Safe c
      → tag_of (written x i (encode c) c.tag).tags (i / LINE) ≡ true → Safely (line_cap (written x i (encode c) c.tag) (i / LINE))
  unfolding line_cap
  stored_line x i c al h s t =
      let e : i / LINE * LINE ≡ i = omega arith in
      let b : c.tag ≡ true = tag_given x.tags (i / LINE) c.tag t in
      rw (e, put-read x.ram i LINE (encode c) h (length-encode c)) (narrowed (stored_narrows c _) (s b))

  write_kept : {p a : ℕ} (x : Memories) (i : ℕ) (bytes : List ℕ) (tag : Bool) → ((c : Cap) → permits c p ≡ true → Writes c) → a ≡ RAM_BASE + i
      → 0 < length bytes → OneLine i (length bytes) → Via p a (length bytes) → Kept Member x (written x i bytes tag)
  write_kept {p} {a} x i bytes tag w e z l t = record {
    flash = refl;
    ram = λ k no_write.
        sym (put_outside bytes x.ram i k (λ u v. no_write (subst (CanWrite Member) (omega arith) (via_write w t (k - i) (omega arith)))));
    tags = λ j no_write.
        sym (other_tags_stay x.tags (i / LINE) j tag
        (λ q. no_write (i % LINE) (omega arith) (subst (CanWrite Member) (omega arith) (via_write w t 0 (omega arith)))));
  }

  pub kept_refl : (x : Memories) → Kept Member x x
  kept_refl x = record { flash = refl; ram = λ i h. refl; tags = λ i h. refl }

  pub kept_trans : {x y z : Memories} → Kept Member x y → Kept Member y z → Kept Member x z
  kept_trans p q = record
      { flash = p.flash ∙ q.flash; ram = λ i h. p.ram i h ∙ q.ram i h; tags = λ i h. p.tags i h ∙ q.tags i h }

  -- ---- a turn

  -- a step that goes on keeps the invariant, and what no member could write; one that stops has written nothing
  module _ (m : Machine) (x : Memories) where
    abbrev pub Fine : Result Change Fault → Memories → Type 0
    Fine (Ok d) y = Inv (commit m d) y × Kept Member x y
    Fine (Err fault) y = Unit {0}

    module _ (v : Inv m x) where
      -- C0 as it was, or another register that is safe, and no memory written
      plain : (d : Change) → Safe d.cap → ((t : Cap) → d.jump ≡ Some t → Safe t) → Fine (Ok d) x
      plain d s j = (committed d v s j v.lines, kept_refl x)

      no_target : (t : Cap) → None ≡ Some t → Safe t
      no_target t e = no_jump _ t e

      the_target : (c : Cap) → Safe c → (t : Cap) → Some c ≡ Some t → Safe t
      the_target c s t e = subst Safe (ap (target_of c) e) s

      loaded_fine : (c0 : Cap) (cause : ℕ) (signed : Bool) (size : Size) (rd : ℕ) (l : Option ℕ) → Safe c0 → Fine (loaded_turn c0 cause signed size rd l) x
      loaded_fine c0 cause signed size rd (Some n) s = plain _ s no_target
      loaded_fine c0 cause signed size rd None s = tt

      cap_fine : (cause cd : ℕ) (l : Option Cap) → ((c : Cap) → l ≡ Some c → Safe c) → Fine (cap_turn cause cd l) x
      cap_fine cause cd (Some c) s = plain _ (s c refl) no_target
      cap_fine cause cd None s = tt

      stored_fine : {p a n : ℕ} {q : Place} (c0 : Cap) (cause : ℕ) (bytes : List ℕ) (tag : Bool) → At (length x.flash) (length x.ram) a n q → Safe c0
          → ((c : Cap) → permits c p ≡ true → Writes c) → 0 < n → length bytes ≡ n → Via p a n → ((i : ℕ) → a ≡ RAM_BASE + i → i % LINE + n ≤ LINE)
          → ((i : ℕ) → a ≡ RAM_BASE + i → i + n ≤ length x.ram → tag_of (written x i bytes tag).tags (i / LINE) ≡ true → Safely (line_cap (written x i bytes tag) (i / LINE)))
          → Fine (stored_turn c0 cause (answer_at q)) (record { flash = x.flash; ram = ram_after q x.ram bytes; tags = tags_after q x.tags tag })
      stored_fine c0 cause bytes tag (at_flash h) s w z e t l new = tt
      stored_fine c0 cause bytes tag (at_ram i ea h) s w z e t l new =
          let one : OneLine i (length bytes) = rw e (l i ea) in (
            committed (quiet c0 cause) v s no_target (write_lines x i bytes tag one v.lines (new i ea h)),
            write_kept x i bytes tag w ea (rw e z) one (rw e t),
          )
      stored_fine c0 cause bytes tag at_none s w z e t l new = tt

      -- what a capability load gives is safe: a line that a member can load, or untagged data of flash
      given_safe : (a : ℕ) (c : Cap) {q : Place} → At (length x.flash) (length x.ram) a LINE q → a % LINE ≡ 0 → Via LOAD_CAPABILITY a LINE
          → cap_in (tag_at x.tags q) (part_of x.flash x.ram q LINE) ≡ Some c → Safe c
      unfolding line_cap
      given_safe a c (at_flash h) al t e g = untagged _ (take LINE (drop a x.flash)) c (value_is false (take LINE (drop a x.flash)) c e) g
      given_safe a c (at_ram i ea h) al t e g =
          let d = value_is (tag_of x.tags (i / LINE)) (take LINE (drop i x.ram)) c e in
          let k : i / LINE * LINE ≡ i = omega arith in
          let b : tag_of x.tags (i / LINE) ≡ true = sym (decode_tag _ (take LINE (drop i x.ram))) ∙ ap (λ (y : Cap). y.tag) d ∙ g in
          subst Safely d (subst (λ (n : ℕ). Safely (decode (tag_of x.tags (i / LINE)) (take LINE (drop n x.ram)))) k (v.lines (i / LINE) (via_line i ea al t) b))
      given_safe a c at_none al t e g = untagged _ [] c (value_is false [] c e) g

      loads_safe : (a : Address) → a.0 % LINE ≡ 0 → Via LOAD_CAPABILITY a.0 LINE → (c : Cap) → load_cap x.flash x.ram x.tags a ≡ Some c → Safe c
      unfolding load_cap bytes_of
      loads_safe a al t c e = given_safe a.0 c (where_is (length x.flash) (length x.ram) a LINE) al t e

      zero_safe : {o : Operands} → Given (Held m) o → Safe o.c0.cap
      zero_safe g = held_safe v g.c0

      -- each effect that is allowed
      effect_fine : (c0 : Cap) (cause : ℕ) (e : Effect) → Safe c0 → Allowed (Held m) e
          → Fine (turn_of c0 cause x.flash x.ram x.tags e) (record { flash = x.flash; ram = ram_of x.flash x.ram e; tags = tags_of x.flash x.ram x.tags e })
      unfolding turn_of ram_of tags_of
      effect_fine c0 cause Effect.Nothing s ok = plain _ s no_target
      effect_fine c0 cause (Effect.General rd value) s ok = plain _ s no_target
      effect_fine c0 cause (Effect.Capability cd c) s ok = plain _ (made_safe v ok) no_target
      effect_fine c0 cause (Effect.Cause n) s ok = plain _ s no_target
      effect_fine c0 cause (Effect.Jump c) s ok = plain _ s (the_target c (made_safe v ok))
      effect_fine c0 cause (Effect.Link cd link c) s ok = plain _ (made_safe v ok.0) (the_target c (made_safe v ok.1))
      effect_fine c0 cause (Effect.Load size signed a rd) s ok = loaded_fine c0 cause signed size rd (load_of x.flash x.ram a (bytes_in size)) s
      effect_fine c0 cause (Effect.Store size a n) s ok =
          stored_fine c0 cause (to_be (bytes_in size) n) false (where_is (length x.flash) (length x.ram) a (bytes_in size)) s (λ c. by_store)
          (size_pos size) (length-to_be (bytes_in size) n) (via (size_pos size) v ok) (λ i e. one_line size a.0 i ok.aligned e)
          (λ i e h t. never _ (tag_given x.tags (i / LINE) false t))
      effect_fine c0 cause (Effect.LoadCapability a cd) s ok =
          cap_fine cause cd (load_cap x.flash x.ram x.tags a) (loads_safe a ok.aligned (via (omega arith) v ok))
      effect_fine c0 cause (Effect.StoreCapability a c) s ok =
          stored_fine c0 cause (encode c) c.tag (where_is (length x.flash) (length x.ram) a LINE) s (λ c. by_store_capability)
          (omega arith) (length-encode c) (via (omega arith) v ok.0) (λ i e. one_line Line a.0 i ok.0.aligned e)
          (λ i e h t. stored_line x i c (omega (arith, ok.0.aligned)) h (made_safe v ok.1) t)

      done_fine : (o : Operands) (p : Result Effect Fault) → Safe o.c0.cap → Passes (Allowed (Held m)) p
          → Fine (done_turn o x.flash x.ram x.tags p) (record { flash = x.flash; ram = done_ram x.flash x.ram p; tags = done_tags x.flash x.ram x.tags p })
      done_fine o (Err fault) s ok = tt
      done_fine o (Ok e) s ok = effect_fine o.c0.cap o.cause e s ok

      -- the memories after the step
      pub turn_fine : Fine (turn_at x.flash m x.ram x.tags) (stepped m x)
      unfolding turn_at ram_at tags_at
      turn_fine =
          let f = fetched_by x.flash m x.ram in
          let o = operands_of m (word_of f) in
          done_fine o (planned_of o (is_pending m.pending) f) (held_safe v (given m (word_of f)).c0) (planned_good (Held m) o (given m (word_of f)) (is_pending m.pending) f)
