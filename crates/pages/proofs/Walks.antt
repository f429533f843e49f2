-- The laws of the walk: a record that goes on ends further on, and the walk over one record. Assumes nothing.
use Rattle.std.specs.Prelude.{Result, Ok, Err, Some, None}
use Prim.Native.Nat.{ℕ, zero, suc, ◌+◌, ◌<◌, ◌≤◌}
use mathlib.Core.Path.{◌≡◌, refl, sym, ap}
use mathlib.Core.Bool.{Bool, true, false, cond}
use mathlib.Core.List.{List}
use native.Mathlib.Omega.{arith}
use borrow.Author.Tests.{lt-ltb, le-ltb, le-leb, eq-eqb, ne_eqb}
use lib.ListN.{length, take, drop}
use Rattle.manual.specs.declared.Refusal.{Refusal}
use Rattle.pages.specs.declared.Entry.{Entry}
use Rattle.pages.specs.Record.{Head, spans, byte, head_at}
use Rattle.pages.specs.Entry.{entry_of}
use Rattle.pages.proofs.Heads.{body_fits}
use Rattle.pages.specs.declared.Record.{Record}
use Rattle.pages.specs.Book.{more, kind_of, key_of, in_order, after_entry, after_head, step_at, walk, check_book}

-- in order
pub rises : (kind key next found : ℕ) → kind < next → true ≡ in_order kind key next found
unfolding in_order
rises kind key next found h = rw (lt-ltb kind next h)

pub goes_on : (kind key next found : ℕ) → next ≤ kind → kind ≡ next → key < found → true ≡ in_order kind key next found
unfolding in_order
goes_on kind key next found h z l = rw (le-ltb kind next h, eq-eqb kind next z, lt-ltb key found l)

-- a record that goes on: where it ends, and what its body says
ordered_more : (rising : Bool) (end x : ℕ) (entry e : Entry) → cond rising (more end entry) (Err Refusal.Order) ≡ more x e → (end ≡ x) × (entry ≡ e)
ordered_more true end x entry e h =
    let z : ◌≡◌ {A = Record} (record { end = end; entry = entry }) (record { end = x; entry = e }) = cc in
    (ap (λ (r : Record). r.end) z, ap (λ (r : Record). r.entry) z)
ordered_more false end x entry e h = let z : ◌≡◌ {A = ℕ} 0 1 = cc in absurd (omega arith)

entry_more : (entry : Result Entry Refusal) (end kind key x : ℕ) (e : Entry) → after_entry end entry kind key ≡ more x e → (end ≡ x) × (entry ≡ Ok e)
unfolding after_entry
entry_more (Err refusal) end kind key x e h = let z : ◌≡◌ {A = ℕ} 0 1 = cc in absurd (omega arith)
entry_more (Ok entry) end kind key x e h =
    let f = ordered_more (in_order kind key (kind_of entry) (key_of entry)) end x entry e h in
    (f.0, ap (λ (y : Entry). Ok y) f.1)

pub record GoesOn (book : List ℕ) (ram at x : ℕ) (e : Entry) : Type 0 where
  pub start : ℕ
  pub bytes : ℕ
  pub body : spans start bytes ≡ head_at book at
  pub ends : start + bytes ≡ x
  pub says : entry_of (take bytes (drop start book)) ram ≡ Ok e

head_more : (head : Head) (book : List ℕ) (ram at kind key x : ℕ) (e : Entry) → head ≡ head_at book at → after_head book ram head kind key ≡ more x e → GoesOn book ram at x e
unfolding after_head
head_more (Ok None) book ram at kind key x e q h = let z : ◌≡◌ {A = ℕ} 0 1 = cc in absurd (omega arith)
head_more (Err refusal) book ram at kind key x e q h = let z : ◌≡◌ {A = ℕ} 0 1 = cc in absurd (omega arith)
head_more (Ok (Some b)) book ram at kind key x e q h =
    let g = entry_more (entry_of (take b.bytes (drop b.start book)) ram) (b.start + b.bytes) kind key x e h in
    record { start = b.start; bytes = b.bytes; body = q; ends = g.0; says = g.1 }

pub more_goes_on : (book : List ℕ) (ram at kind key x : ℕ) (e : Entry) → more x e ≡ step_at book ram at kind key → GoesOn book ram at x e
unfolding step_at
more_goes_on book ram at kind key x e q = head_more (head_at book at) book ram at kind key x e refl (sym q)

pub more_fits : (book : List ℕ) (ram at kind key x : ℕ) (e : Entry) → more x e ≡ step_at book ram at kind key → (at < x) × (x ≤ length book)
more_fits book ram at kind key x e q =
    let g = more_goes_on book ram at kind key x e q in
    let f = body_fits book at g.start g.bytes g.body in
    omega (arith, f.0, f.1, f.2, g.ends)

-- at the end of the book nothing is left
pub step_end : (book : List ℕ) (ram at kind key : ℕ) → length book ≤ at → step_at book ram at kind key ≡ Ok None
unfolding step_at head_at after_head
step_end book ram at kind key h = rw (le-leb (length book) at h)

pub walk_done : (n : ℕ) (book : List ℕ) (ram : ℕ) → walk n book ram (Ok None) ≡ (Ok tt)
unfolding walk
walk_done zero book ram = refl
walk_done (suc n) book ram = refl

pub walk_refused : (n : ℕ) (book : List ℕ) (ram at kind key : ℕ) (r : Refusal) → length book ≤ n + at → Err r ≡ step_at book ram at kind key
    → Err r ≡ walk n book ram (step_at book ram at kind key)
unfolding walk
walk_refused zero book ram at kind key r h p = let d = step_end book ram at kind key (omega arith) in let z : ◌≡◌ {A = ℕ} 0 1 = cc in absurd (omega arith)
walk_refused (suc n) book ram at kind key r h p = rw (← p)

pub walk_more : (n : ℕ) (book : List ℕ) (ram at kind key x : ℕ) (e : Entry) (k q : ℕ) → length book ≤ n + at → more x e ≡ step_at book ram at kind key → k ≡ kind_of e → q ≡ key_of e
    → (m : ℕ) × (length book ≤ m + x) × (walk m book ram (step_at book ram x k q) ≡ walk n book ram (step_at book ram at kind key))
unfolding walk
walk_more zero book ram at kind key x e k q h p ek eq = let d = step_end book ram at kind key (omega arith) in let z : ◌≡◌ {A = ℕ} 0 1 = cc in absurd (omega arith)
walk_more (suc n) book ram at kind key x e k q h p ek eq = let f = more_fits book ram at kind key x e p in (n, omega (arith, f.0), rw (← p, ek, eq))

pub check_start : (book : List ℕ) (ram : ℕ) → (length book ≡ 0 → ⊥) → byte book 0 ≡ 1 → walk (length book) book ram (step_at book ram 1 0 0) ≡ check_book book ram
unfolding check_book
check_start book ram h k = rw (ne_eqb (length book) 0 h, eq-eqb (byte book 0) 1 k)
