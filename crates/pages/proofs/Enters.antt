-- The laws of entering a book: a line copied, and the walk over one record. Assumes nothing.
use Rattle.std.specs.Prelude.{Ok, Err, None}
use Prim.Native.Nat.{ℕ, zero, suc, ◌+◌, ◌-◌, ◌≤◌}
use mathlib.Core.Path.{◌≡◌, refl, sym, ◌∙◌, subst}
use mathlib.Core.List.{List, ◌++◌}
use native.Mathlib.Omega.{arith}
use lib.ListN.{length, take, drop, length-drop, length-take}
use lib.Seq.{length-take-le}
use Rattle.manual.specs.Store.{put}
use Rattle.manual.proofs.Stores.{put_part}
use Rattle.manual.specs.declared.Machine.{Machine}
use Rattle.manual.specs.declared.Refusal.{Refusal}
use Rattle.pages.specs.declared.Entry.{Entry}
use Rattle.pages.proofs.Entries.{Fits, entry_fits}
use Rattle.pages.specs.Book.{Step, more, kind_of, key_of, step_at}
use Rattle.pages.proofs.Walks.{GoesOn, more_goes_on, more_fits, step_end}
use Rattle.pages.specs.Entering.{Start, zero_machine, machine_with, ram_with, tags_with, entered, enter_all, enter_book, bare, RegisterIsThere, LineIsThere}

-- 32 bytes of the book copied over a line of the RAM
pub copied : (book ram ys : List ℕ) (end at : ℕ) → 32 ≤ end → end ≤ length book → at + 32 ≤ length ram
    → ys ≡ take (end - (end - 32)) (drop (end - 32) book)
    → take at ram ++ (ys ++ drop (at + 32 - at) (drop at ram)) ≡ put ram at (take 32 (drop (end - 32) book))
copied book ram ys end at h k l e =
    let n : end - (end - 32) ≡ 32 = omega arith in
    let q : length (take 32 (drop (end - 32) book)) ≡ 32 = length-take-le 32 (drop (end - 32) book) (simp length-drop (omega arith)) in
    let z : ys ≡ take 32 (drop (end - 32) book) = e ∙ rw n in
    put_part ram at 32 ys (take 32 (drop (end - 32) book)) l z q

-- a record of the walk has its register there, or its line's bytes and place
register_there : (e : Entry) (body : List ℕ) (ram : ℕ) → Fits body ram e → RegisterIsThere e
register_there (Entry.Capability number c) body ram f = f
register_there (Entry.General number value) body ram f = f
register_there (Entry.Line address tag) body ram f = tt

line_there : (e : Entry) (book : List ℕ) (ram start bytes x : ℕ) → start + bytes ≡ x → x ≤ length book → Fits (take bytes (drop start book)) ram e → LineIsThere book x e ram
line_there (Entry.Capability number c) book ram start bytes x z h f = tt
line_there (Entry.General number value) book ram start bytes x z h f = tt
line_there (Entry.Line address tag) book ram start bytes x z h f = (omega (arith, f.bytes, length-take bytes (drop start book)), h, f.above, f.room)

fits : (book : List ℕ) (ram at x : ℕ) (e : Entry) (g : GoesOn book ram at x e) → Fits (take g.bytes (drop g.start book)) ram e
fits book ram at x e g =
    entry_fits (take g.bytes (drop g.start book)) ram e g.says

pub registered : (book : List ℕ) (ram at kind key x : ℕ) (e : Entry) → more x e ≡ step_at book ram at kind key → RegisterIsThere e
registered book ram at kind key x e q =
    let g = more_goes_on book ram at kind key x e q in
    register_there e (take g.bytes (drop g.start book)) ram (fits book ram at x e g)

pub there : (book : List ℕ) (ram r at kind key x : ℕ) (e : Entry) → r ≡ ram → more x e ≡ step_at book ram at kind key → LineIsThere book x e r
there book ram r at kind key x e z q =
    let g = more_goes_on book ram at kind key x e q in
    subst (λ (n : ℕ). LineIsThere book x e n) (sym z)
    (line_there e book ram g.start g.bytes x g.ends (more_fits book ram at kind key x e q).1 (fits book ram at x e g))

-- the same, once the entry is told
pub is_line_lem : (book : List ℕ) (end : ℕ) (e e' : Entry) (ram : ℕ) → e ≡ e' → LineIsThere book end e ram → LineIsThere book end e' ram
is_line_lem book end e e' ram q h = subst (λ (x : Entry). LineIsThere book end x ram) q h

-- where the registers and the memories stand at the loop's head
abbrev pub holding : Machine → List ℕ → List ℕ → Start
holding m ram tags = record { machine = m; ram = ram; tags = tags }

pub begins : (book ram tags : List ℕ) (m : Machine) → m ≡ zero_machine
    → enter_all (length book) book (length ram) (step_at book (length ram) 1 0 0) (holding m ram tags) ≡ enter_book book (bare ram tags)
unfolding enter_book
begins book ram tags m e = rw e

pub ends : (n : ℕ) (book : List ℕ) (ram : ℕ) (s : Start) (step : Step) → Ok None ≡ step → s ≡ enter_all n book ram step s
unfolding enter_all
ends zero book ram s step e = refl
ends (suc n) book ram s step e = rw (← e)

pub breaks : (n : ℕ) (book : List ℕ) (ram : ℕ) (s : Start) (refusal : Refusal) (step : Step) → Err refusal ≡ step → s ≡ enter_all n book ram step s
unfolding enter_all
breaks zero book ram s refusal step e = refl
breaks (suc n) book ram s refusal step e = rw (← e)

pub goes_on : (n : ℕ) (book : List ℕ) (ram at kind key x : ℕ) (e : Entry) (k q : ℕ) (s s' : Start) → length book ≤ n + at → more x e ≡ step_at book ram at kind key
    → k ≡ kind_of e → q ≡ key_of e → s' ≡ entered book x e s
    → (m : ℕ) × (length book ≤ m + x) × (enter_all m book ram (step_at book ram x k q) s' ≡ enter_all n book ram (step_at book ram at kind key) s)
unfolding enter_all
goes_on zero book ram at kind key x e k q s s' h p ek eq es = let d = step_end book ram at kind key (omega arith) in let z : ◌≡◌ {A = ℕ} 0 1 = cc in absurd (omega arith)
goes_on (suc n) book ram at kind key x e k q s s' h p ek eq es = let f = more_fits book ram at kind key x e p in (n, omega (arith, f.0), rw (← p, ek, eq, es))

pub enters : (book : List ℕ) (x : ℕ) (e : Entry) (m m' : Machine) (ram ram' tags tags' : List ℕ) → m' ≡ machine_with e m → ram' ≡ ram_with book x e ram → tags' ≡ tags_with e tags
    → holding m' ram' tags' ≡ entered book x e (holding m ram tags)
enters book x e m m' ram ram' tags tags' em er et = rw (em, er, et)
