-- Where no register and no PCC is tagged, nothing is reached and the first fetch raises. Assumes nothing.
use Rattle.std.specs.Prelude.{Option, Err, Some, None}
use Prim.Native.Nat.{ℕ, ◌≤◌}
use mathlib.Core.Path.{◌≡◌, refl, sym, ◌∙◌, ap, subst}
use mathlib.Core.Bool.{Bool, true, false}
use mathlib.Core.List.{List, [], ◌∷◌}
use native.Mathlib.Omega.{arith}
use lib.ListN.{length}
use Rattle.manual.specs.declared.Cap.{Cap}
use Rattle.manual.specs.Narrow.{null}
use Rattle.manual.specs.declared.Fault.{Fault}
use Rattle.manual.specs.Act.{planned_of}
use Rattle.manual.specs.Fetch.{fetch_of}
use Rattle.manual.specs.Accept.{sizes_fit}
use Rattle.manual.specs.declared.Machine.{Machine}
use Rattle.manual.specs.State.{capability, stopped_at}
use Rattle.manual.specs.Steps.{turn_at, ram_at, tags_at, run_from}
use Rattle.manual.proofs.Runs.{off, first}
use Rattle.manual.specs.Run.{run_of}
use Rattle.pages.specs.Record.{head_at}
use Rattle.pages.specs.Book.{after_head, step_at, walk, check_book}
use Rattle.pages.specs.Entering.{Start, zero_machine, enter_all}
use Rattle.pages.specs.Enter.{judged}
use Rattle.isolation.specs.Reach.{Memories, Held, Reach}
use Rattle.reread.proofs.Again.{read_accepted}
use Rattle.granted.specs.Granted.{BookAccepted, read, StartAccepted, NoneTagged, lent, GivesNothing, NothingGranted, all_zero, EmptyBook}
use Rattle.granted.proofs.Read.{same, read_sound, read_is_accepted}

not_both : (t : Bool) → t ≡ false → t ≡ true → ⊥
not_both t f e = let z : ◌≡◌ {A = ℕ} 0 1 = cc in absurd (omega arith)

no_jump : (p : Option Cap) (c : Cap) → p ≡ None → p ≡ Some c → ⊥
no_jump p c q e = let z : ◌≡◌ {A = ℕ} 0 1 = cc in absurd (omega arith)

module _ (m : Machine) (g : NoneTagged m) (q : m.pending ≡ None) where
  none_held : (c : Cap) → Held m c → c.tag ≡ true → ⊥
  none_held c (Held.in_register i h e) t = not_both (capability m i).tag (g.registers i h) (ap (λ (d : Cap). d.tag) e ∙ t)
  none_held c (Held.in_pcc e) t = not_both m.pcc.tag g.pcc (ap (λ (d : Cap). d.tag) e ∙ t)
  none_held c (Held.in_pending e) t = no_jump m.pending c q e

  none : (x : Memories) (c : Cap) → Reach m x c → ⊥
  none x c (Reach.held h t) = none_held c h t
  none x c (Reach.line i r p s t e) = none x _ r

-- a fetch through an untagged PCC raises Tag, and names no register
fetches : (flash ram : List ℕ) (pcc : Cap) → pcc.tag ≡ false → fetch_of flash ram pcc ≡ Err (Fault.Raise 2 255)
unfolding fetch_of
fetches flash ram pcc e = rw e

module _ (flash ram tags : List ℕ) (m : Machine) (e : m.pcc.tag ≡ false) where
  turn : Err (Fault.Raise 2 255) ≡ turn_at flash m ram tags
  unfolding turn_at planned_of
  turn = rw (fetches flash ram m.pcc e)

  ram_kept : ram ≡ ram_at flash m ram
  unfolding ram_at planned_of
  ram_kept = rw (fetches flash ram m.pcc e)

  tags_kept : tags ≡ tags_at flash m ram tags
  unfolding tags_at planned_of
  tags_kept = rw (fetches flash ram m.pcc e)

  stopped : (budget : ℕ) → 1 ≤ budget → run_from budget 0 flash m ram tags ≡ record { outcome = stopped_at (Fault.Raise 2 255) 0 m; ram = ram; tags = tags }
  stopped budget h =
      sym (off budget 0 flash ram tags m h (Fault.Raise 2 255) ram tags (stopped_at (Fault.Raise 2 255) 0 m) turn ram_kept tags_kept refl ∙ first budget flash ram tags m)

-- an accepted start is run
ran : (budget : ℕ) (flash : List ℕ) (s : Start) → StartAccepted flash s → run_of budget flash s.machine s.ram s.tags ≡ run_from budget 0 flash s.machine s.ram s.tags
unfolding run_of
ran budget flash s e = rw e

gives_nothing : (flash : List ℕ) (s : Start) → StartAccepted flash s → s.machine.pending ≡ None → NoneTagged s.machine
    → GivesNothing flash s s.machine.pcc.offset.0
unfolding stopped_at run_from
gives_nothing flash s a q g =
    let empty = none s.machine g q (lent flash s) in
    record {
      nothing_reached = empty;
      nothing_read = λ address r. empty r.by r.member;
      no_tag_loaded = λ line r. empty r.by r.member;
      stops = λ budget h. ran budget flash s a ∙ stopped flash s.ram s.tags s.machine g.pcc budget h;
      unchanged = ran 0 flash s a;
    }

pub nothing_granted : NothingGranted
nothing_granted book flash ram tags e g =
    gives_nothing flash (read book flash ram tags) (read_is_accepted book flash ram tags e) (read_sound book flash ram tags e).registers.quiet g

-- the book of the single byte 1
module _ (flash ram tags : List ℕ) (fit : sizes_fit (length flash) (length ram) (length tags) ≡ true) where
  accepted : BookAccepted (1 ∷ []) flash ram tags
  unfolding judged check_book walk step_at head_at after_head
  accepted = rw fit

  reads : read (1 ∷ []) flash ram tags ≡ all_zero ram tags
  unfolding enter_all step_at head_at after_head
  reads = read_accepted (1 ∷ []) (length flash) ram tags accepted

none_in_zero : NoneTagged zero_machine
none_in_zero = record { registers = λ i h. ap (λ (c : Cap). c.tag) (same 32 i null); pcc = refl }

pub empty_book : EmptyBook
empty_book flash ram tags fit =
    let e = accepted flash ram tags fit in
    let z = reads flash ram tags fit in
    record {
      accepted = e;
      reads = z;
      nothing = subst (λ (s : Start). GivesNothing flash s s.machine.pcc.offset.0) z
          (nothing_granted (1 ∷ []) flash ram tags e (subst (λ (s : Start). NoneTagged s.machine) (sym z) none_in_zero));
    }
