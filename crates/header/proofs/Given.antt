-- What a machine is that a book gives: every field of its integer type, 32 registers of each sort, no cause. Assumes nothing.
use Rattle.std.specs.Prelude.{Ok, Err, Some, None}
use Prim.Native.Nat.{ℕ, zero, suc, ◌+◌, ◌^◌, ◌<◌}
use mathlib.Core.Path.{◌≡◌, refl, sym, ◌∙◌, subst}
use mathlib.Core.Bool.{Bool, true, false, cond}
use mathlib.Core.List.{List, [], ◌∷◌}
use native.Mathlib.Omega.{arith}
use lib.Dec.{eqb}
use lib.ListN.{length, set, take, drop, length-set, length-replicate}
use lib.Seq.{get_or-drop}
use Rattle.manual.specs.Number.{Bytes}
use Rattle.manual.specs.declared.Cap.{Cap}
use Rattle.manual.specs.Narrow.{null}
use Rattle.manual.specs.declared.Machine.{Machine}
use Rattle.pages.specs.declared.Entry.{Entry}
use Rattle.pages.specs.Entry.{entry_of}
use Rattle.pages.proofs.Entries.{Said, by_kind}
use Rattle.pages.specs.Fields.{cap_of}
use Rattle.pages.specs.Book.{Step, kind_of, key_of, step_at}
use Rattle.pages.proofs.Walks.{more_goes_on}
use Rattle.pages.specs.Entering.{Start, machine_with, entered, enter_all, zero_machine}
use Rattle.reread.specs.Claims.{Sized, Typed}
use Rattle.granted.proofs.Sound.{set_all}
use Rattle.granted.proofs.Read.{same}

pub record Given (m : Machine) : Type 0 where
  pub typed : Typed m
  pub caps : length m.caps ≡ 32
  pub general : length m.general ≡ 32
  pub cause : m.cause ≡ 0

-- what a record says is of its integer types
abbrev Held : Entry → Type 0
Held (Entry.Capability number c) = Sized c
Held (Entry.General number value) = value < 2 ^ 64
Held (Entry.Line address tag) = Unit {0}

taken : (n : ℕ) (l : List ℕ) → Bytes l → Bytes (take n l)
taken zero l h i = omega arith
taken (suc n) [] h i = omega arith
taken (suc n) (x ∷ l) h zero = h zero
taken (suc n) (x ∷ l) h (suc i) = taken n l (λ j. h (suc j)) i

part : (l : List ℕ) (n i : ℕ) → Bytes l → Bytes (take n (drop i l))
part l n i h = taken n (drop i l) (λ j. rw (get_or-drop i l j 0) (h (i + j)))

entry_held : (body : List ℕ) (ram : ℕ) → Bytes body → Said Held (entry_of body ram)
unfolding cap_of
entry_held body ram h =
    by_kind (Said Held) body ram tt tt tt tt
    (λ _ _. record { spare = h 4; base = omega arith; length = omega arith; offset = omega arith })
    (λ _ _. omega arith)
    (λ _ _. tt)

with_capability_lem : (t : Bool) (m : Machine) (number : ℕ) (c : Cap) → Sized c → Given m
    → Given (cond t (record { general = m.general; caps = m.caps; pcc = c; pending = m.pending; cause = m.cause })
    (record { general = m.general; caps = set m.caps number c; pcc = m.pcc; pending = m.pending; cause = m.cause }))
with_capability_lem true m number c s g =
    record { typed = record { caps = g.typed.caps; pcc = s; general = g.typed.general }; caps = g.caps; general = g.general; cause = g.cause }
with_capability_lem false m number c s g =
    record {
      typed = record { caps = set_all Sized m.caps number c null s g.typed.caps; pcc = g.typed.pcc; general = g.typed.general };
      caps = length-set m.caps number c ∙ g.caps;
      general = g.general;
      cause = g.cause;
    }

with_entry : (e : Entry) (m : Machine) → Held e → Given m → Given (machine_with e m)
unfolding machine_with
with_entry (Entry.Capability number c) m s g = with_capability_lem (eqb number 32) m number c s g
with_entry (Entry.General number value) m s g =
    record {
      typed = record { caps = g.typed.caps; pcc = g.typed.pcc; general = set_all (λ (v : ℕ). v < 2 ^ 64) m.general number value 0 s g.typed.general };
      caps = g.caps;
      general = length-set m.general number value ∙ g.general;
      cause = g.cause;
    }
with_entry (Entry.Line address tag) m s g = g

-- one record after the other, over the all-zero machine
pub zero_given : Given zero_machine
zero_given =
    let z : Sized null = record { spare = omega arith; base = omega arith; length = omega arith; offset = omega arith } in
    record {
      typed = record { caps = λ i. subst Sized (sym (same 32 i null)) z; pcc = z; general = λ i. rw (same {A = ℕ} 32 i 0) (omega arith) };
      caps = length-replicate 32 null;
      general = length-replicate {A = ℕ} 32 0;
      cause = refl;
    }

module _ (book : List ℕ) (ram : ℕ) (h : Bytes book) where
  pub all_given : (n at kind key : ℕ) (step : Step) (s : Start) → step ≡ step_at book ram at kind key → Given s.machine → Given (enter_all n book ram step s).machine
  unfolding enter_all
  all_given zero at kind key step s q g = g
  all_given (suc n) at kind key (Ok None) s q g = g
  all_given (suc n) at kind key (Err refusal) s q g = g
  all_given (suc n) at kind key (Ok (Some r)) s q g =
      let x = r.end in
      let e = r.entry in
      let o = more_goes_on book ram at kind key x e q in
      let held : Held e = subst (Said Held) o.says (entry_held (take o.bytes (drop o.start book)) ram (part book o.bytes o.start h)) in
      all_given n x (kind_of e) (key_of e) (step_at book ram x (kind_of e) (key_of e)) (entered book x e s) refl (with_entry e s.machine held g)
