-- The theorems: what is out of reach has no influence, reach does not grow, and nothing out of reach is written. Assumes nothing.
use Rattle.std.specs.Prelude.{Result, Ok, Err}
use Prim.Native.Nat.{ℕ, zero, suc, ◌+◌}
use mathlib.Core.Path.{◌≡◌, refl, sym, ap, subst, ◌∙◌}
use mathlib.Core.Bool.{true}
use native.Mathlib.Omega.{arith}
use Rattle.manual.specs.declared.Cap.{Cap}
use Rattle.manual.specs.Cap.{LOAD_CAPABILITY}
use Rattle.manual.specs.declared.Machine.{Machine}
use Rattle.manual.specs.State.{commit, stopped_at}
use Rattle.manual.specs.Steps.{Ran, turn_at, run_from}
use Rattle.manual.specs.Run.{judged, run_of}
use Rattle.isolation.specs.Reach.{Memories, Held, in_register, in_pcc, in_pending, Reach, held, line, CanLoad}
use Rattle.isolation.specs.Agree.{Agree, Alike, Under, Kept, left}
use Rattle.isolation.specs.Claims.{ran, Accepted, Confined, SameReach, NoGrowth, NothingOutside}
use Rattle.isolation.proofs.Ranges.{inside_refl, inside_span}
use Rattle.isolation.proofs.Keeps.{Safely, Inv, held_safe, Fine, stepped, turn_fine, kept_refl, kept_trans}
use Rattle.isolation.proofs.Agrees.{line_same, step_same, step_agree}
use Rattle.isolation.proofs.Starts.{held_fits, line_fits_lem}
use Rattle.manual.specs.declared.Fault.{Fault}
use Rattle.manual.specs.declared.Change.{Change}

-- an accepted start goes on to its steps
run_is : (budget : ℕ) (m : Machine) (x : Memories) → Accepted m x → ran budget m x ≡ run_from budget 0 x.flash m x.ram x.tags
unfolding run_of
run_is budget m x a = ap (judged budget x.flash m x.ram x.tags) a

module _ (Member : Cap → Type 0) where
  -- ---- one run

  -- after a run: the invariant, and what no member could write is as it was
  pub record After (x : Memories) (r : Ran) : Type 0 where
    pub inv : Inv Member r.outcome.machine (left x r)
    pub kept : Kept Member x (left x r)

  cause_inv : {m : Machine} {x : Memories} (cause : ℕ) → Inv Member m x
      → Inv Member (record { general = m.general; caps = m.caps; pcc = m.pcc; pending = m.pending; cause = cause }) x
  cause_inv cause v = record { registers = v.registers; pcc = v.pcc; pending = v.pending; lines = v.lines }

  turned : (k n : ℕ) (m : Machine) (x : Memories) (t : Result Change Fault)
      → ((m' : Machine) (x' : Memories) → Inv Member m' x' → After x' (run_from k (n + 1) x'.flash m' x'.ram x'.tags))
      → Inv Member m x → Fine Member m x t (stepped m x)
      → After x (elim t [
        | Ok d ↦ run_from k (n + 1) x.flash (commit m d) (stepped m x).ram (stepped m x).tags
        | Err fault ↦ record { outcome = stopped_at fault n m; ram = x.ram; tags = x.tags }
      ])
  unfolding stopped_at
  turned k n m x (Ok d) on v f =
      let a = on (commit m d) (stepped m x) f.0 in
      record { inv = a.inv; kept = kept_trans Member f.1 a.kept }
  turned k n m x (Err fault) on v f = record { inv = cause_inv _ v; kept = kept_refl Member x }

  run_fine : (k n : ℕ) (m : Machine) (x : Memories) → Inv Member m x → After x (run_from k n x.flash m x.ram x.tags)
  unfolding run_from
  run_fine zero n m x v = record { inv = v; kept = kept_refl Member x }
  run_fine (suc k) n m x v = turned k n m x (turn_at x.flash m x.ram x.tags) (run_fine k (n + 1)) v (turn_fine Member m x v)

  -- ---- two runs

  both : (k n : ℕ) (m : Machine) (x y : Memories) (t : Result Change Fault)
      → ((m' : Machine) (x' y' : Memories) → Inv Member m' x' → Agree Member x' y'
      → Alike Member x' (run_from k (n + 1) x'.flash m' x'.ram x'.tags) y' (run_from k (n + 1) y'.flash m' y'.ram y'.tags))
      → Agree Member x y → Agree Member (stepped m x) (stepped m y) → Fine Member m x t (stepped m x)
      → Alike Member x
      (elim t [
        | Ok d ↦ run_from k (n + 1) x.flash (commit m d) (stepped m x).ram (stepped m x).tags
        | Err fault ↦ record { outcome = stopped_at fault n m; ram = x.ram; tags = x.tags }
      ])
      y
      (elim t [
        | Ok d ↦ run_from k (n + 1) y.flash (commit m d) (stepped m y).ram (stepped m y).tags
        | Err fault ↦ record { outcome = stopped_at fault n m; ram = y.ram; tags = y.tags }
      ])
  both k n m x y (Ok d) on g h f = let a = on (commit m d) (stepped m x) (stepped m y) f.0 h in record { outcome = a.outcome; memories = a.memories }
  both k n m x y (Err fault) on g h f = record { outcome = refl; memories = g }

  run_same : (k n : ℕ) (m : Machine) (x y : Memories) → Inv Member m x → Agree Member x y
      → Alike Member x (run_from k n x.flash m x.ram x.tags) y (run_from k n y.flash m y.ram y.tags)
  unfolding run_from
  run_same zero n m x y v g = record { outcome = refl; memories = g }
  run_same (suc k) n m x y v g =
      rw (← step_same Member g m v, run_from)
      (both k n m x y (turn_at x.flash m x.ram x.tags) (run_same k (n + 1)) g (step_agree Member g m v) (turn_fine Member m x v))

  -- ---- reach under the invariant

  reach_under : {m : Machine} {x : Memories} {c : Cap} → Inv Member m x → Reach m x c → Under Member c
  reach_under v (held h t) = (held_safe Member v h t).under
  reach_under v (line i d l s t e) =
      let u = reach_under v d in
      subst (Under Member) e
      (v.lines i (record { by = u.by; member = u.member; loads = u.inside.permissions LOAD_CAPABILITY l; spans = inside_span u.inside (omega arith) s }) t).under

-- the invariant holds at the start
start : (m : Machine) (x : Memories) → Accepted m x → Inv (Reach m x) m x
start m x a = record {
  registers = λ i l t. holds (in_register i l refl) t;
  pcc = λ t. holds (in_pcc refl) t;
  pending = λ c e t. holds (in_pending e) t;
  lines = λ i c t. record {
    under = record { by = _; member = line i c.member c.loads c.spans t refl; inside = inside_refl };
    fits = line_fits_lem m x a i t;
  };
}
  where
    holds : {c : Cap} → Held m c → c.tag ≡ true → Safely (Reach m x) c
    holds {c} h t = record { under = record { by = c; member = held h t; inside = inside_refl }; fits = held_fits m x a c h t }

-- ---- the reach of two starts that agree

one_way : {m : Machine} {x y : Memories} {c : Cap} → Agree (Reach m x) x y → Reach m x c → Reach m y c
one_way g (held h t) = held h t
one_way {m} {x} {y} g (line i d l s t e) =
    let c : CanLoad (Reach m x) i = record { by = _; member = d; loads = l; spans = s } in
    line i (one_way g d) l s (sym (g.tags i c) ∙ t) (sym (line_same (Reach m x) g i c) ∙ e)

other_way : {m : Machine} {x y : Memories} {c : Cap} → Agree (Reach m x) x y → Reach m y c → Reach m x c
other_way g (held h t) = held h t
other_way {m} {x} {y} g (line i d l s t e) =
    let d' = other_way g d in
    let c : CanLoad (Reach m x) i = record { by = _; member = d'; loads = l; spans = s } in
    line i d' l s (g.tags i c ∙ t) (line_same (Reach m x) g i c ∙ e)

-- ---- the claims

pub confined : Confined
confined budget m x y a b g =
    rw (run_is budget m x a, run_is budget m y b) (run_same (Reach m x) budget 0 m x y (start m x a) g)

pub same_reach : SameReach
same_reach m x y g c = (one_way g, other_way g)

pub no_growth : NoGrowth
no_growth budget m x a c r = reach_under (Reach m x) (run_fine (Reach m x) budget 0 m x (start m x a)).inv (rw (run_is budget m x a) at r)

pub nothing_outside : NothingOutside
nothing_outside budget m x a = rw (run_is budget m x a) (run_fine (Reach m x) budget 0 m x (start m x a)).kept
