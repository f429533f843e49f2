-- What a plan may ask for: each tagged capability that it makes is narrowed from one that is held, and each access goes through one
-- that is held and has the permission. Assumes nothing.
use Rattle.std.specs.Prelude.{Result, Ok, Err}
use Prim.Native.Nat.{ℕ, ◌+◌, ◌%◌, ◌^◌, ◌≤◌}
use mathlib.Core.Path.{◌≡◌, refl, ap}
use mathlib.Core.Bool.{Bool, true, false, cond, ◌&&◌, ◌||◌}
use native.Mathlib.Omega.{arith}
use borrow.Author.Tests.{eqb-true, leb-true}
use lib.Dec.{eqb, leb}
use lib.IntN.{ℤ, pos, negsuc}
use Rattle.manual.specs.declared.Address.{Address}
use Rattle.manual.specs.declared.Offset.{Offset}
use Rattle.manual.specs.declared.Size.{Size}
use Rattle.manual.specs.Number.{LINE, bytes_in}
use Rattle.manual.specs.declared.Cap.{Cap}
use Rattle.manual.specs.Cap.{permits, LOAD, STORE, LOAD_CAPABILITY, STORE_CAPABILITY}
use Rattle.manual.specs.Narrow.{null, and_perms, inc_base, inc_offset, set_offset, set_length, from_ptr, sealed_by, unsealed_by}
use Rattle.manual.specs.Access as Test
use Rattle.manual.specs.Access.{access_of, placed_at, placed_from, sum_of}
use Rattle.manual.specs.declared.Instr.{Instr}
use Rattle.manual.specs.Decode.{decode_word, is_jump_word}
use Rattle.manual.specs.declared.Fault.{Fault}
use Rattle.manual.specs.declared.Effect.{Effect}
use Rattle.manual.specs.declared.Named.{Named}
use Rattle.manual.specs.Checks.{Checked, ok, fail, guard, fork, settle}
use Rattle.manual.specs.Derive.{is_zero, c_get_pcc, c_and_perm, c_clear_tag, c_inc_base, c_set_len, c_set_offset, c_inc_offset, c_from_ptr}
use Rattle.manual.specs.Seal.{c_seal, c_unseal}
use Rattle.manual.specs.Inspect.{get, c_get_cause, c_set_cause, c_to_ptr, c_check_perm, c_check_type}
use Rattle.manual.specs.Compare.{c_ptr_cmp}
use Rattle.manual.specs.Jump.{c_jr, c_jalr, c_call, c_return}
use Rattle.manual.specs.Branch.{branch, branch_tag, branch_to}
use Rattle.manual.specs.Transfer.{lies, load, store, c_lc, c_sc}
use Rattle.manual.specs.declared.Operands.{Operands}
use Rattle.manual.specs.Plan.{plan_of}
use Rattle.manual.specs.Act.{planned_of}
use Rattle.isolation.specs.Reach.{Spans}
use Rattle.isolation.proofs.Lists.{never}
use Rattle.isolation.proofs.Ranges.{Narrows, same_range, narrows_and, narrows_unseal, narrows_seal, narrows_offset, narrows_base}
use Rattle.manual.specs.declared.Unfit.{Unfit}

-- ---- where an access lies

placed : (b n o size : ℕ) (a : Address) (t u : Bool) → Test.fits b n o size ≡ t → Test.aligned (b + o) size ≡ u
    → cond t (cond u (Ok (record { 0 = b + o })) (Err Unfit.Misaligned)) (Err Unfit.Length) ≡ Ok a
    → (b ≤ a.0) × (a.0 + size ≤ b + n) × (a.0 % size ≡ 0)
placed b n o size a true true p q e = go (leb (o + size) n) refl p
  where
    at : b + o ≡ a.0
    at = let r : ◌≡◌ {A = Address} (record { 0 = b + o }) a = cc in ap (λ (x : Address). x.0) r

    go : (t : Bool) → leb (o + size) n ≡ t → (t && leb (b + o + size) (2 ^ 64)) ≡ true → (b ≤ a.0) × (a.0 + size ≤ b + n) × (a.0 % size ≡ 0)
    go true h k = let l = leb-true (o + size) n h in let x = at in (omega arith, omega arith, rw (← at) (eqb-true ((b + o) % size) 0 q))
    go false h k = never _ k
placed b n o size a true false p q e = never _ cc
placed b n o size a false u p q e = never _ cc

from_sum : (b n size : ℕ) (z : ℤ) (a : Address) → placed_from b n z size ≡ Ok a → (b ≤ a.0) × (a.0 + size ≤ b + n) × (a.0 % size ≡ 0)
unfolding placed_from placed_at
from_sum b n size (pos o) a e = placed b n o size a (Test.fits b n o size) (Test.aligned (b + o) size) refl refl e
from_sum b n size (negsuc k) a e = never _ cc

-- the bytes of an access that passed lie in the capability's range, and are aligned
pub access_spans : (c : Cap) (rt immediate size : ℕ) (a : Address) → access_of c rt immediate size ≡ Ok a → Spans c a.0 size × (a.0 % size ≡ 0)
unfolding access_of
access_spans c rt immediate size a e =
    let r = from_sum c.base.0 c.length size (sum_of c.offset.0 rt immediate) a e in
    (record { low = r.0; high = r.1 }, r.2)

-- ---- a check that passed is a fact for what follows

module _ (P : Effect → Type 0) where
  abbrev pub Good : Checked → Type 0
  Good (ok effect) = P effect
  Good (fail fault) = Unit {0}
  Good (guard holds fault rest) = holds ≡ true → Good rest
  Good (fork test one other) = (test ≡ true → Good one) × (test ≡ false → Good other)

  abbrev pub Passes : Result Effect Fault → Type 0
  Passes (Ok effect) = P effect
  Passes (Err fault) = Unit {0}

  passes_if : (b : Bool) (x y : Result Effect Fault) → (b ≡ true → Passes x) → (b ≡ false → Passes y) → Passes (cond b x y)
  passes_if true x y h k = h refl
  passes_if false x y h k = k refl

  pub settles : (c : Checked) → Good c → Passes (settle c)
  unfolding settle
  settles (ok effect) g = g
  settles (fail fault) g = tt
  settles (guard holds fault rest) g = passes_if holds (settle rest) (Err fault) (λ e. settles rest (g e)) (λ e. tt)
  settles (fork test one other) g = passes_if test (settle one) (settle other) (λ e. settles one (g.0 e)) (λ e. settles other (g.1 e))

  lies_good : (x : Result Address Unfit) (register : ℕ) (fault : Fault) (effect : Address → Effect)
      → ((a : Address) → x ≡ Ok a → P (effect a)) → Good (lies (Test.placed x register fault) effect)
  lies_good (Ok a) register fault effect h = h a refl
  lies_good (Err Unfit.Length) register fault effect h = tt
  lies_good (Err Unfit.Misaligned) register fault effect h = tt

module _ (Holds : Cap → Type 0) where
  -- c is narrowed from a tagged capability that is held
  pub record From (c : Cap) : Type 0 where
    pub by : Cap
    pub held : Holds by
    pub tagged : by.tag ≡ true
    pub narrows : Narrows c by

  abbrev pub Made : Cap → Type 0
  Made c = c.tag ≡ true → From c

  -- so many bytes lie in the range of a tagged capability that is held and has the permission
  pub record Through (permission address bytes : ℕ) : Type 0 where
    pub by : Cap
    pub held : Holds by
    pub tagged : by.tag ≡ true
    pub may : permits by permission ≡ true
    pub spans : Spans by address bytes
    pub aligned : address % bytes ≡ 0

  abbrev pub Allowed : Effect → Type 0
  Allowed Effect.Nothing = Unit {0}
  Allowed (Effect.General rd value) = Unit {0}
  Allowed (Effect.Capability cd c) = Made c
  Allowed (Effect.Cause n) = Unit {0}
  Allowed (Effect.Jump target) = Made target
  Allowed (Effect.Link cd link target) = Made link × Made target
  Allowed (Effect.Load size signed a rd) = Through LOAD a.0 (bytes_in size)
  Allowed (Effect.Store size a v) = Through STORE a.0 (bytes_in size)
  Allowed (Effect.LoadCapability a cd) = Through LOAD_CAPABILITY a.0 LINE
  Allowed (Effect.StoreCapability a c) = Through STORE_CAPABILITY a.0 LINE × Made c

  made : {c : Cap} (d : Cap) → Holds d → (c.tag ≡ true → d.tag ≡ true) → Narrows c d → Made c
  made d h t n e = record { by = d; held = h; tagged = t e; narrows = n }

  itself : (c : Cap) → Holds c → Made c
  itself c h = made c h (λ t. t) (same_range c c refl refl refl)

  at_offset : (c : Cap) (o : Offset) → Holds c → Made (set_offset c o)
  at_offset c o h = made c h (λ t. t) (same_range (set_offset c o) c refl refl refl)

  further : (c : Cap) (by : ℕ) → Holds c → by ≤ c.length → Made (inc_base c by)
  unfolding inc_base
  further c by h l = made c h (λ t. t) (narrows_base c by l)

  from_pointer : (c : Cap) (pointer : ℕ) → Holds c → (is_zero pointer || leb pointer c.length) ≡ true → Made (from_ptr c pointer)
  unfolding from_ptr
  from_pointer c pointer h l = go (eqb pointer 0) l
    where
      go : (t : Bool) → (t || leb pointer c.length) ≡ true → Made (cond t null (inc_base c pointer))
      go true l = λ e. never _ e
      go false l = further c pointer h (leb-true pointer c.length l)

  moved : (c : Cap) (by : ℕ) → Holds c → Made (inc_offset c by)
  unfolding inc_offset
  moved c by h = made c h (λ t. t) (narrows_offset c by)

  masked : (c : Cap) (mask : ℕ) → Holds c → Made (and_perms c mask)
  unfolding and_perms
  masked c mask h = made c h (λ t. t) (narrows_and c mask)

  sealed : (c by : Cap) → Holds c → Made (sealed_by c by)
  unfolding sealed_by
  sealed c by h = made c h (λ t. t) (narrows_seal c by)

  unsealed : (c by : Cap) → Holds c → Made (unsealed_by c by)
  unfolding unsealed_by
  unsealed c by h = made c h (λ t. t) (narrows_unseal c by)

  shorter : (c : Cap) (n : ℕ) → Holds c → n ≤ c.length → Made (set_length c n)
  shorter c n h l = made c h (λ t. t) (record { inside = λ f. record { bytes = λ a h. omega arith; permissions = λ k h. h }; fits = λ f. omega arith })

  branched : (pcc : Cap) (words : ℕ) → Holds pcc → Made (branch_to pcc words)
  unfolding branch_to
  branched pcc words h = at_offset pcc _ h

  -- an access through a held capability, after the four checks that each begins with
  reached : (c : Cap) (permission rt immediate size : ℕ) (a : Address) → Holds c → c.tag ≡ true → permits c permission ≡ true
      → access_of c rt immediate size ≡ Ok a → Through permission a.0 size
  reached c permission rt immediate size a h t p e =
      let r = access_spans c rt immediate size a e in
      record { by = c; held = h; tagged = t; may = p; spans = r.0; aligned = r.1 }

  load_good : (size : Size) (signed : Bool) (x : ℕ) (pcc : Cap) (rd : ℕ) (cb : Named) (rt : ℕ) → Holds cb.cap → Good Allowed (load size signed x pcc rd cb rt)
  unfolding load
  load_good size signed x pcc rd cb rt h = λ _ t _ p.
      lies_good Allowed (access_of cb.cap rt x (bytes_in size)) _ _ _ λ a e. reached cb.cap LOAD rt x (bytes_in size) a h t p e

  store_good : (size : Size) (x : ℕ) (pcc : Cap) (rs : ℕ) (cb : Named) (rt : ℕ) → Holds cb.cap → Good Allowed (store size x pcc rs cb rt)
  unfolding store
  store_good size x pcc rs cb rt h = λ _ t _ p.
      lies_good Allowed (access_of cb.cap rt x (bytes_in size)) _ _ _ λ a e. reached cb.cap STORE rt x (bytes_in size) a h t p e

  -- the registers that a word names are held
  pub record Given (o : Operands) : Type 0 where
    pub c25 : Holds o.c25.cap
    pub c20 : Holds o.c20.cap
    pub c15 : Holds o.c15.cap
    pub c10 : Holds o.c10.cap
    pub c0 : Holds o.c0.cap
    pub pcc : Holds o.pcc

  plan_good : (o : Operands) → Given o → (i : Instr) → Good Allowed (plan_of o i)
  unfolding plan_of branch branch_tag c_jr c_jalr c_call c_return c_lc c_sc get c_get_pcc c_get_cause c_set_cause c_and_perm c_clear_tag c_inc_base c_set_len c_set_offset c_inc_offset c_from_ptr c_to_ptr c_seal c_unseal c_check_perm c_check_type c_ptr_cmp
  plan_good o g Instr.Reserved = tt
  plan_good o g Instr.Nop = tt
  plan_good o g Instr.Break = tt
  plan_good o g (Instr.Compute op) = tt
  plan_good o g (Instr.ComputeImmediate op x) = tt
  plan_good o g (Instr.Lui x) = tt
  plan_good o g (Instr.Branch equal x) = (λ _. branched o.pcc x g.pcc, λ _. tt)
  plan_good o g (Instr.Load size signed x) = load_good size signed x _ _ o.c20 _ g.c20
  plan_good o g (Instr.Store size x) = store_good size x _ _ o.c20 _ g.c20
  plan_good o g (Instr.LoadByC0 size x) = load_good size false x _ _ o.c0 _ g.c0
  plan_good o g (Instr.StoreByC0 size x) = store_good size x _ _ o.c0 _ g.c0
  plan_good o g (Instr.LoadCapability x) = λ _ _ t _ p.
      lies_good Allowed (access_of o.c20.cap o.g15 x LINE) _ _ _ λ a e. reached o.c20.cap LOAD_CAPABILITY o.g15 x LINE a g.c20 t p e
  plan_good o g (Instr.StoreCapability x) = λ _ _ t _ p _.
      lies_good Allowed (access_of o.c20.cap o.g15 x LINE) _ _ _ λ a e.
      (reached o.c20.cap STORE_CAPABILITY o.g15 x LINE a g.c20 t p e, itself o.c25.cap g.c25)
  plan_good o g (Instr.Get field) = λ _. tt
  plan_good o g Instr.GetPcc = λ _. itself o.pcc g.pcc
  plan_good o g Instr.GetCause = λ _. tt
  plan_good o g Instr.SetCause = λ _. tt
  plan_good o g Instr.AndPerm = λ _ _ _ _. masked o.c15.cap o.g10 g.c15
  plan_good o g Instr.ClearTag = λ _ _ t. never _ t
  plan_good o g Instr.IncBase = λ _ _ _ _ l. further o.c15.cap o.g10 g.c15 (leb-true o.g10 o.c15.cap.length l)
  plan_good o g Instr.SetLength = λ _ _ _ _ l. shorter o.c15.cap o.g10 g.c15 (leb-true o.g10 o.c15.cap.length l)
  plan_good o g Instr.SetOffset = λ _ _ _. at_offset o.c15.cap _ g.c15
  plan_good o g Instr.IncOffset = λ _ _ _. moved o.c15.cap o.g10 g.c15
  plan_good o g Instr.FromPtr = λ _ _ _ _ l. from_pointer o.c15.cap o.g10 g.c15 l
  plan_good o g Instr.ToPtr = λ _ _ _. tt
  plan_good o g Instr.Seal = λ _ _ _ _ _ _ _ _ _ _. sealed o.c15.cap o.c10.cap g.c15
  plan_good o g Instr.Unseal = λ _ _ _ _ _ _ _ _ _ _. unsealed o.c15.cap o.c10.cap g.c15
  plan_good o g Instr.CheckPerm = λ _ _ _. tt
  plan_good o g Instr.CheckType = λ _ _ _ _ _ _ _. tt
  plan_good o g Instr.Jr = λ _ _ _ _ _ _ _. itself o.c20.cap g.c20
  plan_good o g Instr.Jalr = λ _ _ _ _ _ _ _ _. (moved o.pcc 8 g.pcc, itself o.c15.cap g.c15)
  plan_good o g (Instr.BranchTag set x) = λ _. (λ _ _. branched o.pcc x g.pcc, λ _. tt)
  plan_good o g Instr.Call = tt
  plan_good o g Instr.Return = tt
  plan_good o g (Instr.PtrCompare kind) = λ _ _. tt

  -- whatever was fetched
  pub planned_good : (o : Operands) → Given o → (slot : Bool) (fetched : Result ℕ Fault) → Passes Allowed (planned_of o slot fetched)
  unfolding planned_of
  planned_good o g slot (Err fault) = tt
  planned_good o g slot (Ok w) =
      passes_if Allowed (slot && is_jump_word w) (Err Fault.Pending) (settle (plan_of o (decode_word w)))
      (λ _. tt) (λ _. settles Allowed (plan_of o (decode_word w)) (plan_good o g (decode_word w)))
