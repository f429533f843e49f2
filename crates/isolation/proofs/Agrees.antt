-- Two memories that agree wherever a member can read or load: the same step of both, after which they agree again. Assumes nothing.
use Rattle.std.specs.Prelude.{Result, Ok, Err}
use Prim.Native.Nat.{ℕ, ◌+◌, ◌*◌, ◌/◌, ◌%◌, ◌<◌}
use mathlib.Core.Path.{◌≡◌, refl, sym, ap, ap₂, subst, ◌∙◌}
use mathlib.Core.Bool.{Bool, true, false, not}
use mathlib.Core.List.{List}
use native.Mathlib.Omega.{arith}
use lib.ListN.{length, take, drop}
use Rattle.manual.specs.declared.Address.{Address}
use Rattle.manual.specs.declared.Place.{Place}
use Rattle.manual.specs.declared.Place.TheVariants.{Flash, Ram, Nowhere}
use Rattle.manual.specs.Number.{LINE, bytes_in, to_be}
use Rattle.manual.specs.Place.{RAM_BASE, place_of, part_of, bytes_of, number_of, place_in}
use Rattle.manual.specs.Store.{tag_at, answer_at, ram_after, tags_after}
use Rattle.manual.proofs.Stores.{length-put, length_with_tag}
use Rattle.manual.specs.declared.Cap.{Cap}
use Rattle.manual.specs.Cap.{permits, EXECUTE, LOAD_CAPABILITY}
use Rattle.manual.specs.Line.{encode, decode, cap_in, load_cap}
use Rattle.manual.specs.Access.{access_of, placed}
use Rattle.manual.specs.declared.Effect.{Effect}
use Rattle.manual.specs.declared.Operands.{Operands}
use Rattle.manual.specs.Perform.{loaded_turn, stored_turn, cap_turn, turn_of, ram_of, tags_of}
use Rattle.manual.specs.Act.{planned_of, done_turn, done_ram, done_tags}
use Rattle.manual.specs.Checks.{NO_REGISTER}
use Rattle.manual.specs.Fetch.{word_in, fetch_at, must, fetch_of, word_of}
use Rattle.manual.specs.Registers.{is_pending}
use Rattle.manual.specs.declared.Machine.{Machine}
use Rattle.manual.specs.State.{operands_of}
use Rattle.manual.specs.Steps.{turn_at, ram_at, tags_at}
use Rattle.isolation.specs.Reach.{Memories, line_cap, Held, in_pcc, Reads, by_load, by_load_capability, by_execute, CanRead, CanLoad}
use Rattle.isolation.specs.Agree.{Agree}
use Rattle.isolation.proofs.Ranges.{covers_span}
use Rattle.isolation.proofs.Lists.{part_eq, put_same, tag_same}
use Rattle.isolation.proofs.Plans.{Allowed, Passes, planned_good, access_spans}
use Rattle.isolation.proofs.Keeps.{At, at_flash, at_ram, at_none, where_is, size_pos, Inv, Via, via, via_line, given, stepped}
use Rattle.manual.specs.declared.Fault.{Fault}
use Rattle.manual.specs.declared.Unfit.{Unfit}

module _ (Member : Cap → Type 0) where
  via_read : {p a n : ℕ} → ((c : Cap) → permits c p ≡ true → Reads c) → Via Member p a n → (i : ℕ) → i < n → CanRead Member (a + i)
  via_read f t i h = record { by = t.by; member = t.member; reads = f t.by t.may; covers = covers_span t.spans i h }

  module _ {x y : Memories} (g : Agree Member x y) where
    place_same : (a : Address) (n : ℕ) → place_in y.flash y.ram a n ≡ place_in x.flash x.ram a n
    place_same a n = ap₂ (λ f r. place_of f r a n) (sym g.flash_size) (sym g.ram_size)

    -- the bytes that a member can read are the same in both
    ram_part : {a : ℕ} (i n : ℕ) → a ≡ RAM_BASE + i → ((j : ℕ) → j < n → CanRead Member (a + j)) → take n (drop i x.ram) ≡ take n (drop i y.ram)
    ram_part i n e c = part_eq x.ram y.ram i n g.ram_size (λ j h. g.ram (i + j) (subst (CanRead Member) (omega arith) (c j h)))

    part_same : {a n : ℕ} {q : Place} → At (length x.flash) (length x.ram) a n q → ((j : ℕ) → j < n → CanRead Member (a + j))
        → part_of x.flash x.ram q n ≡ part_of y.flash y.ram q n
    part_same {a} {n} (at_flash h) c = part_eq x.flash y.flash a n g.flash_size (λ j h. g.flash (a + j) (c j h))
    part_same {a} {n} (at_ram i e h) c = ram_part i n e c
    part_same at_none c = refl

    bytes_same : (a : Address) (n : ℕ) → ((j : ℕ) → j < n → CanRead Member (a.0 + j)) → bytes_of x.flash x.ram a n ≡ bytes_of y.flash y.ram a n
    unfolding bytes_of
    bytes_same a n c =
        part_same (where_is (length x.flash) (length x.ram) a n) c
        ∙ ap (λ q. part_of y.flash y.ram q n) (sym (place_same a n))

    -- the tag and the capability of a line that a member can load
    pub line_same : (i : ℕ) → CanLoad Member i → line_cap x i ≡ line_cap y i
    unfolding line_cap
    line_same i c =
        ap₂ decode (g.tags i c)
        (ram_part (i * LINE) LINE refl (λ j h. record { by = c.by; member = c.member; reads = by_load_capability c.loads; covers = covers_span c.spans j h }))

    tag_at_same : {a : ℕ} {q : Place} → At (length x.flash) (length x.ram) a LINE q → a % LINE ≡ 0 → Via Member LOAD_CAPABILITY a LINE → tag_at x.tags q ≡ tag_at y.tags q
    tag_at_same (at_flash h) al t = refl
    tag_at_same (at_ram i e h) al t = g.tags (i / LINE) (via_line Member i e al t)
    tag_at_same at_none al t = refl

    cap_same : (a : Address) → a.0 % LINE ≡ 0 → Via Member LOAD_CAPABILITY a.0 LINE → load_cap x.flash x.ram x.tags a ≡ load_cap y.flash y.ram y.tags a
    unfolding load_cap
    cap_same a al t =
        ap₂ cap_in
        (tag_at_same (where_is (length x.flash) (length x.ram) a LINE) al t ∙ ap (tag_at y.tags) (sym (place_same a LINE)))
        (bytes_same a LINE (via_read (λ c. by_load_capability) t))

    -- ---- the word fetched

    fetch_at_lem : (z : Result Address Unfit) → ((a : Address) → z ≡ Ok a → (j : ℕ) → j < 4 → CanRead Member (a.0 + j)) → fetch_at x.flash x.ram (placed z NO_REGISTER Fault.Misaligned) ≡ fetch_at y.flash y.ram (placed z NO_REGISTER Fault.Misaligned)
    fetch_at_lem (Ok a) c = ap (λ b. word_in (number_of 4 b)) (bytes_same a 4 (c a refl))
    fetch_at_lem (Err Unfit.Length) c = refl
    fetch_at_lem (Err Unfit.Misaligned) c = refl

    must_same : (b : Bool) (cause : ℕ) (f f' : Result ℕ Fault) → (b ≡ true → f ≡ f') → must b cause f ≡ must b cause f'
    must_same true cause f f' h = h refl
    must_same false cause f f' h = refl

    pub fetch_same : (m : Machine) → Inv Member m x → fetch_of x.flash x.ram m.pcc ≡ fetch_of y.flash y.ram m.pcc
    unfolding fetch_of
    fetch_same m v =
        must_same m.pcc.tag _ _ _ λ t. must_same (not m.pcc.sealed) _ _ _ λ s. must_same (permits m.pcc EXECUTE) _ _ _ λ p.
        fetch_at_lem (access_of m.pcc 0 0 4) λ a e.
        let r = access_spans m.pcc 0 0 4 a e in
        via_read (λ c. by_execute) (via Member (omega arith) v (record { by = m.pcc; held = in_pcc refl; tagged = t; may = p; spans = r.0; aligned = r.1 }))

    -- ---- an effect carried out in both

    turn_same : (m : Machine) (c0 : Cap) (cause : ℕ) (e : Effect) → Inv Member m x → Allowed (Held m) e
        → turn_of c0 cause x.flash x.ram x.tags e ≡ turn_of c0 cause y.flash y.ram y.tags e
    unfolding turn_of
    turn_same m c0 cause Effect.Nothing v ok = refl
    turn_same m c0 cause (Effect.General rd value) v ok = refl
    turn_same m c0 cause (Effect.Capability cd c) v ok = refl
    turn_same m c0 cause (Effect.Cause n) v ok = refl
    turn_same m c0 cause (Effect.Jump c) v ok = refl
    turn_same m c0 cause (Effect.Link cd link c) v ok = refl
    turn_same m c0 cause (Effect.Load size signed a rd) v ok =
        ap (λ b. loaded_turn c0 cause signed size rd (number_of (bytes_in size) b))
        (bytes_same a (bytes_in size) (via_read (λ c. by_load) (via Member (size_pos size) v ok)))
    turn_same m c0 cause (Effect.Store size a n) v ok = ap (λ q. stored_turn c0 cause (answer_at q)) (sym (place_same a (bytes_in size)))
    turn_same m c0 cause (Effect.LoadCapability a cd) v ok = ap (cap_turn cause cd) (cap_same a ok.aligned (via Member (omega arith) v ok))
    turn_same m c0 cause (Effect.StoreCapability a c) v ok = ap (λ q. stored_turn c0 cause (answer_at q)) (sym (place_same a LINE))

    -- the same bytes and tag written in both
    write_agree : (q : Place) (bytes : List ℕ) (tag : Bool)
        → Agree Member (record { flash = x.flash; ram = ram_after q x.ram bytes; tags = tags_after q x.tags tag })
        (record { flash = y.flash; ram = ram_after q y.ram bytes; tags = tags_after q y.tags tag })
    write_agree (Flash i) bytes tag = g
    write_agree (Ram i) bytes tag = record {
      flash_size = g.flash_size;
      ram_size = length-put x.ram i bytes ∙ g.ram_size ∙ sym (length-put y.ram i bytes);
      tags_size = length_with_tag x.tags (i / LINE) tag ∙ g.tags_size ∙ sym (length_with_tag y.tags (i / LINE) tag);
      flash = g.flash;
      ram = λ j c. put_same x.ram y.ram i j bytes g.ram_size (g.ram j c);
      tags = λ j c. tag_same x.tags y.tags (i / LINE) j tag g.tags_size (g.tags j c);
    }
    write_agree Nowhere bytes tag = g

    effect_agree : (e : Effect) → Agree Member (record { flash = x.flash; ram = ram_of x.flash x.ram e; tags = tags_of x.flash x.ram x.tags e })
        (record { flash = y.flash; ram = ram_of y.flash y.ram e; tags = tags_of y.flash y.ram y.tags e })
    unfolding ram_of tags_of
    effect_agree Effect.Nothing = g
    effect_agree (Effect.General rd value) = g
    effect_agree (Effect.Capability cd c) = g
    effect_agree (Effect.Cause n) = g
    effect_agree (Effect.Jump c) = g
    effect_agree (Effect.Link cd link c) = g
    effect_agree (Effect.Load size signed a rd) = g
    effect_agree (Effect.Store size a n) = rw (place_same a (bytes_in size)) (write_agree (place_in x.flash x.ram a (bytes_in size)) (to_be (bytes_in size) n) false)
    effect_agree (Effect.LoadCapability a cd) = g
    effect_agree (Effect.StoreCapability a c) = rw (place_same a LINE) (write_agree (place_in x.flash x.ram a LINE) (encode c) c.tag)

    -- ---- a step of both

    done_same : (m : Machine) (o : Operands) (p : Result Effect Fault) → Inv Member m x → Passes (Allowed (Held m)) p
        → done_turn o x.flash x.ram x.tags p ≡ done_turn o y.flash y.ram y.tags p
    done_same m o (Err fault) v ok = refl
    done_same m o (Ok e) v ok = turn_same m o.c0.cap o.cause e v ok

    done_agree : (p : Result Effect Fault) → Agree Member (record { flash = x.flash; ram = done_ram x.flash x.ram p; tags = done_tags x.flash x.ram x.tags p })
        (record { flash = y.flash; ram = done_ram y.flash y.ram p; tags = done_tags y.flash y.ram y.tags p })
    done_agree (Err fault) = g
    done_agree (Ok e) = effect_agree e

    pub step_same : (m : Machine) → Inv Member m x → turn_at x.flash m x.ram x.tags ≡ turn_at y.flash m y.ram y.tags
    unfolding turn_at
    step_same m v =
        let f = fetch_of x.flash x.ram m.pcc in
        let o = operands_of m (word_of f) in
        rw (← fetch_same m v)
        (done_same m o (planned_of o (is_pending m.pending) f) v (planned_good (Held m) o (given m (word_of f)) (is_pending m.pending) f))

    pub step_agree : (m : Machine) → Inv Member m x → Agree Member (stepped m x) (stepped m y)
    unfolding ram_at tags_at
    step_agree m v =
        let f = fetch_of x.flash x.ram m.pcc in
        rw (← fetch_same m v) (done_agree (planned_of (operands_of m (word_of f)) (is_pending m.pending) f))
