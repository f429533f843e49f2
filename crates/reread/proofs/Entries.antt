-- The entry of each kind of body. Assumes nothing.
use Rattle.std.specs.Prelude.{Ok}
use Prim.Native.Nat.{ℕ, ◌/◌, ◌%◌, ◌^◌, ◌≤◌, ◌<◌}
use mathlib.Core.Path.{◌≡◌}
use mathlib.Core.Bool.{Bool, true, false}
use mathlib.Core.List.{List, [], ◌∷◌}
use native.Mathlib.Omega.{arith}
use lib.Dec.{eqb, leb, ltb}
use lib.ListN.{length, take, drop, length-append}
use lib.Seq.{drop_at, take_all}
use borrow.Author.Tests.{le-leb, lt-ltb}
use Rattle.manual.specs.Store.{bit}
use Rattle.manual.specs.declared.Cap.{Cap}
use Rattle.manual.specs.Line.{cap_in}
use Rattle.manual.specs.Accept.{top_fits, loaded_fits}
use Rattle.pages.specs.declared.Entry.{Entry}
use Rattle.pages.specs.Record.{byte, number}
use Rattle.pages.specs.Entry.{is_line, general_of, line_of, entry_of}
use Rattle.pages.specs.Fields.{cap_of, capability_of}
use Rattle.pages.specs.Compose.{fields, cap_body, general_body, line_body}
use Rattle.pages.proofs.Fields.{length_fields}
use Rattle.reread.specs.Records.{CapIsRead, GeneralIsRead, LineIsRead}
use Rattle.reread.proofs.Found.{found, field_at, byte_at, field_of, first_of, byte_of}

-- kind 2
general_entry : (body : List ℕ) (k v ram : ℕ) → length body ≡ 10 → byte body 0 ≡ 2 → byte body 1 ≡ k → 1 ≤ k → k ≤ 31 → number body 2 8 ≡ v → entry_of body ram ≡ Ok (Entry.General k v)
unfolding entry_of general_of
general_entry body k v ram l b₀ b₁ h h' e = rw (l, b₀, b₁, le-leb 1 k h, le-leb k 31 h', e)

pub general_is_read : GeneralIsRead
unfolding general_body
general_is_read k v ram h h' w =
    let l : length (general_body k v) ≡ 10 = length_fields ((1, 2) ∷ (1, k) ∷ (8, v) ∷ []) in
    found (general_body k v) ram (Entry.General k v) (omega (arith, l)) (omega (arith, l))
    (general_entry (general_body k v) k v ram l
    (byte_of [] ((1, k) ∷ (8, v) ∷ []) 2 (omega arith))
    (byte_of ((1, 2) ∷ []) ((8, v) ∷ []) k (omega arith))
    h h'
    (field_of ((1, 2) ∷ (1, k) ∷ []) [] 8 v (omega arith) w))

-- a flag in a byte
flag_lt : (b : Bool) → bit b < 256
flag_lt true = omega arith
flag_lt false = omega arith

flag_le : (x : ℕ) (b : Bool) → x ≡ bit b → leb x 1 ≡ true
flag_le x true e = rw e
flag_le x false e = rw e

flag_back : (x : ℕ) (b : Bool) → x ≡ bit b → eqb x 1 ≡ b
flag_back x true e = rw e
flag_back x false e = rw e

-- kind 1
cap_of_lem : (body : List ℕ) (c : Cap) → number body 12 8 ≡ c.base.0 → number body 20 8 ≡ c.length → number body 28 8 ≡ c.offset.0 → number body 8 4 % 2 ^ 31 ≡ c.perms
    → number body 5 3 % 2 ^ 24 ≡ c.otype → byte body 4 ≡ c.spare → eqb (byte body 2) 1 ≡ c.tag → eqb (byte body 3) 1 ≡ c.sealed → cap_of body ≡ c
unfolding cap_of
cap_of_lem body c base length offset perms otype spare tag sealed =
    λ i. record {
      base = record { 0 = base i };
      length = length i;
      offset = record { 0 = offset i };
      perms = perms i;
      otype = otype i;
      spare = spare i;
      tag = tag i;
      sealed = sealed i;
    }

cap_entry : (body : List ℕ) (k : ℕ) (c : Cap) (ram : ℕ) → length body ≡ 36 → byte body 0 ≡ 1 → byte body 1 ≡ k → leb k 32 ≡ true → leb (byte body 2) 1 ≡ true → leb (byte body 3) 1 ≡ true
    → ltb (byte body 8) 128 ≡ true → cap_of body ≡ c → top_fits c ≡ true → entry_of body ram ≡ Ok (Entry.Capability k c)
unfolding entry_of capability_of
cap_entry body k c ram l b₀ b₁ h b₂ b₃ b₈ e top = rw (l, b₀, b₁, h, b₂, b₃, b₈, e, top)

pub cap_is_read : CapIsRead
unfolding cap_body
cap_is_read k c ram h w top =
    let f₀ : ℕ × ℕ = (1, 1) in
    let f₁ : ℕ × ℕ = (1, k) in
    let f₂ : ℕ × ℕ = (1, bit c.tag) in
    let f₃ : ℕ × ℕ = (1, bit c.sealed) in
    let f₄ : ℕ × ℕ = (1, c.spare) in
    let f₅ : ℕ × ℕ = (3, c.otype) in
    let f₆ : ℕ × ℕ = (4, c.perms) in
    let f₇ : ℕ × ℕ = (8, c.base.0) in
    let f₈ : ℕ × ℕ = (8, c.length) in
    let f₉ : ℕ × ℕ = (8, c.offset.0) in
    let l : length (cap_body k c) ≡ 36 = length_fields (f₀ ∷ f₁ ∷ f₂ ∷ f₃ ∷ f₄ ∷ f₅ ∷ f₆ ∷ f₇ ∷ f₈ ∷ f₉ ∷ []) in
    let b₂ : byte (cap_body k c) 2 ≡ bit c.tag = byte_of (f₀ ∷ f₁ ∷ []) (f₃ ∷ f₄ ∷ f₅ ∷ f₆ ∷ f₇ ∷ f₈ ∷ f₉ ∷ []) (bit c.tag) (flag_lt c.tag) in
    let b₃ : byte (cap_body k c) 3 ≡ bit c.sealed = byte_of (f₀ ∷ f₁ ∷ f₂ ∷ []) (f₄ ∷ f₅ ∷ f₆ ∷ f₇ ∷ f₈ ∷ f₉ ∷ []) (bit c.sealed) (flag_lt c.sealed) in
    let b₈ : byte (cap_body k c) 8 ≡ c.perms / 256 ^ 3 % 256 = first_of (f₀ ∷ f₁ ∷ f₂ ∷ f₃ ∷ f₄ ∷ f₅ ∷ []) (f₇ ∷ f₈ ∷ f₉ ∷ []) 3 c.perms in
    let p : number (cap_body k c) 8 4 ≡ c.perms =
    field_of (f₀ ∷ f₁ ∷ f₂ ∷ f₃ ∷ f₄ ∷ f₅ ∷ []) (f₇ ∷ f₈ ∷ f₉ ∷ []) 4 c.perms (omega arith) (omega (arith, w.perms)) in
    let o : number (cap_body k c) 5 3 ≡ c.otype =
    field_of (f₀ ∷ f₁ ∷ f₂ ∷ f₃ ∷ f₄ ∷ []) (f₆ ∷ f₇ ∷ f₈ ∷ f₉ ∷ []) 3 c.otype (omega arith) (omega (arith, w.otype)) in
    found (cap_body k c) ram (Entry.Capability k c) (omega (arith, l)) (omega (arith, l))
    (cap_entry (cap_body k c) k c ram l
    (byte_of [] (f₁ ∷ f₂ ∷ f₃ ∷ f₄ ∷ f₅ ∷ f₆ ∷ f₇ ∷ f₈ ∷ f₉ ∷ []) 1 (omega arith))
    (byte_of (f₀ ∷ []) (f₂ ∷ f₃ ∷ f₄ ∷ f₅ ∷ f₆ ∷ f₇ ∷ f₈ ∷ f₉ ∷ []) k (omega arith))
    (le-leb k 32 h)
    (flag_le (byte (cap_body k c) 2) c.tag b₂)
    (flag_le (byte (cap_body k c) 3) c.sealed b₃)
    (lt-ltb (byte (cap_body k c) 8) 128 (omega (arith, b₈, w.perms)))
    (cap_of_lem (cap_body k c) c
    (field_of (f₀ ∷ f₁ ∷ f₂ ∷ f₃ ∷ f₄ ∷ f₅ ∷ f₆ ∷ []) (f₈ ∷ f₉ ∷ []) 8 c.base.0 (omega arith) w.base)
    (field_of (f₀ ∷ f₁ ∷ f₂ ∷ f₃ ∷ f₄ ∷ f₅ ∷ f₆ ∷ f₇ ∷ []) (f₉ ∷ []) 8 c.length (omega arith) w.length)
    (field_of (f₀ ∷ f₁ ∷ f₂ ∷ f₃ ∷ f₄ ∷ f₅ ∷ f₆ ∷ f₇ ∷ f₈ ∷ []) [] 8 c.offset.0 (omega arith) w.offset)
    (omega (arith, p, w.perms))
    (omega (arith, o, w.otype))
    (byte_of (f₀ ∷ f₁ ∷ f₂ ∷ f₃ ∷ []) (f₅ ∷ f₆ ∷ f₇ ∷ f₈ ∷ f₉ ∷ []) c.spare (omega (arith, w.spare)))
    (flag_back (byte (cap_body k c) 2) c.tag b₂)
    (flag_back (byte (cap_body k c) 3) c.sealed b₃))
    top)

-- kind 3
line_entry : (body bytes : List ℕ) (a : ℕ) (tag : Bool) (ram : ℕ) → length body ≡ 42 → byte body 0 ≡ 3 → number body 1 8 ≡ a → byte body 9 ≡ bit tag → take 32 (drop 10 body) ≡ bytes
    → is_line a ram ≡ true → loaded_fits (cap_in tag bytes) ≡ true → entry_of body ram ≡ Ok (Entry.Line a tag)
unfolding entry_of line_of
line_entry body bytes a tag ram l b₀ n b₉ t h top = rw (l, b₀, n, flag_le (byte body 9) tag b₉, flag_back (byte body 9) tag b₉, t, h, top)

pub line_is_read : LineIsRead
unfolding line_body
line_is_read a tag bytes ram h k l top =
    let f₀ : ℕ × ℕ = (1, 3) in
    let f₁ : ℕ × ℕ = (8, a) in
    let f₂ : ℕ × ℕ = (1, bit tag) in
    let q : length (fields (f₀ ∷ f₁ ∷ f₂ ∷ [])) ≡ 10 = length_fields (f₀ ∷ f₁ ∷ f₂ ∷ []) in
    let n : length (line_body a tag bytes) ≡ 42 = rw (length-append, q, l) in
    found (line_body a tag bytes) ram (Entry.Line a tag) (omega (arith, n)) (omega (arith, n))
    (line_entry (line_body a tag bytes) bytes a tag ram n
    (byte_at [] (f₁ ∷ f₂ ∷ []) 3 bytes (omega arith))
    (field_at (f₀ ∷ []) (f₂ ∷ []) 8 a bytes (omega arith) k)
    (byte_at (f₀ ∷ f₁ ∷ []) [] (bit tag) bytes (flag_lt tag))
    (rw (drop_at (fields (f₀ ∷ f₁ ∷ f₂ ∷ [])) bytes 10 q) (take_all 32 bytes (omega (arith, l))))
    h top)
