-- An accepted start: each tagged capability that is held or in a line fits. Assumes nothing.
use Rattle.std.specs.Prelude.{Option}
use Prim.Native.Nat.{ℕ, ◌+◌, ◌*◌, ◌^◌, ◌≤◌, ◌<◌}
use mathlib.Core.Path.{◌≡◌, sym, subst}
use mathlib.Core.Bool.{Bool, true, false, ◌&&◌}
use mathlib.Core.List.{List}
use native.Mathlib.Omega.{arith}
use native.Mathlib.Decide.{dec_lt}
use borrow.Author.Tests.{eqb-true, eq-eqb, ltb-true, ltb-false, not-true}
use lib.Dec.{ltb}
use lib.ListN.{length, get_or, take, drop, get_or-eq_default}
use Rattle.manual.specs.Number.{LINE}
use Rattle.manual.specs.Store.{tag_of}
use Rattle.manual.specs.declared.Cap.{Cap}
use Rattle.manual.specs.Line.{decode, from_words, cap_in}
use Rattle.manual.specs.Accept.{top_fits, jump_fits, loaded_fits, width_fits, jump_width}
use Rattle.manual.proofs.Tests.{both_true}
use Rattle.manual.proofs.Accepted.{whole_lines, few_lines, cap_top, pcc_top, jump_top, cap_width, pcc_width, jump_width_lem, line_top, bytes_32, loaded_top}
use Rattle.manual.specs.declared.Machine.{Machine}
use Rattle.isolation.specs.Reach.{Memories, line_cap, Held, in_register, in_pcc, in_pending}
use Rattle.isolation.specs.Claims.{Accepted}
use Rattle.isolation.proofs.Ranges.{Fits}

-- a capability that the tests for 22 and 24 let through
top : (c : Cap) → top_fits c ≡ true → c.tag ≡ true → c.base.0 + c.length ≤ 2 ^ 64
top c f t =
    let n : (c.tag && ltb (2 ^ 64) (c.base.0 + c.length)) ≡ false = not-true (c.tag && ltb (2 ^ 64) (c.base.0 + c.length)) f in
    ltb-false (2 ^ 64) (c.base.0 + c.length) (rw t at n)

fits : (c : Cap) → top_fits c ≡ true → width_fits c ≡ true → c.tag ≡ true → Fits c
fits c f w t = record { top = top c f t; perms = ltb-true c.perms (2 ^ 31) (both_true (ltb c.perms (2 ^ 31)) (ltb c.otype (2 ^ 24)) w).0 }

-- a line's permissions have their width by what 31 bits can say
decoded-fits : (tag : Bool) (part : List ℕ) → length part ≡ 32 → loaded_fits (cap_in tag part) ≡ true → tag ≡ true → Fits (decode tag part)
unfolding cap_in decode from_words
decoded-fits tag part n f t = record {
  top = top (decode tag part) (rw (eq-eqb (length part) 32 n) at f) t;
  perms = omega arith;
}

line_below : (tags : List ℕ) (i : ℕ) → tag_of tags i ≡ true → i < length tags
unfolding tag_of
line_below tags i t = go (dec_lt i (length tags))
  where
    go : Dec (i < length tags) → i < length tags
    go (yes h) = h
    go (no h) =
        let z = eqb-true (get_or tags i 0) 1 t in
        let d = get_or-eq_default tags 0 {n = i} (omega arith) in
        absurd (omega arith)

module _ (m : Machine) (x : Memories) (a : Accepted m x) where
  pub held_fits : (c : Cap) → Held m c → c.tag ≡ true → Fits c
  held_fits c (in_register i l e) t =
      fits c (subst (λ (k : Cap). top_fits k ≡ true) e (cap_top m.caps m.pcc m.pending _ _ x.ram x.tags (sym a) i l))
      (subst (λ (k : Cap). width_fits k ≡ true) e (cap_width m.caps m.pcc m.pending _ _ x.ram x.tags (sym a) i l)) t
  held_fits c (in_pcc e) t =
      fits c (subst (λ (k : Cap). top_fits k ≡ true) e (pcc_top m.caps m.pcc m.pending _ _ x.ram x.tags (sym a)))
      (subst (λ (k : Cap). width_fits k ≡ true) e (pcc_width m.caps m.pcc m.pending _ _ x.ram x.tags (sym a))) t
  held_fits c (in_pending e) t =
      fits c (subst (λ (p : Option Cap). jump_fits p ≡ true) e (jump_top m.caps m.pcc m.pending _ _ x.ram x.tags (sym a)))
      (subst (λ (p : Option Cap). jump_width p ≡ true) e (jump_width_lem m.caps m.pcc m.pending _ _ x.ram x.tags (sym a))) t

  pub line_fits_lem : (i : ℕ) → tag_of x.tags i ≡ true → Fits (line_cap x i)
  unfolding line_cap
  line_fits_lem i t =
      let l = line_below x.tags i t in
      let w = whole_lines m.caps m.pcc m.pending _ _ x.ram x.tags (sym a) in
      let f = few_lines m.caps m.pcc m.pending _ _ x.ram x.tags (sym a) in
      let h : i * 32 + 32 ≤ length x.ram = omega arith in
      let k : i < 2048 = omega arith in
      decoded-fits (tag_of x.tags i) (take LINE (drop (i * LINE) x.ram)) (bytes_32 x.ram x.tags i h k)
      (loaded_top x.ram x.tags i h k (line_top m.caps m.pcc m.pending _ _ x.ram x.tags (sym a) i l)) t
