-- The worked pair, by the claim itself. Assumes nothing.
use Prim.Native.Nat.{ℕ, zero, suc, ◌+◌, ◌<◌}
use mathlib.Core.Path.{◌≡◌, refl, sym, ap, subst, ◌∙◌}
use mathlib.Core.Logic.{◌⊎◌, inl, inr}
use mathlib.Core.Bool.{true}
use mathlib.Core.List.{List, ◌∷◌, ◌++◌}
use native.Mathlib.Omega.{arith}
use native.Mathlib.Decide.{dec_lt, ℕ_discrete}
use lib.ListN.{get_or, set, replicate, get_or-replicate, length-replicate, get_or-eq_default}
use lib.Seq.{get_or-set_other}
use Rattle.manual.specs.Number.{LINE, be, to_be}
use Rattle.manual.specs.Place.{RAM_BASE, place_of, bytes_of}
use Rattle.manual.specs.Store.{tag_of}
use Rattle.manual.specs.declared.Cap.{Cap}
use Rattle.manual.specs.Cap.{permitted}
use Rattle.manual.specs.Narrow.{null}
use Rattle.manual.specs.Line.{word, from_words, decode, cap_in, load_cap}
use Rattle.manual.specs.Accept.{every, verdict_of}
use Rattle.isolation.specs.Reach.{Covers, Spans, line_address, in_register, in_pcc, in_pending, Reach, held, line, by_load, CanRead, CanLoad}
use Rattle.isolation.specs.Agree.{Agree}
use Rattle.isolation.specs.Claims.{Accepted}
use Rattle.isolation.specs.Worked.{text, frame, bus, here, there, WorkedPair}
use Rattle.isolation.proofs.Lists.{never}
use Rattle.isolation.proofs.Theorem.{confined}

here-passes : Accepted bus here
unfolding verdict_of every tag_of load_cap place_of bytes_of cap_in decode from_words word be to_be
here-passes = refl

there-passes : Accepted bus there
unfolding verdict_of every tag_of load_cap place_of bytes_of cap_in decode from_words word be to_be
there-passes = refl

-- what the bus code can come to: its text and its line
register : (i : ℕ) (c : Cap) → get_or (set (replicate 32 null) 1 frame) i null ≡ c → c.tag ≡ true → c ≡ frame
register i c e t = go (ℕ_discrete i 1) (dec_lt i 32)
  where
    untagged : c ≡ null → c ≡ frame
    untagged q = never _ (sym (ap (λ (k : Cap). k.tag) q) ∙ t)

    go : Dec (i ≡ 1) → Dec (i < 32) → c ≡ frame
    go (yes q) l = sym e ∙ ap (λ n. get_or (set (replicate 32 null) 1 frame) n null) q
    go (no q) (yes l) = untagged (sym e ∙ get_or-set_other (replicate 32 null) 1 i frame null q ∙ get_or-replicate 32 i null null l)
    go (no q) (no l) = untagged (sym e ∙ get_or-set_other (replicate 32 null) 1 i frame null q ∙ get_or-eq_default (replicate 32 null) null {n = i} (omega (arith, length-replicate 32 null)))

two_lines : (i : ℕ) → tag_of here.tags i ≡ true → ⊥
unfolding tag_of
two_lines zero t = never _ t
two_lines (suc zero) t = never _ t
two_lines (suc (suc i)) t = never _ t

only : (c : Cap) → Reach bus here c → (c ≡ text) ⊎ (c ≡ frame)
only c (held (in_register i l e) t) = inr (register i c e t)
only c (held (in_pcc e) t) = inl (sym e)
only c (held (in_pending e) t) = let z : ◌≡◌ {A = ℕ} 0 1 = cc in absurd (omega arith)
only c (line i d l s t e) = absurd (two_lines i t)

-- a byte of RAM that is read lies in the first line
first_line : (i : ℕ) → CanRead (Reach bus here) (RAM_BASE + i) → i < 32
first_line i r = go (only r.by r.member)
  where
    go : (r.by ≡ text) ⊎ (r.by ≡ frame) → i < 32
    go (inl e) = let k : Covers text (RAM_BASE + i) = subst (λ (c : Cap). Covers c (RAM_BASE + i)) e r.covers in absurd (omega arith)
    go (inr e) = let k : Covers frame (RAM_BASE + i) = subst (λ (c : Cap). Covers c (RAM_BASE + i)) e r.covers in omega arith

first_tag : (i : ℕ) → CanLoad (Reach bus here) i → i ≡ 0
first_tag i r = go (only r.by r.member)
  where
    go : (r.by ≡ text) ⊎ (r.by ≡ frame) → i ≡ 0
    go (inl e) = let k : Spans text (line_address i) LINE = subst (λ (c : Cap). Spans c (line_address i) LINE) e r.spans in absurd (omega arith)
    go (inr e) = let k : Spans frame (line_address i) LINE = subst (λ (c : Cap). Spans c (line_address i) LINE) e r.spans in omega arith

zeros : (l m : List ℕ) (n i : ℕ) → i < n → get_or (replicate n 0 ++ l) i 0 ≡ get_or (replicate n 0 ++ m) i 0
zeros l m zero i h = absurd (omega arith)
zeros l m (suc n) zero h = refl
zeros l m (suc n) (suc i) h = zeros l m n i (omega arith)

agree : Agree (Reach bus here) here there
unfolding tag_of
agree = record {
  flash_size = refl;
  ram_size = refl;
  tags_size = refl;
  flash = λ i c. refl;
  ram = λ i c. zeros (replicate 32 0) (1 ∷ replicate 31 0) 32 i (first_line i c);
  tags = λ i c. rw (first_tag i c) refl;
}

pub worked_pair : WorkedPair
unfolding permitted
worked_pair = record {
  here_accepted = here-passes;
  there_accepted = there-passes;
  rams_differ = λ e. let z : ◌≡◌ {A = ℕ} 0 1 = ap (λ l. get_or l 32 0) e in absurd (omega arith);
  tags_differ = λ e. let z : ◌≡◌ {A = ℕ} 0 1 = ap (λ l. get_or l 1 0) e in absurd (omega arith);
  own_line = record { by = frame; member = held (in_register 1 (omega arith) refl) refl; reads = by_load refl; covers = omega arith };
  alike = λ budget. confined budget bus here there here-passes there-passes agree;
}
