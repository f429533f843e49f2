-- The bytes of a stored capability hold no more than it did. Assumes nothing.
use Prim.Native.Nat.{ℕ, ◌+◌, ◌*◌, ◌/◌, ◌%◌, ◌^◌, ◌<◌}
use mathlib.Core.Path.{◌≡◌}
use mathlib.Core.Bool.{Bool, true, false}
use mathlib.Core.List.{List}
use native.Mathlib.Omega.{arith}
use Rattle.manual.specs.Number.{to_be, plus_mod}
use Rattle.manual.specs.Store.{bit}
use Rattle.manual.proofs.Numbers.{length-to_be, be-to_be}
use Rattle.manual.specs.declared.Cap.{Cap}
use Rattle.manual.specs.Line.{first_word, encode, word, from_words, decode}
use Rattle.isolation.proofs.Ranges.{Narrows}
use Rattle.manual.proofs.Lines.{quarter0, quarter2, quarter3}

module _ (c : Cap) where
  abbrev first : List ℕ
  first = to_be 8 (first_word c)

  abbrev second : List ℕ
  second = to_be 8 (plus_mod c.base.0 c.offset.0)

  abbrev third : List ℕ
  third = to_be 8 c.base.0

  abbrev fourth : List ℕ
  fourth = to_be 8 c.length

  word_0 : word 0 (encode c) ≡ first_word c % 2 ^ 64
  unfolding word encode
  word_0 =
      rw (quarter0 first second third fourth (length-to_be 8 _) (length-to_be 8 _) (length-to_be 8 _) (length-to_be 8 _), be-to_be 8 (first_word c))
      (let h : first_word c % 256 ^ 8 % 2 ^ 64 ≡ first_word c % 2 ^ 64 = omega arith in h)

  word_2 : word 2 (encode c) ≡ c.base.0 % 2 ^ 64
  unfolding word encode
  word_2 =
      rw (quarter2 first second third fourth (length-to_be 8 _) (length-to_be 8 _) (length-to_be 8 _) (length-to_be 8 _), be-to_be 8 c.base.0)
      (let h : c.base.0 % 256 ^ 8 % 2 ^ 64 ≡ c.base.0 % 2 ^ 64 = omega arith in h)

  word_3 : word 3 (encode c) ≡ c.length % 2 ^ 64
  unfolding word encode
  word_3 =
      rw (quarter3 first second third fourth (length-to_be 8 _) (length-to_be 8 _) (length-to_be 8 _) (length-to_be 8 _), be-to_be 8 c.length)
      (let h : c.length % 256 ^ 8 % 2 ^ 64 ≡ c.length % 2 ^ 64 = omega arith in h)

  first_perms : c.perms < 2 ^ 31 → first_word c % 2 ^ 64 / 2 % 2 ^ 31 ≡ c.perms
  unfolding first_word
  first_perms h = go (bit c.sealed) (bit_lt c.sealed)
    where
      bit_lt : (b : Bool) → bit b < 2
      bit_lt true = omega arith
      bit_lt false = omega arith

      go : (t : ℕ) → t < 2 → (c.spare * 2 ^ 56 + c.otype % 2 ^ 24 * 2 ^ 32 + c.perms % 2 ^ 31 * 2 + t) % 2 ^ 64 / 2 % 2 ^ 31 ≡ c.perms
      go t l = omega arith

  -- a line that was stored holds a range and permissions that c has
  pub stored_narrows : (t : Bool) → Narrows (decode t (encode c)) c
  unfolding decode from_words
  stored_narrows t = record {
    inside = λ f. record {
      bytes = λ a h. (let b = word_2 in let n = word_3 in let k = f.top in record { low = omega (arith, h.low); high = omega (arith, h.low, h.high) });
      permissions = λ k h. rw (word_0, first_perms f.perms) at h;
    };
    fits = λ f. let b = word_2 in let n = word_3 in record { top = omega (arith, f.top); perms = omega arith };
  }
