-- Records of one length each, one after the other, and all registers of a machine. Assumes nothing.
use Prim.Native.Nat.{ℕ, zero, suc, ◌+◌, ◌*◌, ◌≤◌, ◌<◌}
use mathlib.Core.Path.{◌≡◌, refl, sym, ◌∙◌}
use mathlib.Core.List.{List, [], ◌∷◌, ◌++◌}
use native.Mathlib.Omega.{arith}
use native.Mathlib.Nat.{suc-mul}
use lib.ListN.{length, drop, length-append}
use Rattle.manual.specs.Number.{to_be}
use Rattle.manual.specs.Store.{put}
use Rattle.manual.proofs.Stores.{put-fits, put_out}
use Rattle.manual.specs.declared.Cap.{Cap}
use Rattle.pages.proofs.Fields.{cap_bytes_lem, general_bytes}
use Rattle.manual.specs.declared.Machine.{Machine}
use Rattle.pages.specs.Runs.{pieces}
use Rattle.pages.specs.Registers.{cap_records, general_records, registers_of, REGISTERS}

version : to_be 1 1 ≡ 1 ∷ []
unfolding to_be
version = refl

-- how long they are
pieces_even : (n first size : ℕ) (piece : ℕ → List ℕ) → ((i : ℕ) → length (piece i) ≡ size) → length (pieces n first piece) ≡ n * size
unfolding pieces
pieces_even zero first size piece h = omega arith
pieces_even (suc n) first size piece h = rw (length-append, h first, pieces_even n (suc first) size piece h, suc-mul n size) (omega arith)

caps_bytes : (caps : List Cap) → length (cap_records caps) ≡ 1216
unfolding cap_records
caps_bytes caps = pieces_even 32 _ 38 _ (λ i. cap_bytes_lem i _)

generals_bytes : (general : List ℕ) → length (general_records general) ≡ 372
unfolding general_records
generals_bytes general = pieces_even 31 _ 12 _ (λ i. general_bytes i _)

pub registers_bytes : (m : Machine) → length (registers_of m) ≡ REGISTERS
unfolding registers_of
registers_bytes m = rw (length-append, length-append, caps_bytes m.caps, cap_bytes_lem 32 m.pcc, generals_bytes m.general)

-- where they have no room, and where they have
module _ (m : Machine) (l : List ℕ) where
  pub registers_out : length l < REGISTERS → l ≡ put l 0 (registers_of m)
  registers_out h = sym (put_out l 0 (registers_of m) (omega (arith, registers_bytes m)))

  pub registers_front : REGISTERS ≤ length l → put l 0 (registers_of m) ≡ registers_of m ++ drop (length (registers_of m)) l
  registers_front h =
      let z : 0 + length (registers_of m) ≡ length (registers_of m) = omega arith in
      put-fits l 0 (registers_of m) (omega (arith, registers_bytes m)) ∙ rw z
