-- Capabilities: permissions, widths, and the registers that a permission opens (004, chapter 3).
use Rattle.std.specs.Prelude.{ℕ, ◌/◌, ◌%◌, ◌^◌, ◌<◌, Bool, cond, ◌&&◌, ◌||◌, List, [], ◌∷◌, eqb, ltb}
use Rattle.manual.specs.declared.Cap.{Cap}

-- 004, table 3.2
abbrev pub GLOBAL : ℕ
GLOBAL = 0

abbrev pub EXECUTE : ℕ
EXECUTE = 1

abbrev pub LOAD : ℕ
LOAD = 2

abbrev pub STORE : ℕ
STORE = 3

abbrev pub LOAD_CAPABILITY : ℕ
LOAD_CAPABILITY = 4

abbrev pub STORE_CAPABILITY : ℕ
STORE_CAPABILITY = 5

abbrev pub STORE_LOCAL : ℕ
STORE_LOCAL = 6

abbrev pub SEAL : ℕ
SEAL = 7

abbrev pub ACCESS_EPCC : ℕ
ACCESS_EPCC = 10

abbrev pub ACCESS_KDC : ℕ
ACCESS_KDC = 11

abbrev pub ACCESS_KCC : ℕ
ACCESS_KCC = 12

abbrev pub ACCESS_KR1C : ℕ
ACCESS_KR1C = 13

abbrev pub ACCESS_KR2C : ℕ
ACCESS_KR2C = 14

-- no field of 31 bits grants it
abbrev pub NO_PERMISSION : ℕ
NO_PERMISSION = 32

abbrev pub permission_table : List ℕ
permission_table =
    GLOBAL ∷ EXECUTE ∷ LOAD ∷ STORE ∷ LOAD_CAPABILITY ∷ STORE_CAPABILITY ∷ STORE_LOCAL ∷ SEAL
    ∷ ACCESS_EPCC ∷ ACCESS_KDC ∷ ACCESS_KCC ∷ ACCESS_KR1C ∷ ACCESS_KR2C ∷ NO_PERMISSION ∷ []

-- whether a permissions field grants the permission of this number
unfoldable pub permitted : ℕ → ℕ → Bool
permitted perms number = eqb (perms / 2 ^ number % 2) 1

abbrev pub permits : Cap → ℕ → Bool
permits c number = permitted c.perms number

-- 31 permission bits and a 24-bit otype
abbrev pub in_widths : ℕ → ℕ → Bool
in_widths perms otype = ltb perms (2 ^ 31) && ltb otype (2 ^ 24)

-- every field within its width
pub record Within (c : Cap) : Type 0 where
  pub perms : c.perms < 2 ^ 31
  pub otype : c.otype < 2 ^ 24
  pub spare : c.spare < 2 ^ 8
  pub base : c.base.0 < 2 ^ 64
  pub length : c.length < 2 ^ 64
  pub offset : c.offset.0 < 2 ^ 64

-- 01, "A capability": registers open only to a PCC with the matching Access bit: KR1C C27, KR2C C28, KCC C29, KDC C30, EPCC C31
abbrev pub KR1C : ℕ
KR1C = 27

abbrev pub KR2C : ℕ
KR2C = 28

abbrev pub KCC : ℕ
KCC = 29

abbrev pub KDC : ℕ
KDC = 30

abbrev pub EPCC : ℕ
EPCC = 31

unfoldable pub access_bit : ℕ → ℕ
access_bit register =
    cond (eqb register KR1C) ACCESS_KR1C
    (cond (eqb register KR2C) ACCESS_KR2C
    (cond (eqb register KCC) ACCESS_KCC
    (cond (eqb register KDC) ACCESS_KDC
    (cond (eqb register EPCC) ACCESS_EPCC NO_PERMISSION))))

unfoldable pub register_open : ℕ → ℕ → Bool
register_open perms register = ltb register KR1C || permitted perms (access_bit register)
