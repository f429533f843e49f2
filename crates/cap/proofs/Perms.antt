-- Permissions by number. Assumes nothing.
use Prim.Native.Nat.{ℕ, ◌^◌, ◌≤◌, ◌<◌}
use mathlib.Core.Path.{◌≡◌}
use mathlib.Core.Bool.{false}
use native.Mathlib.Nat.{div-eq_of_lt, lt_of_lt_of_le}
use lib.Pow.{pow_mono}
use Rattle.manual.specs.Cap.{permitted}

-- no number from 32 on is granted
pub none_past : (perms number : ℕ) → perms < 2 ^ 32 → 32 ≤ number → false ≡ permitted perms number
unfolding permitted
none_past perms number h k = rw (div-eq_of_lt (lt_of_lt_of_le h (pow_mono k)))
