-- What a function of checks returns: where a `?` ends it, and after its last check. Assumes nothing.
use mathlib.Core.Path.{◌≡◌, refl}
use Rattle.std.specs.Result.{IsErrAnd}
use Rattle.std.specs.Prelude.{Bool, true, false, Result, Ok, Err}
use Rattle.manual.specs.declared.Fault.{Fault}
use Rattle.manual.specs.declared.Effect.{Effect}
use Rattle.manual.specs.Checks.{Checked, Guards, ok, guard, finish, settle}

pub stops : {T E : Type 0} (r : Result T E) {e : E} {whole : Result T E} → IsErrAnd r (λ x. x ≡ e) → Err e ≡ whole → r ≡ whole
stops (Ok x) h then = absurd h
stops (Err y) h then = rw h then

-- the last check of a chain, whose answer is the function's
pub last : (r : Result (Unit {0}) Fault) (holds : Bool) (fault : Fault) → Guards holds fault r → (rest : Checked) → finish r rest ≡ settle (guard holds fault rest)
unfolding finish settle
last (Ok _) holds fault h rest = rw h
last (Err f) holds fault h rest = rw (h.0, h.1)

-- a check that passed: what follows decides
pub passes : (holds : Bool) (fault : Fault) (rest : Checked) → holds ≡ true → settle rest ≡ settle (guard holds fault rest)
unfolding settle
passes holds fault rest h = rw h

-- after the last check
pub does : (effect : Effect) → Ok effect ≡ settle (ok effect)
unfolding settle
does effect = refl

-- a check that failed decides
pub breaks : (holds : Bool) (f fault : Fault) (rest : Checked) → (holds ≡ false) × (f ≡ fault) → Err f ≡ settle (guard holds fault rest)
unfolding settle
breaks holds f fault rest h = rw (h.0, h.1)
