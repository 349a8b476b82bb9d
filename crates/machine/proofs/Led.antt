-- What holds of the state that a step leads to, if there is one.
use mathlib.Core.Path.{◌≡◌, refl}
use mathlib.Core.Bool.{Bool, true, false, cond}
use mathlib.Core.Option.{Option, none, some}
use Rattle.machine.specs.Machine.{State}

abbrev pub Led : (State → Type 0) → Option State → Type 0
Led P none = Unit
Led P (some u) = P u

-- where a rule has a test, as rules 3 and 4
pub led_test : (P : State → Type 0) (b : Bool) (u : State) → (b ≡ true → P u) → Led P (cond b (some u) none)
led_test P true u h = h refl
led_test P false u h = tt
