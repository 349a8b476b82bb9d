-- What a look told a host comes to pass, from the same of the calls.
use mathlib.Core.Path.{◌≡◌, refl, ap}
use mathlib.Core.Option.{Option, none, some}
use mathlib.Core.List.{List}
use Prim.Native.Nat.{ℕ}
use Rattle.calls.specs.Session.{Session}
use Rattle.calls.specs.Looks.{go_of, Results}
use Rattle.calls.proofs.Looks.{as_foretold}
use Rattle.face.specs.declared.HostSession.{HostSession}
use Rattle.face.specs.Numbers.{session_in, stop_code, stop_value}
use Rattle.face.specs.Told.{called_on, called, look_on, look_called}
use Rattle.face.specs.Foretold.{numbers_foretold, numbers_come, ToldAsForetold}

-- the results of a walk, told
numbers : Results → ℕ × ℕ × ℕ × ℕ × ℕ × ℕ
numbers r = (r.steps, stop_code r.stop, stop_value r.stop, 0, r.peak, r.carried)

module _ (w : List ℕ) (n : ℕ) (s : HostSession) (ls ts : List ℕ) (c : ℕ) where
  on_session : (o : Option Session)
      → (let (l, log, tape) = look_on o w n ls ts c in numbers_come (called_on o (λ g. go_of g l.position l.count) w n s log tape).0 ≡ numbers_foretold l)
  unfolding numbers
  on_session none = refl
  on_session (some se) = ap numbers (as_foretold (record { table = w; n = n; session = se; log = ls; tape = ts }) c)

pub told_as_foretold : ToldAsForetold
unfolding called look_called
told_as_foretold w n s ls ts c = on_session w n s ls ts c (session_in s)
