-- What `?` hands out: the error of a call, and of `ok_or` where it was given no value.
use mathlib.Core.Path.{◌≡◌, ap}
use Rattle.std.specs.Prelude.{Option, None, Result, Ok, Err}
use Rattle.std.specs.Option.{ok_or}
use Rattle.std.specs.Result.{IsErrAnd}

pub passed_on : {B E : Type 0} {x : E} (r : Result B E) → IsErrAnd r (λ y. y ≡ x) → r ≡ Err x
passed_on (Ok v) given = absurd given
passed_on (Err y) given = ap Err given

pub refused_by : {A B E : Type 0} {x : E} (o : Option A) (e : E) (r : Result B E) → o ≡ None → ◌≡◌ {A = Result A E} (Err x) (ok_or o e) → IsErrAnd r (λ y. y ≡ x) → r ≡ Err e
refused_by o e (Ok v) none told given = absurd given
refused_by o e (Err y) none told given = let at_none = rw none at told in cc
