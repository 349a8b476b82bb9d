-- `put` puts the digits of the number's tenth, and then its last one. Its measure is the number.
use Prim.Native.Nat.{◌/◌}
use mathlib.Core.Path.{ap}
use native.Mathlib.Nat.{div-le_self}
use native.Mathlib.Omega.{arith}
use Rattle.decimal.proofs.Putting.{one_put, more_put, word_digits}
use Rattle.decimal.proofs.+put.Goals as goal

pub returns-then-number-lt10 : goal.returns-then-number-lt10
returns-then-number-lt10 t c =
    let a = c.args in
    one_put a.out.now a.at a.number _ (omega arith) c.put_digit.ensures

pub overflow_add-result : goal.overflow_add-result
overflow_add-result t c =
    let s = c in
    let l = div-le_self s.args.number 10 in
    omega (arith, word_digits (s.args.number / 10) (omega (arith, s.well_formed)), ap (λ x. x.0) c.put-k.ensures)

pub returns : goal.returns
returns t c =
    let a = c.args in
    more_put a.out.now a.at a.number _ _ _ (omega arith) c.put-k.ensures c.put_digit-2.ensures
