-- `number_word` adds up digits, cut at the binders: what it has and the digits left have the value of all.
use mathlib.Core.Path.{◌≡◌, sym, ◌∙◌}
use Prim.Native.Nat.{◌≤◌}
use native.Mathlib.Omega.{arith}
use lib.ListN.{drop}
use Rattle.decimal.specs.Decimal.{value_after}
use Rattle.reader.proofs.Digits.{value_next, value_grows, word_past}
use Rattle.reader.proofs.numbers.number_word.Goals as goal

pub loop-b-preserved : goal.loop-b-preserved
loop-b-preserved c =
    let l = c.loop-b in
    let cut = c.min-value.ensures in
    let m = c.digit_value.ensures.0 in
    (omega arith, rw (cut, m) (value_next c.args.depth l.value c.args.digits.now l.b-index c.loop-b-test.true ∙ l.invariant.1))

pub returns-then-value-depth : goal.returns-then-value-depth
returns-then-value-depth c =
    let a = c.args in
    let l = c.loop-b in
    let e : l.value ≡ a.depth = c.if-value-depth.true in
    let g = value_grows (drop l.b-index a.digits.now) l.value in
    let m = l.invariant.1 in
    let h : a.depth ≤ value_after 0 a.digits.now = omega (arith, e, g, m) in
    sym (word_past a.depth (value_after 0 a.digits.now) h)
