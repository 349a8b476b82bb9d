-- What is left to go down from the record found so far leads where the whole way does.
use mathlib.Core.Path.{◌≡◌, sym, ap, ◌∙◌}
use mathlib.Core.List.{List}
use Prim.Native.Nat.{ℕ, suc, ◌+◌, ◌-◌}
use native.Mathlib.Omega.{arith}
use Rattle.kam.specs.Records.{next_in, record_below}
use Rattle.krivine.proofs.records.record_below.Goals as goal

below_next : (w : List ℕ) (x y r : ℕ) → x ≡ y + 1 → record_below y w (next_in w r) ≡ record_below x w r
below_next w x y r e = let z : suc y ≡ x = omega arith in ap (λ k. record_below k w r) z

pub loop-init : goal.loop-init
loop-init c = let all : c.args.depth - 0 ≡ c.args.depth = omega arith in ap (λ x. record_below x c.args.records.now c.args.top) all

pub loop-preserved : goal.loop-preserved
loop-preserved c =
    let a = c.args in
    let l = c.loop in
    ap (record_below (a.depth - (l.counter + 1)) a.records.now) (ap (λ x. x.next) c.record_at-number.ensures) ∙ below_next a.records.now (a.depth - l.counter) (a.depth - (l.counter + 1)) l.number (omega arith) ∙ l.invariant

pub returns : goal.returns
returns c =
    let a = c.args in
    let l = c.loop in
    let none : a.depth - l.counter ≡ 0 = omega arith in
    ap (λ x. record_below x a.records.now l.number) (sym none) ∙ l.invariant
