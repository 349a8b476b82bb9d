-- `in_scope` looks among the inner half of the binders around from the innermost on, or among the outer half.
use Prim.Native.Nat.{ℕ, ◌+◌, ◌-◌}
use mathlib.Core.Path.{◌≡◌, sym, ap, subst, ◌∙◌}
use native.Mathlib.Omega.{arith}
use lib.ListN.{take, drop}
use Rattle.std.specs.Prelude.{nat_eq, ◌/◌}
use Rattle.std.proofs.Common.{rules}
use Rattle.std.proofs.lemmas.Iterator.Adapters.{YieldsList-from_rev_slice}
use Rattle.std.proofs.lemmas.Iterator.Search.{any_from_yields_List}
use Rattle.term.specs.Walk.{binders_in, Rising}
use Rattle.term.proofs.Scope.{is_around, around_from, around_below}
use Rattle.term.proofs.in_scope.Goals as goal
use Rattle.term.proofs.in_scope.Goals.{then-half-depth+else-scope-half, else-half-depth}

pub returns-then-scope-half : goal.returns-then-scope-half
returns-then-scope-half c =
    let a = c.args in
    let h : ℕ = a.depth / 2 in
    let e : h + (a.depth - h) ≡ a.depth = omega arith in
    any_from_yields_List (λ y. nat_eq y a.b) _ _ c.any.result c.any.ensures.ran (YieldsList-from_rev_slice (take (a.depth - h) (drop h a.scope.now)) (search rules)) (λ x b q k. search rules)
    ∙ around_from a.scope.now h (a.depth - h) a.b (omega arith) (omega arith) (subst (Rising a.scope.now) (sym e) c.requires.1) c.if-scope-half.true
    ∙ ap (λ d. is_around a.b (binders_in a.scope.now d)) e

pub returns : goal.returns
returns c =
    let a = c.args in
    let h : ℕ = a.depth / 2 in
    let e : h + (a.depth - h) ≡ a.depth = omega arith in
    c.is_among.ensures
    ∙ around_below a.scope.now h (a.depth - h) a.b (omega arith) (subst (Rising a.scope.now) (sym e) c.requires.1)
    (λ p. elim c.if-half-depth.branch [ then-half-depth+else-scope-half w ↦ w.if-scope-half.false | else-half-depth w ↦ omega (arith, w.if-half-depth.false) ])
    ∙ ap (λ d. is_around a.b (binders_in a.scope.now d)) e
