-- What was counted so far, with what is still to be counted, is the index.
use mathlib.Core.Path.{◌≡◌, refl, ap, ◌∙◌}
use mathlib.Core.Bool.{Bool, true, false}
use Prim.Native.Nat.{◌-◌, ◌+◌}
use native.Mathlib.Omega.{arith}
use Rattle.std.specs.Prelude.{Option, Some, None}
use Rattle.std.specs.Int.{from_bool}
use Rattle.std.specs.Option.{option_eq}
use Rattle.term.specs.Table.{table_in}
use Rattle.term.specs.Kinds.{kind_meant}
use Rattle.term.specs.declared.kinds.Kind.{Kind}
use Rattle.term.specs.declared.kinds.Kind.TheVariants.{Variable, Abstraction, Application}
use Rattle.term.proofs.Table.{nodes_are}
use Rattle.kam.specs.Krivine.{abstractions_in, abstractions_up, index_at}
use Rattle.krivine.proofs.Climb.{climb_ends, climb_met, climb_on}
use Rattle.krivine.proofs.index.index_of.Goals as goal
use Rattle.krivine.proofs.index.index_of.Goals.{At-loop}

-- the whole way up, from what was found before the loop
whole : (l : At-loop) → (let a = l.args in
    abstractions_up a.tree.now.n (table_in a.tree.now.words a.tree.now.n) l.left-binder.result l.parent-at.result ≡ index_at (table_in a.tree.now.words a.tree.now.n) a.node)
whole l =
    let a = l.args in
    rw (l.left-binder.ensures, l.parent-at.ensures, nodes_are a.tree.now.words a.tree.now.n)

-- an abstraction alone counts, by any test of two kinds that tells it from the others
counted : (E : Kind → Kind → Bool) → E Abstraction Abstraction ≡ true → E Variable Abstraction ≡ false → E Application Abstraction ≡ false
    → (o : Option Kind) → from_bool (option_eq E o (Some Abstraction)) ≡ abstractions_in (kind_meant o)
counted E a v p None = refl
counted E a v p (Some Abstraction) = rw a
counted E a v p (Some Variable) = rw v
counted E a v p (Some Application) = rw p

pub loop-preserved : goal.loop-preserved
loop-preserved c =
    let l = c.loop in
    let n = c.args.tree.now.n in
    let counts = c.from-between.ensures ∙ ap from_bool c.eq.ensures ∙ counted _ refl refl refl c.kind.result ∙ ap abstractions_in c.kind.ensures in
    climb_on l.invariant (n - (l.counter + 1)) (omega arith) c.if-at-binder.false counts c.parent-at-in-loop.ensures

pub returns-after-loop : goal.returns-after-loop
returns-after-loop c =
    let l = c.loop in
    let none : c.args.tree.now.n - l.counter ≡ 0 = omega arith in
    climb_ends (rw none at l.invariant) ∙ whole (goal.at.returns-after-loop c).At-loop

pub returns-then-at-binder : goal.returns-then-at-binder
returns-then-at-binder c =
    climb_met c.loop.invariant (omega arith) c.if-at-binder.true ∙ whole (goal.at.returns-then-at-binder c).At-loop
