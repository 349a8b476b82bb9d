-- The loop: what is left to run is the whole run, for every state that the call may be given, and a step to a visit ends it.
use mathlib.Core.Path.{◌≡◌, sym, ◌∙◌, refl}
use mathlib.Core.Bool.{Bool}
use Prim.Native.Nat.{◌<◌}
use native.Mathlib.Omega.{arith}
use Rattle.machine.specs.Machine.{State}
use Rattle.calls.specs.Weight.{bullets}
use Rattle.calls.specs.Visits.{spot, is_on}
use Rattle.calls.proofs.Weight.{bullets_given_lem}
use Rattle.session.specs.Types.{dir_meant, way_meant, lent}
use Rattle.session.specs.Steps.{TokenAt}
use Rattle.session.proofs.Weighing.{weighable}
use Rattle.session.proofs.Loops.{loop_begins, ready, loop_spent, loop_halted, loop_countable, loop_weighable, loop_carries_few, loop_goes_on, loop_found, token_on}
use Rattle.session.proofs.winding.seek.Goals as goal
use Rattle.session.proofs.winding.seek.Goals.{After-bullets_in-bullets, After-stands_on}

-- the bullets of every state that the session holds
first_counted : (c : After-bullets_in-bullets) (s : State) → (let a = c.args in
    TokenAt a.tree.now.words a.tree.now.n a.session a.log.now a.tape.now s → c.bullets_in-bullets.result ≡ bullets s.tape)
first_counted c s h = let a = c.args in c.bullets_in-bullets.ensures ∙ bullets_given_lem (lent a.tree.now.words a.tree.now.n a.session a.log.now a.tape.now) s h.enters

pub begun-run-requires : goal.begun-run-requires
begun-run-requires c = let p = c.requires in weighable p.token (first_counted (goal.at.begun-run-requires c).After-bullets_in-bullets p.state p.token)

pub loop-step-init : goal.loop-step-init
loop-step-init c =
    let a = c.args in
    rw c.begun-run.ensures
    (refl, λ s h. loop_begins h (way_meant a.way) (spot a.node (dir_meant a.dir)) a.count c.bullets_in-bullets.result (first_counted (goal.at.loop-step-init c).After-bullets_in-bullets s h))

pub one_pass-requires : goal.one_pass-requires
one_pass-requires c = let p = c.requires in ready (c.loop-step.invariant.1 p.state p.token)

pub returns-in-Err : goal.returns-in-Err
returns-in-Err c = λ s h.
    let loop = c.loop-step.invariant.1 s h in
    rw c.halted.ensures (loop_halted loop (omega arith) c.in-Err.stop (c.in-Err.ensures loop.state loop.token))

pub bullets_after-bullets-requires : goal.bullets_after-bullets-requires
bullets_after-bullets-requires c =
    let loop = c.loop-step.invariant.1 c.requires.state c.requires.token in
    loop_countable loop (omega arith) c.in-Ok.pass (c.in-Ok.ensures loop.state loop.token)

pub lengthened-run-requires : goal.lengthened-run-requires
lengthened-run-requires c =
    let pass = c.in-Ok.pass in
    let loop = c.loop-step.invariant.1 c.requires.state c.requires.token in
    let on = c.in-Ok.ensures loop.state loop.token in
    let less : c.loop-step.run.steps < c.args.count = omega arith in
    (rw c.bullets_after-bullets.ensures (loop_weighable loop less pass on), omega (arith, c.ranges.count), loop.few_carried, loop_carries_few loop less pass on)

-- whether the step leads to a visit
arrived : (c : After-stands_on) (s : State) {b : Bool} → c.stands_on.result ≡ b → (let a = c.args in
    (h : TokenAt a.tree.now.words a.tree.now.n a.session a.log.now a.tape.now s)
    → (let loop = c.loop-step.invariant.1 s h in is_on (spot a.node (dir_meant a.dir)) (c.in-Ok.ensures loop.state loop.token).0 ≡ b))
arrived c s e h =
    let a = c.args in
    let loop = c.loop-step.invariant.1 s h in
    token_on (c.in-Ok.ensures loop.state loop.token).4 (spot a.node (dir_meant a.dir)) ∙ sym c.stands_on.ensures ∙ e

pub returns-then-stands_on : goal.returns-then-stands_on
returns-then-stands_on c = λ s h.
    let loop = c.loop-step.invariant.1 s h in
    rw (c.halted-then-stands_on.ensures, c.lengthened-run.ensures, c.bullets_after-bullets.ensures)
    (loop_found loop (omega arith) c.in-Ok.pass (c.in-Ok.ensures loop.state loop.token) (arrived (goal.at.returns-then-stands_on c).After-stands_on s c.if-stands_on.true h))

pub loop-step-preserved : goal.loop-step-preserved
loop-step-preserved c =
    rw (c.lengthened-run.ensures, c.bullets_after-bullets.ensures) (
      omega arith,
      λ s h.
          let loop = c.loop-step.invariant.1 s h in
          loop_goes_on loop (omega arith) c.in-Ok.pass (c.in-Ok.ensures loop.state loop.token) (arrived (goal.at.loop-step-preserved c).After-stands_on s c.if-stands_on.false h),
    )

pub returns : goal.returns
returns c = λ s h. loop_spent (c.loop-step.invariant.1 s h) (omega arith)
