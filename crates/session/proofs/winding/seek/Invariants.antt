-- The loop: what is left to run is the whole run, for every state that the call may be given, and a step to a visit ends it.
use mathlib.Core.Path.{◌≡◌}
use Rattle.machine.specs.Machine.{State}
use Rattle.calls.specs.Visits.{spot}
use Rattle.session.specs.Types.{dir_meant, way_meant}
use Rattle.session.specs.Steps.{TokenAt}
use Rattle.session.proofs.Loops.{LoopOf}
use Rattle.session.proofs.winding.seek.Given as goal

abbrev pub invariant-loop-step : goal.invariant-loop-step
invariant-loop-step l = (l.run.steps ≡ l._step)
    × ((s : State) → TokenAt l.tree.words l.tree.n l.fn.session l.fn.log l.fn.tape s
    → LoopOf (way_meant l.way) l.tree.words l.tree.n (spot l.node (dir_meant l.dir)) l.count l.fn.session l.fn.log l.fn.tape s l.run l.bullets l.log l.tape)
