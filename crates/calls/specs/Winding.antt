-- The steps of one call: how far it goes, how it stops, its peak, and the words that it carries.
use Rattle.std.specs.Prelude.{ℕ, zero, suc, ◌+◌, max}
use Rattle.term.specs.Choice.{if_some}
use Rattle.term.specs.Table.{Table}
use Rattle.machine.specs.Machine.{State}
use Rattle.machine.specs.Carried.{carried, carried_back}
use Rattle.calls.specs.Session.{Stop, spent, jam}
use Rattle.calls.specs.Stops.{Way, forward, back, Moment, Room, next_by, stop_before}
use Rattle.calls.specs.Weight.{weight}

-- where a call ends, the steps made, the stop, and the peak: "the greatest such weight" (document 02, change 2) "over the states stood in, first and last included";
-- and how many words its steps carried (document 02, change 6: "each winding call shall carry the sum")
pub record Run : Type 0 where
  pub last : Moment
  pub steps : ℕ
  pub stop : Stop
  pub peak : ℕ
  pub carried : ℕ

-- the words that a step carries, either way
abbrev pub carried_by : Way → Table → State → ℕ
carried_by forward T s = carried T s
carried_by back T s = carried_back T s

abbrev pub ended : Table → Moment → Stop → Run
ended T m x = record { last = m; steps = 0; stop = x; peak = weight T m.state; carried = 0 }

-- a run with one step before it, from m
abbrev pub longer : Way → Table → Moment → Run → Run
longer way T m run = record {
  last = run.last;
  steps = suc run.steps;
  stop = run.stop;
  peak = max (weight T m.state) run.peak;
  carried = carried_by way T m.state + run.carried;
}

-- Steps until the first stop: the tests are put before each step, with the count one lower each time. (A count of 0 is spent, the first test either way; where there is no step the tests have said jam.)
unfoldable pub wind : Way → Table → Room → ℕ → Moment → Run
wind way T r zero m = ended T m spent
wind way T r (suc count) m =
    if_some (stop_before way T r (suc count) m)
    (λ x. ended T m x)
    (λ _. if_some (next_by way T m) (λ u. longer way T m (wind way T r count u)) (λ _. ended T m jam))
