-- There and back: a call one way, and the call the other way by the steps that it made, give back what was given. The theorems are `round_trip` (proofs/RoundTrip.antt), `back_trip` and `none_gives_back` (proofs/BackTrip.antt).
use Rattle.std.specs.Prelude.{◌≡◌}
use Rattle.term.specs.Table.{table_in}
use Rattle.machine.specs.Machine.{State}
use Rattle.calls.specs.Session.{Outcome, Given}
use Rattle.calls.specs.Weight.{weight}
use Rattle.calls.specs.Calls.{forward_of, back_of}
use Rattle.calls.specs.Demand.{left_by, given_to}

-- the call back, and the call forward, on what a call on g left, by the steps that it made
abbrev pub back_by : Given → Outcome → Outcome
back_by g o = back_of (given_to g.table g.n (left_by o)) o.steps

abbrev pub forward_by : Given → Outcome → Outcome
forward_by g o = forward_of (given_to g.table g.n (left_by o)) o.steps

-- After a and then b the session and every word of both slices are those given, and b made as many steps as a and carried as many words.
pub record Restored (g : Given) (a b : Outcome) : Type 0 where
  pub session_is : b.session ≡ g.session
  pub log_is : b.log ≡ g.log
  pub tape_is : b.tape ≡ g.tape
  pub steps_are : b.steps ≡ a.steps
  pub carried_is : b.carried ≡ a.carried

-- A call back to a spot that says none "gives back the session and slices it got, with steps 0 and the present state's own peak" (document 02, change 5), and carries nothing, whatever its search carried.
pub record Unmoved (g : Given) (s : State) (o : Outcome) : Type 0 where
  pub session_is : o.session ≡ g.session
  pub log_is : o.log ≡ g.log
  pub tape_is : o.tape ≡ g.tape
  pub no_steps : o.steps ≡ 0
  pub own_weight : o.peak ≡ weight (table_in g.table g.n) s
  pub nothing_carried : o.carried ≡ 0
