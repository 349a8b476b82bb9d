-- What a kind of call has to show for the list of the third demand to hold it: that it has the shape of every call, what its walk is made of, and where that takes the plain machine.
use mathlib.Core.Path.{◌≡◌}
use mathlib.Core.Option.{Option}
use mathlib.Core.List.{◌++◌}
use Prim.Native.Nat.{ℕ, ◌+◌, ◌-◌, ◌<◌}
use Rattle.term.specs.Choice.{first}
use Rattle.term.specs.Table.{Table, table_in}
use Rattle.term.specs.Facts.{Facts}
use Rattle.machine.specs.Machine.{State}
use Rattle.machine.specs.Good.{Good}
use Rattle.machine.specs.Carried.{carried_between}
use Rattle.calls.specs.Session.{Stop, Outcome, Given}
use Rattle.calls.specs.Stops.{Way, back, Moment, beginning, moment_after, Room, room}
use Rattle.calls.specs.Winding.{Run, ended, wind}
use Rattle.calls.specs.Calls.{state_given, call_tests, outcome_by}
use Rattle.calls.specs.Visits.{found_by}
use Rattle.calls.specs.Moves.{Move, outcome_of, own_tests, way_of, run_of, Course, course}
use Rattle.calls.proofs.Order.{AllName}
use Rattle.calls.proofs.Stops.{Fits}
use Rattle.calls.proofs.Runs.{Unhindered, Trail}

-- One shape: the first that applies of 7 to 9 and the call's own tests refuses it, and else it winds from the state given.
abbrev pub move_number : Move → Given → Option ℕ
move_number m g = first (call_tests g ++ own_tests m g.n g.session.position)

abbrev pub shaped : Move → Given → Outcome
shaped m g = outcome_by (move_number m g) (state_given g) g (λ x. run_of m (table_in g.table g.n) (room g.log g.tape) x)

-- P holds of every walk this way by a count from a moment, of the same walk as found, and of none.
pub record OfWalks (way : Way) (T : Table) (r : Room) (P : Run → Type 0) (m : Moment) : Type 0 where
  pub walk : (c : ℕ) → P (wind way T r c m)
  pub found : (c : ℕ) → P (found_by (wind way T r c m))
  pub none : P (ended T m Stop.none)

module _ (T : Table) (r : Room) (s₀ : State) where
  -- The plain machine comes from a good state s₀ at position 0 that fits the slices to m in p steps, all within the slices.
  pub record Stood (p : ℕ) (m : Moment) : Type 0 where
    pub facts : Facts T
    pub good : Good T s₀
    pub fits : Fits r s₀
    pub trail : Trail T r (beginning s₀) p m

  -- A walk from p to q on that trail.
  pub record Arrives (p q : ℕ) (run : Run) : Type 0 where
    pub trail : Trail T r (beginning s₀) q run.last
    pub steps_are : run.steps ≡ (q - p) + (p - q)
    pub carried_is : run.carried ≡ carried_between T s₀ p q

  -- A walk one way that takes p along a course.
  pub record Takes (way : Way) (p : ℕ) (c : Course) (run : Run) : Type 0 where
    pub arrives : Arrives p c.to run
    pub unhindered : way ≡ back → Unhindered run.stop
    pub stop_says : c.says run.stop

pub record MoveLaws (m : Move) : Type 1 where
  -- its own numbers come after those of every call
  pub names : (n p : ℕ) → AllName (λ k. 9 < k) (own_tests m n p)
  pub shape : (g : Given) → outcome_of m g ≡ shaped m g
  pub walks : (T : Table) (r : Room) (P : Run → Type 0) (x : Moment) → OfWalks (way_of m x.position) T r P x → P (run_of m T r x)
  pub takes : (T : Table) (r : Room) (s₀ : State) (p : ℕ) (s : State) → Stood T r s₀ p (moment_after T s₀ p s) → Takes T r s₀ (way_of m p) p (course T s₀ r m p) (run_of m T r (moment_after T s₀ p s))
