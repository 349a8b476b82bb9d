-- What every kind of call answers: refused, it gives back what it was given; else it winds from the state that lies in its slices. What holds of both holds of every answer.
use mathlib.Core.Path.{◌≡◌, refl, ap, ◌∙◌}
use mathlib.Core.Option.{Option, none, some, some-ne-none, some-injective}
use mathlib.Core.List.{List}
use Prim.Native.Nat.{ℕ, ◌≤◌, ◌<◌}
use native.Mathlib.Omega.{arith}
use Rattle.term.specs.Choice.{if_some}
use Rattle.term.specs.Table.{Table, table_in}
use Rattle.term.specs.Accepted.{Accepted}
use Rattle.machine.specs.Machine.{State}
use Rattle.machine.specs.Good.{Good}
use Rattle.calls.specs.Session.{refused, Outcome, Given}
use Rattle.calls.specs.Stops.{Moment, moment_of, Room, room}
use Rattle.calls.specs.Calls.{longest, call_tests, call_number, Enters, refused_outcome, wound}
use Rattle.calls.specs.Moves.{Move, outcome_of, own_tests, own_number, way_of, run_of}
use Rattle.calls.specs.Demand.{given_to, RefusedCall}
use Rattle.calls.proofs.Order.{first_of_both, first_names}
use Rattle.calls.proofs.Unrefused.{call_names}
use Rattle.calls.proofs.Stops.{Fits}
use Rattle.calls.proofs.Moments.{FewTurns}
use Rattle.calls.proofs.Visits.{Unrefused, found_unrefused, none_unrefused, wind_unrefused}
use Rattle.calls.proofs.Entering.{state_given_lem, enters_unrefused, entered, laid_down, laid_room, laid_enters}
use Rattle.calls.proofs.MoveLaws.{move_number, OfWalks}
use Rattle.calls.proofs.EachMove.{laws}

-- a refused call
pub as_given : (k : ℕ) (g : Given) → RefusedCall g (refused_outcome k g)
as_given k g = record { session_is = refl; log_is = refl; tape_is = refl; no_steps = refl; no_peak = refl; nothing_carried = refl }

-- No walk ends in a refusal.
pub run_unrefused : (m : Move) (T : Table) (r : Room) (x : Moment) → Unrefused (run_of m T r x).stop
run_unrefused m T r x =
    (laws m).walks T r (λ run. Unrefused run.stop) x (record { walk = λ c. wind_unrefused (way_of m x.position) T r c x; found = λ c. found_unrefused; none = none_unrefused })

module _ (m : Move) (g : Given) where
  -- Its number is that of 7 to 9, and else its own.
  number_by : move_number m g ≡ if_some (call_number g) (λ k. some k) (λ _. own_number m g.n g.session.position)
  unfolding call_number
  number_by = first_of_both (call_tests g) (own_tests m g.n g.session.position)

  module _ (k : ℕ) where
    pub by_number : move_number m g ≡ some k → outcome_of m g ≡ refused_outcome k g
    by_number e = (laws m).shape g ∙ rw e

    pub move_refused : call_number g ≡ some k → outcome_of m g ≡ refused_outcome k g
    move_refused e = by_number (rw (number_by, e))

    pub own_refused : call_number g ≡ none → own_number m g.n g.session.position ≡ some k → outcome_of m g ≡ refused_outcome k g
    own_refused e o = by_number (rw (number_by, e) o)

  -- No number: none of 7 to 9, and none of its own.
  pub unrefused_by : move_number m g ≡ none → (call_number g ≡ none) × (own_number m g.n g.session.position ≡ none)
  unrefused_by h = by_call (call_number g) refl
    where
      by_call : (o : Option ℕ) → call_number g ≡ o → (call_number g ≡ none) × (own_number m g.n g.session.position ≡ none)
      by_call (some k) e = absurd (some-ne-none k (rw (number_by, e) at h))
      by_call none e = (e, rw (number_by, e) at h)

  -- Of all numbers that refuse a call 7 is the least.
  pub move_names : (k : ℕ) → move_number m g ≡ some k → 7 ≤ k
  move_names k h = by_call (call_number g) refl
    where
      by_call : (o : Option ℕ) → call_number g ≡ o → 7 ≤ k
      by_call (some j) e = let same : j ≡ k = some-injective j k (rw (number_by, e) at h) in let from_seven = (call_names g j e).0 in omega arith
      by_call none e =
          let above : 9 < k = first_names (λ j. 9 < j) (own_tests m g.n g.session.position) ((laws m).names g.n g.session.position) k (rw (number_by, e) at h) in
          omega arith

  -- A call that enters at a state, and is not turned away, winds from it.
  pub moved : (s : State) → Enters g s → own_number m g.n g.session.position ≡ none
      → outcome_of m g ≡ wound (room g.log g.tape) (run_of m (table_in g.table g.n) (room g.log g.tape) (moment_of g.session s))
  moved s h o = (laws m).shape g ∙ rw (number_by, enters_unrefused g s h, o, state_given_lem g s h)

  -- What holds of a refusal and of its walk holds of its answer.
  module _ (P : Outcome → Type 0) (refuses : (k : ℕ) → P (refused_outcome k g))
      (runs : (s : State) → Enters g s → P (wound (room g.log g.tape) (run_of m (table_in g.table g.n) (room g.log g.tape) (moment_of g.session s)))) where
    pub each_answer : P (outcome_of m g)
    each_answer = by_call (call_number g) refl
      where
        by_own : call_number g ≡ none → (o : Option ℕ) → own_number m g.n g.session.position ≡ o → P (outcome_of m g)
        by_own e (some k) o = rw (own_refused k e o) (refuses k)
        by_own e none o = let (s, h) = entered g e in rw (moved s h o) (runs s h)

        by_call : (o : Option ℕ) → call_number g ≡ o → P (outcome_of m g)
        by_call (some k) e = rw (move_refused k e) (refuses k)
        by_call none e = by_own e (own_number m g.n g.session.position) refl

  pub each_outcome : (P : Outcome → Type 0) → ((k : ℕ) → P (refused_outcome k g))
      → ((s : State) → Enters g s → OfWalks (way_of m g.session.position) (table_in g.table g.n) (room g.log g.tape) (λ run. P (wound (room g.log g.tape) run)) (moment_of g.session s))
      → P (outcome_of m g)
  each_outcome P refuses walks =
      each_answer P refuses
      (λ s h. (laws m).walks (table_in g.table g.n) (room g.log g.tape) (λ run. P (wound (room g.log g.tape) run)) (moment_of g.session s) (walks s h))

  pub refused_unchanged : (k : ℕ) → (outcome_of m g).stop ≡ refused k → RefusedCall g (outcome_of m g)
  refused_unchanged k =
      each_answer (λ o. o.stop ≡ refused k → RefusedCall g o) (λ j e. as_given j g)
      (λ s h e. absurd (run_unrefused m (table_in g.table g.n) (room g.log g.tape) (moment_of g.session s) k e))

-- A call on a good state laid down in slices that it fits, with no more turns than its position.
module _ (m : Move) (r : Room) (x : Moment) (fits : Fits r x.state) (w : List ℕ) (n : ℕ) (A : Accepted w n) (good : Good (table_in w n) x.state) (few : FewTurns x)
    (short_log : r.log ≤ longest) (short_tape : r.tape ≤ longest) where
  pub laid_moved : own_number m n x.position ≡ none → outcome_of m (given_to w n (laid_down r x)) ≡ wound r (run_of m (table_in w n) r x)
  laid_moved o =
      moved m (given_to w n (laid_down r x)) x.state (laid_enters r x fits w n A good few short_log short_tape) o
      ∙ ap (λ q. wound q (run_of m (table_in w n) q x)) (laid_room r x fits)

  pub laid_refused : (k : ℕ) → own_number m n x.position ≡ some k → outcome_of m (given_to w n (laid_down r x)) ≡ refused_outcome k (given_to w n (laid_down r x))
  laid_refused k o =
      own_refused m (given_to w n (laid_down r x)) k (enters_unrefused (given_to w n (laid_down r x)) x.state (laid_enters r x fits w n A good few short_log short_tape)) o
