-- What a call carries is "at most 32,768 times the steps made" (document 02, change 6), whatever it is given.
use mathlib.Core.Path.{◌≡◌}
use mathlib.Core.Option.{some}
use Prim.Native.Nat.{ℕ, suc, ◌*◌, ◌≤◌, zero-le}
use native.Mathlib.Omega.{arith}
use Rattle.term.specs.Table.{Table, table_in}
use Rattle.machine.specs.Machine.{State}
use Rattle.machine.proofs.Carried.{log_change, carried_change, carried_back_change}
use Rattle.calls.specs.Session.{Given}
use Rattle.calls.specs.Stops.{Way, forward, back, Moment, moment_of, Room, room, log_size, next_by}
use Rattle.calls.specs.Winding.{carried_by, wind}
use Rattle.calls.specs.Calls.{longest, Enters}
use Rattle.calls.specs.Moves.{Move, outcome_of, way_of}
use Rattle.calls.proofs.Stops.{Fits, fits_next}
use Rattle.calls.proofs.Winds.{each_run}
use Rattle.calls.proofs.Moments.{next_forward, next_back}
use Rattle.calls.proofs.Entering.{enters_fits}
use Rattle.calls.proofs.Answers.{each_outcome}

-- A step either way carries the words by which the log grows or shrinks,
pub step_carries : (way : Way) (T : Table) (m u : Moment) → next_by way T m ≡ some u
    → carried_by way T m.state ≡ log_change m.state.log u.state.log
step_carries forward T m u n = carried_change T m.state u.state (next_forward T m u n).0
step_carries back T m u n = carried_back_change T m.state u.state (next_back T m u n).0

-- so no more than the log's slice holds,
pub step_carries_few : (way : Way) (T : Table) (r : Room) → r.log ≤ longest → (m u : Moment) → next_by way T m ≡ some u → Fits r m.state → Fits r u.state
    → carried_by way T m.state ≤ longest
step_carries_few way T r short m u n f h =
    let a : log_size m.state ≤ r.log = f.log_fits in
    let b : log_size u.state ≤ r.log = h.log_fits in
    omega (arith, step_carries way T m u n)

run_carries_few : (way : Way) (T : Table) (r : Room) → r.log ≤ longest → (c : ℕ) (m : Moment) → Fits r m.state → (wind way T r c m).carried ≤ longest * (wind way T r c m).steps
run_carries_few way T r short =
    each_run way T r (λ c m run. Fits r m.state → run.carried ≤ longest * run.steps) (λ m f. zero-le) (λ c m x e f. zero-le)
    (λ c m u run e n more f.
    let h : Fits r u.state = fits_next way T r (suc c) m e u n in
    let k : carried_by way T m.state ≤ longest = step_carries_few way T r short m u n f h in
    let l : run.carried ≤ longest * run.steps = more h in
    omega arith)

-- and a call at most that for each of its steps:
pub carries_few : (m : Move) (g : Given) → (outcome_of m g).carried ≤ longest * (outcome_of m g).steps
carries_few m g =
    each_outcome m g (λ o. o.carried ≤ longest * o.steps) (λ k. zero-le) (λ s h. record { walk = from_here s h (way_of m g.session.position); found = from_here s h (way_of m g.session.position); none = zero-le })
  where
    from_here : (s : State) → Enters g s → (way : Way) (c : ℕ)
        → (let run = wind way (table_in g.table g.n) (room g.log g.tape) c (moment_of g.session s) in run.carried ≤ longest * run.steps)
    from_here s h way c =
        run_carries_few way (table_in g.table g.n) (room g.log g.tape) h.short_log c (moment_of g.session s) (enters_fits g s h)

-- half of what document 02 allows.
pub carried_at_most : (m : Move) (g : Given) → (outcome_of m g).carried ≤ 32768 * (outcome_of m g).steps
carried_at_most m g = omega (arith, carries_few m g)
