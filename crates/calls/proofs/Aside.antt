-- Turns put aside: no test of a call forward, and nothing else that it answers, goes by them.
use mathlib.Core.Path.{◌≡◌, refl, sym, ap, ◌∙◌}
use mathlib.Core.Option.{Option, none, some}
use mathlib.Core.List.{List}
use Prim.Native.Nat.{ℕ, suc, ◌+◌, ◌≤◌, zero-le}
use borrow.Author.Tests.{le-leb}
use Rattle.term.specs.Table.{Table, table_in}
use Rattle.machine.specs.Machine.{State, step}
use Rattle.calls.specs.Session.{Session, Given}
use Rattle.calls.specs.Stops.{forward, Moment, moment, moment_of, turn_to, Room, room, next_by, stop_before}
use Rattle.calls.specs.Winding.{Run, longer, wind}
use Rattle.calls.specs.Held.{well_formed, state_in}
use Rattle.calls.specs.Calls.{state_given, call_number, wound, outcome_by, wind_of}
use Rattle.calls.specs.Aside.{unturned, given_unturned, answered_unturned, SameButTurns}
use Rattle.calls.proofs.Winds.{each_run}
use Rattle.calls.proofs.Moments.{next_forward}
use Rattle.calls.proofs.Visits.{wind_none, wind_stops, wind_goes_on}

-- a moment with other turns
abbrev with_turns : ℕ → Moment → Moment
with_turns k m = moment m.state m.position k

-- a run with no turns at its end
abbrev run_unturned : Run → Run
run_unturned run = record { last = with_turns 0 run.last; steps = run.steps; stop = run.stop; peak = run.peak; carried = run.carried }

module _ (T : Table) (r : Room) where
  same_stop : (c k : ℕ) (m : Moment) → stop_before forward T r c (with_turns k m) ≡ stop_before forward T r c m
  unfolding stop_before
  same_stop c k m = by_step (step T m.state) refl
    where
      by_step : (o : Option State) → step T m.state ≡ o → stop_before forward T r c (with_turns k m) ≡ stop_before forward T r c m
      by_step none e = rw e refl
      by_step (some u) e = rw e refl

  same_next : (m u : Moment) (k : ℕ) → next_by forward T m ≡ some u → next_by forward T (with_turns k m) ≡ some (with_turns (k + turn_to m u.state) u)
  same_next m u k n = let (came, is) = next_forward T m u n in rw came (ap (λ x. some (moment u.state x.position (k + turn_to m u.state))) (sym is))

  same_run : (c : ℕ) (m : Moment) (k : ℕ) → run_unturned (wind forward T r c m) ≡ run_unturned (wind forward T r c (with_turns k m))
  same_run =
      each_run forward T r (λ c m run. (k : ℕ) → run_unturned run ≡ run_unturned (wind forward T r c (with_turns k m)))
      (λ m k. ap run_unturned (sym (wind_none forward T r (with_turns k m))))
      (λ c m x e k. ap run_unturned (sym (wind_stops forward T r c (with_turns k m) x (same_stop (suc c) k m ∙ e))))
      (λ c m u run e n more k.
      let v : Moment = with_turns (k + turn_to m u.state) u in
      ap (longer forward T m) (more (k + turn_to m u.state))
      ∙ ap run_unturned (sym (wind_goes_on forward T r c (with_turns k m) v (same_stop (suc c) k m ∙ e) (same_next m u k n) c)))

same_state : (T : Table) (se : Session) (ls ts : List ℕ) → se.turns ≤ se.position → state_in T (unturned se) ls ts ≡ state_in T se ls ts
unfolding state_in well_formed
same_state T se ls ts h = rw (le-leb se.turns se.position h, le-leb 0 se.position zero-le) refl

module _ (g : Given) (c : ℕ) where
  abbrev walk : Moment → Run
  walk m = wind forward (table_in g.table g.n) (room g.log g.tape) c m

  same_answer : (o : Option ℕ) (st : Option State) → answered_unturned (outcome_by o st g walk) ≡ answered_unturned (outcome_by o st (given_unturned g) walk)
  same_answer (some k) st = refl
  same_answer none none = refl
  same_answer none (some s) = ap (wound (room g.log g.tape)) (same_run (table_in g.table g.n) (room g.log g.tape) c (moment_of g.session s) 0)

pub same_but_turns : SameButTurns
unfolding wind_of call_number
same_but_turns g c h =
    let same : state_given (given_unturned g) ≡ state_given g = same_state (table_in g.table g.n) g.session g.log g.tape h in
    rw same (same_answer g c (call_number g) (state_given g))
