-- A call by its number, whatever its kind: refused, or wound from the state that it is given.
use mathlib.Core.Path.{◌≡◌, sym, ◌∙◌}
use mathlib.Core.Option.{none, some}
use mathlib.Core.List.{List}
use Prim.Native.Nat.{ℕ, ◌-◌, ◌≤◌, ◌<◌}
use borrow.Author.Tests.{le-leb, lt-leb}
use Rattle.std.specs.Prelude.{Ok, Err}
use Rattle.term.specs.Table.{table_in}
use Rattle.term.specs.Refusal.{refusal_number}
use Rattle.term.specs.declared.refusal.Refusal.{Refusal}
use Rattle.machine.specs.Machine.{State}
use Rattle.calls.specs.Session.{Given, Outcome}
use Rattle.calls.specs.Stops.{moment_of, room}
use Rattle.calls.specs.Calls.{call_number, wound, forward_of, back_of, go_to_of}
use Rattle.calls.specs.Moves.{Move, outcome_of, own_number, run_of}
use Rattle.calls.proofs.Entering.{entered}
use Rattle.calls.proofs.MoveLaws.{move_number}
use Rattle.calls.proofs.Answers.{by_number, unrefused_by, moved}
use Rattle.session.specs.Types.{session_meant, walk_meant, outcome_meant, lent}
use Rattle.session.specs.Steps.{TokenAt, Ready}
use Rattle.session.specs.declared.Session as Declared
use Rattle.session.specs.declared.Outcome as Came

-- A call that none of 7 to 9 refuses is given a state.
pub call_ready : (w : List ℕ) (n : ℕ) (se : Declared.Session) (ls ts : List ℕ) → call_number (lent w n se ls ts) ≡ none → Ready w n se ls ts
call_ready w n se ls ts free = let (s, h) = entered (lent w n se ls ts) free in record { state = s; token = record { enters = h } }

module _ (m : Move) (w : List ℕ) (n : ℕ) (se : Declared.Session) (ls ts : List ℕ) where
  abbrev given : Given
  given = lent w n se ls ts

  pub move_refuses : (r : Refusal) → some (refusal_number r) ≡ move_number m given → outcome_meant se (Err r) ls ts ≡ outcome_of m given
  move_refuses r e = sym (by_number m given (refusal_number r) (sym e))

  -- The walk, as the code promises it from every state held, is the call's where no number of its own refuses it.
  pub winds_from : {s : State} → TokenAt w n se ls ts s → own_number m n se.position ≡ none → (o : Came.Outcome) (ls' ts' : List ℕ)
      → ((u : State) → TokenAt w n se ls ts u → walk_meant o ls' ts' ≡ wound (room ls ts) (run_of m (table_in w n) (room ls ts) (moment_of (session_meant se) u)))
      → walk_meant o ls' ts' ≡ outcome_of m given
  winds_from {s} h own o ls' ts' i = i s h ∙ sym (moved m given s h.enters own)

  -- no number
  module _ (e : none ≡ move_number m given) where
    free : (call_number given ≡ none) × (own_number m n se.position ≡ none)
    free = unrefused_by m given (sym e)

    pub move_ready : Ready w n se ls ts
    move_ready = call_ready w n se ls ts free.0

    pub move_winds : (o : Came.Outcome) (ls' ts' : List ℕ)
        → ((u : State) → TokenAt w n se ls ts u → walk_meant o ls' ts' ≡ wound (room ls ts) (run_of m (table_in w n) (room ls ts) (moment_of (session_meant se) u)))
        → outcome_meant se (Ok o) ls' ts' ≡ outcome_of m given
    move_winds = winds_from move_ready.token free.1

-- "go-to takes a position and is forward or back by the difference"
module _ (g : Given) (q : ℕ) (o : Outcome) where
  pub goes_forward : g.session.position ≤ q → o ≡ forward_of g (q - g.session.position) → o ≡ go_to_of g q
  unfolding go_to_of
  goes_forward h e = rw (le-leb g.session.position q h) e

  pub goes_back : q < g.session.position → o ≡ back_of g (g.session.position - q) → o ≡ go_to_of g q
  unfolding go_to_of
  goes_back h e = rw (lt-leb g.session.position q h) e
