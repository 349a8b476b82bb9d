-- A session turned about and the session after a step: they hold the state turned about, and the state after the step.
use mathlib.Core.Path.{◌≡◌, refl, sym, ap, ◌∙◌, subst}
use mathlib.Core.Bool.{cond}
use mathlib.Core.Option.{none, some, map, some-injective}
use mathlib.Core.List.{List}
use Prim.Native.Nat.{ℕ, ◌+◌, ◌-◌, ◌≤◌}
use native.Mathlib.Numerals.{add-one}
use lib.ListN.{length}
use Rattle.term.specs.Table.{Table, table_in}
use Rattle.machine.specs.Entries.{tape_words}
use Rattle.machine.specs.Machine.{State, turned, turn, step}
use Rattle.machine.specs.Carried.{carried}
use Rattle.machine.specs.Turns.{turn_between}
use Rattle.machine.proofs.Reverse.{turn_good}
use Rattle.calls.specs.Session.{Session}
use Rattle.calls.specs.Stops.{Way, forward, back, Moment, moment, moment_of, backward, leaves_turns, log_size, tape_size, next_by}
use Rattle.calls.specs.Winding.{carried_by}
use Rattle.calls.specs.Held.{Holds}
use Rattle.calls.proofs.Moments.{next_forward, next_back}
use Rattle.session.specs.Types.{session_meant}
use Rattle.session.specs.Steps.{TokenAt}
use Rattle.session.specs.Passes.{facing_session, facing, position_after, session_after}
use Rattle.session.specs.declared.Session as Declared

module _ {T : Table} {se : Session} {ls ts : List ℕ} {s : State} (h : Holds T se ls ts s) where
  -- position and turns are held by no word
  holds_at : (p k : ℕ) → k ≤ p → Holds T (record { node = se.node; dir = se.dir; position = p; log_length = se.log_length; tape_length = se.tape_length; turns = k }) ls ts s
  holds_at p k few = record {
    node_is = h.node_is;
    dir_is = h.dir_is;
    good = h.good;
    log_fits = h.log_fits;
    tape_fits = h.tape_fits;
    log_length_is = h.log_length_is;
    tape_length_is = h.tape_length_is;
    log_lies = h.log_lies;
    tape_lies = h.tape_lies;
    turns_fit = few;
  }

  holds_facing : (way : Way) → Holds T (facing_session way se) ls ts (facing way s)
  holds_facing forward = h
  holds_facing back = record {
    node_is = h.node_is;
    dir_is = ap turned h.dir_is;
    good = turn_good T s h.good;
    log_fits = h.log_fits;
    tape_fits = h.tape_fits;
    log_length_is = h.log_length_is;
    tape_length_is = h.tape_length_is;
    log_lies = h.log_lies;
    tape_lies = h.tape_lies;
    turns_fit = h.turns_fit;
  }

holds_after : {T : Table} {se : Session} {ls ts : List ℕ} {s : State} → Holds T se ls ts s → (way : Way) (k : ℕ) → k ≤ position_after way se.position → Holds T (session_after way k se) ls ts (facing way s)
holds_after {se = se} h forward k few = holds_at h (se.position + 1) k few
holds_after {se = se} h back k few = holds_at (holds_facing h back) (se.position - 1) k few

module _ {w : List ℕ} {n : ℕ} {ls ts : List ℕ} {se anew : Declared.Session} {s : State} (h : TokenAt w n se ls ts s) where
  token_as : {x : Session} {u : State} → session_meant anew ≡ x → Holds (table_in w n) x ls ts u → TokenAt w n anew ls ts u
  token_as {x} {u} e k = record {
    enters = record {
      accepted_table = h.enters.accepted_table;
      short_log = h.enters.short_log;
      short_tape = h.enters.short_tape;
      holds = subst (λ y. Holds (table_in w n) y ls ts u) (sym e) k;
    };
  }

  pub token_facing : (way : Way) → session_meant anew ≡ facing_session way (session_meant se) → TokenAt w n anew ls ts (facing way s)
  token_facing way e = token_as e (holds_facing h.enters.holds way)

  pub token_after : (way : Way) (k : ℕ) → k ≤ position_after way se.position → session_meant anew ≡ session_after way k (session_meant se) → TokenAt w n anew ls ts (facing way s)
  token_after way k few e = token_as e (holds_after h.enters.holds way k few)

-- Turning about changes no tape, the length of no list, no position and no turns.
pub same_tape : (way : Way) (u : State) → (facing way u).tape ≡ u.tape
same_tape forward u = refl
same_tape back u = refl

pub log_facing : (way : Way) (u : State) → log_size (facing way u) ≡ log_size u
log_facing forward u = refl
log_facing back u = refl

pub tape_facing : (way : Way) (u : State) → tape_size (facing way u) ≡ tape_size u
tape_facing way u = ap (λ t. length (tape_words t)) (same_tape way u)

pub position_facing : (way : Way) (se : Session) → (facing_session way se).position ≡ se.position
position_facing forward se = refl
position_facing back se = refl

pub turns_facing : (way : Way) (se : Session) → (facing_session way se).turns ≡ se.turns
turns_facing forward se = refl
turns_facing back se = refl

-- A step from what is turned about leads, turned again, to the state of the next moment, if there is one;
pub next_state : (way : Way) (T : Table) (s u : State) (se : Session) (m : Moment) → step T (facing way s) ≡ some u → next_by way T (moment_of se s) ≡ some m → m.state ≡ facing way u
next_state forward T s u se m e n = some-injective m.state u (sym (next_forward T (moment_of se s) m n).0 ∙ e)
next_state back T s u se m e n = some-injective m.state (turn u) (sym (next_back T (moment_of se s) m n).0 ∙ ap (map turn) e)

-- forward there is one, and back where it leaves turns neither below 0 nor above the new position.
pub next_onward : (T : Table) (s u : State) (se : Session) → step T s ≡ some u → next_by forward T (moment_of se s) ≡ some (moment u (se.position + 1) (se.turns + turn_between s.dir u.dir))
next_onward T s u se e = rw e (ap (λ p. some (moment u p (se.turns + turn_between s.dir u.dir))) (sym (add-one se.position)))

pub next_backward : (T : Table) (s u : State) (se : Session) → step T (turn s) ≡ some u
    → next_by back T (moment_of se s) ≡ cond (leaves_turns (moment_of se s) (turn u)) (some (backward (moment_of se s) (turn u))) none
next_backward T s u se e = rw e refl

-- A step carries what the step from the turned state does.
pub carried_facing : (way : Way) (T : Table) (s : State) → carried T (facing way s) ≡ carried_by way T s
carried_facing forward T s = refl
carried_facing back T s = refl
