-- The numbers 7 to 9 in their order, what a refusal answers, and the four calls of document 01 on any words at all: open, forward, back and go-to.
use Rattle.std.specs.Prelude.{Bool, ◌||◌, not, List, [], ◌∷◌, ◌++◌, ℕ, ◌-◌, ◌≤◌, length, leb, ltb}
use Rattle.std.proofs.Math.Option.{Option, none, some}
use Rattle.term.specs.Choice.{Test, ◌⇒◌, first, is_none, choose}
use Rattle.term.specs.Table.{table_in}
use Rattle.term.specs.Accepted.{Accepted, accepted}
use Rattle.machine.specs.Entries.{log_words, tape_words}
use Rattle.machine.specs.Machine.{down, State}
use Rattle.machine.specs.Slice.{slice}
use Rattle.calls.specs.Session.{Session, refused, Outcome, Opening, Given}
use Rattle.calls.specs.Stops.{Way, forward, back, Moment, moment_of, start_moment, Room, room, log_size, tape_size}
use Rattle.calls.specs.Winding.{Run, wind}
use Rattle.calls.specs.Held.{Holds, state_in}

-- "at most 16,384 long"
abbrev pub longest : ℕ
longest = 16384

-- number 8: "log or tape slice over 16,384 words"
abbrev pub too_long : List ℕ → List ℕ → Bool
too_long ls ts = ltb longest (length ls) || ltb longest (length ts)

-- "The nine numbers, in order of test": 7 and 8 are put to what every call is lent,
abbrev pub lent_tests : List ℕ → ℕ → List ℕ → List ℕ → List (Test ℕ)
lent_tests w n ls ts = (not (accepted w n) ⇒ 7) ∷ (too_long ls ts ⇒ 8) ∷ []

unfoldable pub lent_number : List ℕ → ℕ → List ℕ → List ℕ → Option ℕ
lent_number w n ls ts = first (lent_tests w n ls ts)

-- "open 7, 8;"
abbrev pub open_number : List ℕ → ℕ → List ℕ → List ℕ → Option ℕ
open_number w n ls ts = lent_number w n ls ts

-- the state that a call is given, if there is one
abbrev pub state_given : Given → Option State
state_given g = state_in (table_in g.table g.n) g.session g.log g.tape

-- "the others 7, 8, 9"
abbrev pub call_tests : Given → List (Test ℕ)
call_tests g = lent_tests g.table g.n g.log g.tape ++ ((is_none (state_given g) ⇒ 9) ∷ [])

unfoldable pub call_number : Given → Option ℕ
call_number g = first (call_tests g)

-- None of 7, 8 and 9 applies, and this is the state that the call is given: what `call_number` tests, in words (`entered` and `enters_unrefused`, proofs/Entering.antt).
pub record Enters (g : Given) (s : State) : Type 0 where
  pub accepted_table : Accepted g.table g.n
  pub short_log : length g.log ≤ longest
  pub short_tape : length g.tape ≤ longest
  pub holds : Holds (table_in g.table g.n) g.session g.log g.tape s

-- A moment as a session, and its lists laid down in slices as long as those lent.
abbrev pub session_at : Moment → Session
session_at m = record {
  node = m.state.node;
  dir = m.state.dir;
  position = m.position;
  log_length = log_size m.state;
  tape_length = tape_size m.state;
  turns = m.turns;
}

abbrev pub log_slice : Room → Moment → List ℕ
log_slice r m = slice r.log (log_words m.state.log)

abbrev pub tape_slice : Room → Moment → List ℕ
tape_slice r m = slice r.tape (tape_words m.state.tape)

-- "a refused open answers node 0, down, and 0 for every other number", and no lent word differs.
abbrev pub no_session : Session
no_session = record { node = 0; dir = down; position = 0; log_length = 0; tape_length = 0; turns = 0 }

-- "Open gives the start state at position 0 and zeroes both slices."
abbrev pub opening_by : Option ℕ → List ℕ → List ℕ → Opening
opening_by (some k) ls ts = record { session = no_session; refusal = k; log = ls; tape = ts }
opening_by none ls ts = record {
  session = session_at start_moment;
  refusal = 0;
  log = log_slice (room ls ts) start_moment;
  tape = tape_slice (room ls ts) start_moment;
}

unfoldable pub open_of : List ℕ → ℕ → List ℕ → List ℕ → Opening
open_of w n ls ts = opening_by (open_number w n ls ts) ls ts

-- "The session is then the one given, steps and peak are 0, and no lent word differs." "Any number that a later call adds to its answer is 0 in a refusal."
abbrev pub refused_outcome : ℕ → Given → Outcome
refused_outcome k g = record { session = g.session; steps = 0; stop = refused k; peak = 0; carried = 0; log = g.log; tape = g.tape }

abbrev pub wound : Room → Run → Outcome
wound r run = record {
  session = session_at run.last;
  steps = run.steps;
  stop = run.stop;
  peak = run.peak;
  carried = run.carried;
  log = log_slice r run.last;
  tape = tape_slice r run.last;
}

-- Refused by number, or wound from the state given. (Without a state number 9 applies.)
abbrev pub outcome_by : Option ℕ → Option State → Given → (Moment → Run) → Outcome
outcome_by (some k) o g run = refused_outcome k g
outcome_by none (some s) g run = wound (room g.log g.tape) (run (moment_of g.session s))
outcome_by none none g run = refused_outcome 9 g

-- a call by a count, either way
unfoldable pub wind_of : Way → Given → ℕ → Outcome
wind_of way g count = outcome_by (call_number g) (state_given g) g (λ m. wind way (table_in g.table g.n) (room g.log g.tape) count m)

abbrev pub forward_of : Given → ℕ → Outcome
forward_of g count = wind_of forward g count

abbrev pub back_of : Given → ℕ → Outcome
back_of g count = wind_of back g count

-- "go-to takes a position and is forward or back by the difference"
unfoldable pub go_to_of : Given → ℕ → Outcome
go_to_of g q =
    choose (leb g.session.position q) (λ _. forward_of g (q - g.session.position)) (λ _. back_of g (g.session.position - q))
