-- The stops before a step forward and before a step back, in the order of document 01, "A session and its calls".
use Rattle.std.specs.Prelude.{Bool, true, false, ◌&&◌, cond, List, [], ◌∷◌, ◌++◌, ℕ, suc, ◌+◌, ◌-◌, ◌≤◌, length, leb, ltb, eqb}
use Rattle.std.proofs.Math.Option.{Option, none, some}
use Rattle.term.specs.Choice.{Test, ◌⇒◌, first, ◌>>=◌, is_none}
use Rattle.term.specs.Table.{Table, Kind, variable, abstraction, application, nothing, kind_at}
use Rattle.machine.specs.Entries.{log_words, Tape, tape_words}
use Rattle.machine.specs.Machine.{Dir, down, up, State, start_state, step, step_back}
use Rattle.machine.specs.Turns.{turn_between, turns_after}
use Rattle.calls.specs.Session.{Session, Stop, spent, jam, far, start, log_full, tape_full, answer}

-- which way a call winds
pub data Way : Type 0 where
  forward back : Way

-- the machine's state, its position, and its turns
pub record Moment : Type 0 where
  pub state : State
  pub position : ℕ
  pub turns : ℕ

abbrev pub moment : State → ℕ → ℕ → Moment
moment s p k = record { state = s; position = p; turns = k }

-- the moment at which a session stands that holds this state
abbrev pub moment_of : Session → State → Moment
moment_of se s = moment s se.position se.turns

-- "the start state at position 0", without a turn; other states may begin there too
abbrev pub beginning : State → Moment
beginning s = moment s 0 0

abbrev pub start_moment : Moment
start_moment = beginning start_state

-- p steps from a state s₀ at position 0, where they lead to s; "the number is that of the plain machine's first p steps" (document 02, change 9), counted on its states alone
abbrev pub moment_after : Table → State → ℕ → State → Moment
moment_after T s₀ p s = moment s p (turns_after T s₀ p)

-- the lengths of the lent slices
pub record Room : Type 0 where
  pub log : ℕ
  pub tape : ℕ

abbrev pub room : List ℕ → List ℕ → Room
room ls ts = record { log = length ls; tape = length ts }

-- "Position is 0 to 4,294,967,295."
abbrev pub greatest : ℕ
greatest = 4294967295

-- lengths in words
abbrev pub log_size : State → ℕ
log_size s = length (log_words s.log)

abbrev pub tape_size : State → ℕ
tape_size s = length (tape_words s.tape)

-- the turns of a step, either way, from m to the state u
abbrev pub turn_to : Moment → State → ℕ
turn_to m u = turn_between m.state.dir u.dir

-- One step either way, with its position and turns: the moment after a step forward from m to u,
abbrev pub onward : Moment → State → Moment
onward m u = moment u (suc m.position) (m.turns + turn_to m u)

-- and after a step back, which "takes them off again" (document 02, change 9),
abbrev pub backward : Moment → State → Moment
backward m u = moment u (m.position - 1) (m.turns - turn_to m u)

-- if that does not "leave turns below 0, or above the new position": in words,
pub record LeavesTurns (m : Moment) (u : State) : Type 0 where
  pub not_below : turn_to m u ≤ m.turns
  pub not_above : (backward m u).turns ≤ (backward m u).position

-- and as a test (`leaves_exactly`, proofs/Moments.antt).
abbrev pub leaves_turns : Moment → State → Bool
leaves_turns m u = leb (turn_to m u) m.turns && leb (backward m u).turns (backward m u).position

abbrev pub next_by : Way → Table → Moment → Option Moment
next_by forward T m = step T m.state >>= λ u. some (onward m u)
next_by back T m = step_back T m.state >>= λ u. cond (leaves_turns m u) (some (backward m u)) none

-- "down at an abstraction with an empty tape"
abbrev pub is_answer_by : Kind → Dir → Tape → Bool
is_answer_by abstraction down [] = true
is_answer_by abstraction down (x ∷ t) = false
is_answer_by abstraction up t = false
is_answer_by variable d t = false
is_answer_by application d t = false
is_answer_by nothing d t = false

abbrev pub is_answer : Table → State → Bool
is_answer T s = is_answer_by (kind_at T s.node) s.dir s.tape

-- What ends a walk before a step, but for a full slice.
abbrev pub halt_tests : Way → Table → ℕ → Moment → List (Test Stop)
-- "Before each step forward, in this order"
halt_tests forward T count m =
    (eqb count 0 ⇒ spent)
    ∷ (is_answer T m.state ⇒ answer m.state.node)
    ∷ (is_none (next_by forward T m) ⇒ jam)
    ∷ (eqb m.position greatest ⇒ far)
    ∷ []
-- "Before each step back": no rule is a jam, and so is a step back "that would leave turns below 0, or above the new position" (document 02, change 9).
halt_tests back T count m =
    (eqb count 0 ⇒ spent)
    ∷ (eqb m.position 0 ⇒ start)
    ∷ (is_none (next_by back T m) ⇒ jam)
    ∷ []

-- the first of them that applies
abbrev pub halt_before : Way → Table → ℕ → Moment → Option Stop
halt_before way T count m = first (halt_tests way T count m)

-- "the next log or tape longer than its slice"
abbrev pub longer_than : ℕ → (State → ℕ) → Option Moment → Bool
longer_than r size none = false
longer_than r size (some m) = ltb r (size m.state)

-- "log full or tape full", tested last, either way
abbrev pub full_tests : Room → Option Moment → List (Test Stop)
full_tests r next = (longer_than r.log log_size next ⇒ log_full) ∷ (longer_than r.tape tape_size next ⇒ tape_full) ∷ []

-- all of them in their order
unfoldable pub stop_before : Way → Table → Room → ℕ → Moment → Option Stop
stop_before way T r count m = first (halt_tests way T count m ++ full_tests r (next_by way T m))
