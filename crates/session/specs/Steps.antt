-- What the functions inside the session require and promise of one step: over the one state that the session and its slices hold.
use Rattle.std.specs.Prelude.{◌≡◌, Result, Ok, Err, List, ℕ, ◌≤◌, ◌<◌, length}
use Rattle.std.proofs.Math.Option.{some}
use Rattle.term.specs.Table.{table_in}
use Rattle.machine.specs.Machine.{State, step}
use Rattle.machine.specs.Carried.{carried}
use Rattle.calls.specs.Stops.{log_size, tape_size}
use Rattle.calls.specs.Calls.{Enters}
use Rattle.session.specs.Types.{lent}
use Rattle.session.specs.declared.Session as Declared
use Rattle.session.specs.declared.rules.Arrival as Arrived
use Rattle.session.specs.declared.rules.Full.{Full}
use Rattle.session.specs.declared.rules.Full.TheVariants.{Log, Tape}

-- The token of an unrefused call's session stands at this state of the plain machine. (A record of one field, so that the checker carries it by its name and does not write out what it holds.)
pub record TokenAt (w : List ℕ) (n : ℕ) (se : Declared.Session) (ls ts : List ℕ) (s : State) : Type 0 where
  pub enters : Enters (lent w n se ls ts) s

-- what the functions inside require
pub record Ready (w : List ℕ) (n : ℕ) (se : Declared.Session) (ls ts : List ℕ) : Type 0 where
  pub state : State
  pub token : TokenAt w n se ls ts state

-- where a step leads, as a session at some position, with some turns
abbrev pub arrived_at : ℕ → ℕ → Arrived.Arrival → Declared.Session
arrived_at p k a = record { node = a.node; dir = a.dir; position = p; log_len = a.log_len; tape_len = a.tape_len; turns = k }

-- One step of the machine from state s, tried on the slices: made, with the words that it carries, or left undone with every word as it was.
abbrev pub StepIs : List ℕ → ℕ → Declared.Session → List ℕ → List ℕ → State → Result Arrived.Arrival Full → List ℕ → List ℕ → Type 0
StepIs w n se ls ts s (Ok a) ls' ts' =
    (u : State) × (step (table_in w n) s ≡ some u) × TokenAt w n (arrived_at se.position se.turns a) ls' ts' u × (a.carried ≡ carried (table_in w n) s)
StepIs w n se ls ts s (Err Log) ls' ts' = (u : State) × (step (table_in w n) s ≡ some u) × (length ls < log_size u) × (ls' ≡ ls) × (ts' ≡ ts)
StepIs w n se ls ts s (Err Tape) ls' ts' =
    (u : State) × (step (table_in w n) s ≡ some u) × (log_size u ≤ length ls) × (length ts < tape_size u) × (ls' ≡ ls) × (ts' ≡ ts)

-- What the functions of the rules promise, of every state held.
abbrev pub Steps : List ℕ → ℕ → Declared.Session → List ℕ → List ℕ → Result Arrived.Arrival Full → List ℕ → List ℕ → Type 0
Steps w n se ls ts r ls' ts' = (s : State) → TokenAt w n se ls ts s → StepIs w n se ls ts s r ls' ts'
