-- Document 01, "The plain machine": its state, its eight rules, a step back, and where it is after p steps.
use Rattle.std.specs.Prelude.{Bool, ◌&&◌, cond, [], ◌∷◌, ℕ, zero, suc, leb, eqb}
use Rattle.std.proofs.Math.Option.{Option, none, some, map}
use Rattle.term.specs.Choice.{◌>>=◌}
use Rattle.term.specs.Table.{Table, arity, Kind, variable, abstraction, application, nothing, kind_at, is_variable, Place, body_of, function_of, argument_of, nowhere, place_at}
use Rattle.machine.specs.Entries.{entry, Log, ε, ◌▸◌, how_many, topmost, rest, ◌onto◌, bullet, held, Tape}

-- "Its state is a node, a direction (down or up), a log and a tape."
pub data Dir : Type 0 where
  down up : Dir

pub record State : Type 0 where
  pub node : ℕ
  pub dir : Dir
  pub log : Log
  pub tape : Tape

abbrev pub state : ℕ → Dir → Log → Tape → State
state i d L t = record { node = i; dir = d; log = L; tape = t }

-- "It starts at node 1, down, both empty."
abbrev pub start_state : State
start_state = state 1 down ε []

-- "an entry on top whose variable is bound here": v is a variable, and node i its binder
abbrev pub bound_at : Table → ℕ → ℕ → Bool
bound_at T i v = is_variable (kind_at T v) && eqb (T.left v) i

-- Down at node i, by its kind.
unfoldable pub go_down : Table → ℕ → Kind → Log → Tape → Option State
-- Rule 1. Down at an application: to its function, down; a bullet goes onto the tape.
go_down T i application L t = some (state (T.left i) down L (bullet ∷ t))
-- Rule 2. Down at an abstraction, a bullet on top of the tape: to the body, down; the bullet goes.
go_down T i abstraction L (bullet ∷ t) = some (state (T.left i) down L t)
-- Rule 3. Down at a variable of arity a: to its binder, up; the top a entries leave the log, and the entry made of the variable and these goes onto the tape.
go_down T i variable L t =
    cond (leb (arity T i) (how_many L)) (some (state (T.left i) up (rest (arity T i) L) (held (entry i (topmost (arity T i) L)) ∷ t))) none
-- Rule 4. Down at an abstraction, an entry on top whose variable is bound here: to that variable, up; the entry leaves the tape, and the entries inside it go onto the log in their order.
go_down T i abstraction L (held (entry v es) ∷ t) = cond (bound_at T i v) (some (state v up (es onto L) t)) none
-- every other state has no rule
go_down T i abstraction L [] = none
go_down T i nothing L t = none

-- Up at a node, by the place where it stands.
unfoldable pub go_up : Table → Place → Log → Tape → Option State
-- Rule 5. Up at a function, a bullet on top: to the application, up; the bullet goes.
go_up T (function_of p) L (bullet ∷ t) = some (state p up L t)
-- Rule 6. Up at a function, an entry on top: to the argument, down; the entry moves to the log.
go_up T (function_of p) L (held e ∷ t) = some (state (T.right p) down (e ▸ L) t)
-- Rule 7. Up at a body: to the abstraction, up; a bullet goes onto the tape.
go_up T (body_of p) L t = some (state p up L (bullet ∷ t))
-- Rule 8. Up at an argument: to the function, down; the log's top entry moves to the tape.
go_up T (argument_of p) (e ▸ L) t = some (state (T.left p) down L (held e ∷ t))
-- every other state has no rule
go_up T (function_of p) L [] = none
go_up T (argument_of p) ε t = none
go_up T nowhere L t = none

-- "One step, by the first line that fits; every other state has no rule". On the table of a term no state fits two lines.
unfoldable pub step_by : Table → ℕ → Dir → Log → Tape → Option State
step_by T i down L t = go_down T i (kind_at T i) L t
step_by T i up L t = go_up T (place_at T i) L t

abbrev pub step : Table → State → Option State
step T s = step_by T s.node s.dir s.log s.tape

-- "A step back is: turn the direction, make one step, turn it again."
abbrev pub turned : Dir → Dir
turned down = up
turned up = down

abbrev pub turn : State → State
turn s = state s.node (turned s.dir) s.log s.tape

abbrev pub step_back : Table → State → Option State
step_back T s = map turn (step T (turn s))

-- The state after p steps, if there are so many: from any state, and from the start.
unfoldable pub after_from : Table → State → ℕ → Option State
after_from T s zero = some s
after_from T s (suc p) = after_from T s p >>= λ u. step T u

abbrev pub after : Table → ℕ → Option State
after T p = after_from T start_state p
