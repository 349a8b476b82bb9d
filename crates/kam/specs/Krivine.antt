-- Document 02, change 11: Krivine's machine on a term's table (documents 001 and 004), with its closures as trees: its states, its step, where it is after q steps, and the closures made on the way.
use Rattle.std.specs.Prelude.{cond, List, [], ◌∷◌, ◌++◌, ℕ, zero, suc, ◌+◌, eqb}
use Rattle.std.proofs.Math.Option.{Option, none, some}
use Rattle.term.specs.Choice.{◌>>=◌, if_some}
use Rattle.term.specs.Table.{Table, Kind, variable, abstraction, application, nothing, kind_at}

infixr 50 ◌▹◌
-- "a closure of argument and environment"; an environment and a stack are lists of closures, read from the top.
mutual
  pub data Closure : Type 0 where
    closure : ℕ → Closures → Closure

  pub data Closures : Type 0 where
    ∅ : Closures
    ◌▹◌ : Closure → Closures → Closures

-- "A state is a node, an environment and a stack"
pub record State : Type 0 where
  pub node : ℕ
  pub environment : Closures
  pub stack : Closures

abbrev pub state : ℕ → Closures → Closures → State
state i E S = record { node = i; environment = E; stack = S }

-- "at first node 1 and both empty"
abbrev pub start_state : State
start_state = state 1 ∅ ∅

-- an abstraction counts one
abbrev pub abstractions_in : Kind → ℕ
abstractions_in abstraction = 1
abstractions_in variable = 0
abstractions_in application = 0
abstractions_in nothing = 0

-- How many abstractions stand on the way up from node i to node b, i counted and b not; at most d nodes up.
unfoldable pub abstractions_up : ℕ → Table → ℕ → ℕ → ℕ
abstractions_up zero T b i = 0
abstractions_up (suc d) T b i = cond (eqb i b) 0 (abstractions_in (kind_at T i) + abstractions_up d T b (T.parent i))

-- "i being the abstractions between it and its binder": no way up has more nodes than the table. It is the variable's number in the term without names (`index_exactly`, proofs/Scope.antt).
abbrev pub index_at : Table → ℕ → ℕ
index_at T i = abstractions_up T.nodes T (T.left i) (T.parent i)

-- "the closure below the top i": with 0 the top itself
abbrev pub below_top : ℕ → Closures → Option Closure
below_top x ∅ = none
below_top zero (c ▹ E) = some c
below_top (suc x) (c ▹ E) = below_top x E

-- "takes node and environment of the closure"
abbrev pub entered : Closure → Closures → State
entered (closure i E) S = state i E S

-- One step at node i, by its kind, if there is one.
unfoldable pub step_by : Kind → Table → ℕ → Closures → Closures → Option State
-- "An application puts a closure of argument and environment on the stack and goes to the function"
step_by application T i E S = some (state (T.left i) E (closure (T.right i) E ▹ S))
-- "an abstraction moves the top closure onto the environment and goes to the body, and with the stack empty it is the answer"
step_by abstraction T i E (c ▹ S) = some (state (T.left i) (c ▹ E) S)
step_by abstraction T i E ∅ = none
-- "a variable takes node and environment of the closure below the top i"
step_by variable T i E S = below_top (index_at T i) E >>= λ c. some (entered c S)
step_by nothing T i E S = none

abbrev pub step : Table → State → Option State
step T s = step_by (kind_at T s.node) T s.node s.environment s.stack

-- The state after q steps, if there are so many.
unfoldable pub after : Table → ℕ → Option State
after T zero = some start_state
after T (suc q) = after T q >>= λ s. step T s

-- the closure that a step from here makes, if it is an application's
abbrev pub new_by : Kind → Table → State → List Closure
new_by application T s = closure (T.right s.node) s.environment ∷ []
new_by variable T s = []
new_by abstraction T s = []
new_by nothing T s = []

-- The closures made by the application steps among the first q, in the order in which they were made.
unfoldable pub made_after : Table → ℕ → List Closure
made_after T zero = []
made_after T (suc q) = made_after T q ++ if_some (after T q) (λ s. new_by (kind_at T s.node) T s) (λ _. [])
