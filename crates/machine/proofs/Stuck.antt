-- States that have no rule.
use mathlib.Core.Path.{◌≡◌}
use mathlib.Core.Bool.{false}
use mathlib.Core.Option.{none}
use mathlib.Core.List.{[], ◌∷◌}
use Prim.Native.Nat.{ℕ}
use lib.Dec.{leb}
use Rattle.term.specs.Table.{Table, arity, variable, abstraction, kind_at, function_of, argument_of, nowhere, place_at}
use Rattle.machine.specs.Entries.{entry, Log, ε, how_many, held, Tape}
use Rattle.machine.specs.Machine.{down, up, State, state, bound_at, go_down, go_up, step_by, step}

abbrev pub Stuck : Table → State → Type 0
Stuck T s = step T s ≡ none

module _ (T : Table) (i : ℕ) (L : Log) (t : Tape) where
  pub stuck_answer : kind_at T i ≡ abstraction → Stuck T (state i down L [])
  unfolding go_down step_by
  stuck_answer k = simp k

  pub stuck_function : {p : ℕ} → place_at T i ≡ function_of p → Stuck T (state i up L [])
  unfolding go_up step_by
  stuck_function q = simp q

  pub stuck_argument : {p : ℕ} → place_at T i ≡ argument_of p → Stuck T (state i up ε t)
  unfolding go_up step_by
  stuck_argument q = simp q

  pub stuck_root : place_at T i ≡ nowhere → Stuck T (state i up L t)
  unfolding go_up step_by
  stuck_root q = simp q

  -- rule 4 asks for a variable that is bound here, rule 3 for arity-many entries
  pub stuck_unbound : (v : ℕ) (es : Log) → kind_at T i ≡ abstraction → bound_at T i v ≡ false → Stuck T (state i down L (held (entry v es) ∷ t))
  unfolding go_down step_by
  stuck_unbound v es k b = simp (k, b)

  pub stuck_short : kind_at T i ≡ variable → leb (arity T i) (how_many L) ≡ false → Stuck T (state i down L t)
  unfolding go_down step_by
  stuck_short k b = simp (k, b)
