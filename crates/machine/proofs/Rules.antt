-- The eight rules of document 01, each as an equation of a step.
use mathlib.Core.Path.{◌≡◌}
use mathlib.Core.Bool.{true}
use mathlib.Core.Option.{some}
use mathlib.Core.List.{◌∷◌}
use Prim.Native.Nat.{ℕ, ◌≤◌}
use borrow.Author.Tests.{le-leb}
use Rattle.term.specs.Table.{Table, arity, variable, abstraction, application, kind_at, body_of, function_of, argument_of, place_at}
use Rattle.machine.specs.Entries.{Entry, entry, Log, ◌▸◌, how_many, topmost, rest, ◌onto◌, bullet, held, Tape}
use Rattle.machine.specs.Machine.{down, up, state, bound_at, go_down, go_up, step_by, step}

module _ (T : Table) (i : ℕ) (L : Log) (t : Tape) where
  pub rule_1 : kind_at T i ≡ application → step T (state i down L t) ≡ some (state (T.left i) down L (bullet ∷ t))
  unfolding go_down step_by
  rule_1 k = simp k

  pub rule_2 : kind_at T i ≡ abstraction → step T (state i down L (bullet ∷ t)) ≡ some (state (T.left i) down L t)
  unfolding go_down step_by
  rule_2 k = simp k

  pub rule_3 : kind_at T i ≡ variable → arity T i ≤ how_many L
      → step T (state i down L t) ≡ some (state (T.left i) up (rest (arity T i) L) (held (entry i (topmost (arity T i) L)) ∷ t))
  unfolding go_down step_by
  rule_3 k h = simp (k, le-leb (arity T i) (how_many L) h)

  pub rule_4 : (v : ℕ) (es : Log) → kind_at T i ≡ abstraction → bound_at T i v ≡ true → step T (state i down L (held (entry v es) ∷ t)) ≡ some (state v up (es onto L) t)
  unfolding go_down step_by
  rule_4 v es k h = simp (k, h)

  pub rule_5 : {p : ℕ} → place_at T i ≡ function_of p → step T (state i up L (bullet ∷ t)) ≡ some (state p up L t)
  unfolding go_up step_by
  rule_5 q = simp q

  pub rule_6 : {p : ℕ} (e : Entry) → place_at T i ≡ function_of p → step T (state i up L (held e ∷ t)) ≡ some (state (T.right p) down (e ▸ L) t)
  unfolding go_up step_by
  rule_6 e q = simp q

  pub rule_7 : {p : ℕ} → place_at T i ≡ body_of p → step T (state i up L t) ≡ some (state p up L (bullet ∷ t))
  unfolding go_up step_by
  rule_7 q = simp q

  pub rule_8 : {p : ℕ} (e : Entry) → place_at T i ≡ argument_of p → step T (state i up (e ▸ L) t) ≡ some (state (T.left p) down L (held e ∷ t))
  unfolding go_up step_by
  rule_8 e q = simp q
