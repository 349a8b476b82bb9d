-- The number of each of the eight rules, and that a state has none exactly where it has no step.
use mathlib.Core.Path.{◌≡◌, refl, subst}
use mathlib.Core.Logic.{◌↔◌}
use mathlib.Core.Bool.{Bool, true, false, cond}
use mathlib.Core.Option.{Option, none, some}
use mathlib.Core.List.{[], ◌∷◌}
use Prim.Native.Nat.{ℕ, suc, ◌≤◌}
use native.Mathlib.Nat.{suc-ne-zero}
use lib.Dec.{leb}
use borrow.Author.Tests.{le-leb}
use Rattle.term.specs.Table.{Table, arity, Kind, variable, abstraction, application, nothing, kind_at, Place, body_of, function_of, argument_of, nowhere, place_at}
use Rattle.machine.specs.Entries.{Entry, entry, Log, ε, ◌▸◌, how_many, bullet, held, Tape}
use Rattle.machine.specs.Machine.{Dir, down, up, State, state, bound_at, go_down, go_up, step_by, step}
use Rattle.machine.specs.Rule.{rule_down, rule_up, rule_by, rule_at}

module _ (T : Table) (i : ℕ) (L : Log) (t : Tape) where
  pub number_1 : kind_at T i ≡ application → rule_at T (state i down L t) ≡ 1
  unfolding rule_down rule_by
  number_1 k = simp k

  pub number_2 : kind_at T i ≡ abstraction → rule_at T (state i down L (bullet ∷ t)) ≡ 2
  unfolding rule_down rule_by
  number_2 k = simp k

  pub number_3 : kind_at T i ≡ variable → arity T i ≤ how_many L → rule_at T (state i down L t) ≡ 3
  unfolding rule_down rule_by
  number_3 k h = simp (k, le-leb (arity T i) (how_many L) h)

  pub number_4 : (v : ℕ) (es : Log) → kind_at T i ≡ abstraction → bound_at T i v ≡ true → rule_at T (state i down L (held (entry v es) ∷ t)) ≡ 4
  unfolding rule_down rule_by
  number_4 v es k h = simp (k, h)

  pub number_5 : {p : ℕ} → place_at T i ≡ function_of p → rule_at T (state i up L (bullet ∷ t)) ≡ 5
  unfolding rule_up rule_by
  number_5 q = simp q

  pub number_6 : {p : ℕ} (e : Entry) → place_at T i ≡ function_of p → rule_at T (state i up L (held e ∷ t)) ≡ 6
  unfolding rule_up rule_by
  number_6 e q = simp q

  pub number_7 : {p : ℕ} → place_at T i ≡ body_of p → rule_at T (state i up L t) ≡ 7
  unfolding rule_up rule_by
  number_7 q = simp q

  pub number_8 : {p : ℕ} (e : Entry) → place_at T i ≡ argument_of p → rule_at T (state i up (e ▸ L) t) ≡ 8
  unfolding rule_up rule_by
  number_8 e q = simp q

-- a step has a number from 1 on, and no step has 0
abbrev Numbered : Option State → ℕ → Type 0
Numbered none k = k ≡ 0
Numbered (some u) k = k ≡ 0 → ⊥

module _ (T : Table) where
  numbered_test : (b : Bool) (u : State) (k : ℕ) → Numbered (cond b (some u) none) (cond b (suc k) 0)
  numbered_test true u k = λ z. suc-ne-zero _ z
  numbered_test false u k = refl

  numbered_down : (i : ℕ) (k : Kind) (L : Log) (t : Tape) → Numbered (go_down T i k L t) (rule_down T i k L t)
  unfolding go_down rule_down
  numbered_down i application L t = λ z. suc-ne-zero _ z
  numbered_down i abstraction L [] = refl
  numbered_down i abstraction L (bullet ∷ t) = λ z. suc-ne-zero _ z
  numbered_down i abstraction L (held (entry v es) ∷ t) = numbered_test (bound_at T i v) _ 3
  numbered_down i variable L t = numbered_test (leb (arity T i) (how_many L)) _ 2
  numbered_down i nothing L t = refl

  numbered_up : (q : Place) (L : Log) (t : Tape) → Numbered (go_up T q L t) (rule_up q L t)
  unfolding go_up rule_up
  numbered_up (function_of p) L [] = refl
  numbered_up (function_of p) L (bullet ∷ t) = λ z. suc-ne-zero _ z
  numbered_up (function_of p) L (held e ∷ t) = λ z. suc-ne-zero _ z
  numbered_up (body_of p) L t = λ z. suc-ne-zero _ z
  numbered_up (argument_of p) ε t = refl
  numbered_up (argument_of p) (e ▸ L) t = λ z. suc-ne-zero _ z
  numbered_up nowhere L t = refl

  numbered_by : (i : ℕ) (d : Dir) (L : Log) (t : Tape) → Numbered (step_by T i d L t) (rule_by T i d L t)
  unfolding step_by rule_by
  numbered_by i down L t = numbered_down i (kind_at T i) L t
  numbered_by i up L t = numbered_up (place_at T i) L t

  numbered : (s : State) → Numbered (step T s) (rule_at T s)
  numbered s = numbered_by s.node s.dir s.log s.tape

  pub no_number : (s : State) → (rule_at T s ≡ 0) ↔ (step T s ≡ none)
  no_number s = ((λ z. by_step (step T s) refl z), (λ e. subst (λ o. Numbered o (rule_at T s)) e (numbered s)))
    where
      by_step : (o : Option State) → step T s ≡ o → rule_at T s ≡ 0 → o ≡ none
      by_step none e z = refl
      by_step (some u) e z = absurd (subst (λ o. Numbered o (rule_at T s)) e (numbered s) z)
