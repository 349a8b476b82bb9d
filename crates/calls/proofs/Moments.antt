-- One step with its position and turns, either way: what it is made of, that it leaves no more turns than the position, and that a step back undoes a step forward, and is made again.
use mathlib.Core.Path.{◌≡◌, refl, sym, ap, ap₂, ◌∙◌, subst}
use mathlib.Core.Logic.{◌↔◌}
use mathlib.Core.Bool.{Bool, true, false, cond, and-eq-true_iff, false≢true}
use mathlib.Core.Option.{Option, none, some, some-injective, none-ne-some, some-ne-none}
use Prim.Native.Nat.{suc, ◌+◌, ◌-◌, ◌≤◌}
use native.Mathlib.Omega.{arith}
use borrow.Author.Tests.{leb-true, le-leb}
use Rattle.term.specs.Choice.{◌>>=◌}
use Rattle.term.specs.Table.{Table}
use Rattle.term.specs.Facts.{Facts}
use Rattle.machine.specs.Machine.{State, step, step_back}
use Rattle.machine.specs.Good.{Good}
use Rattle.machine.proofs.Reverse.{step_undone, back_redone}
use Rattle.machine.proofs.Turns.{turn_once, turn_back}
use Rattle.calls.specs.Stops.{Way, forward, back, Moment, moment, turn_to, onward, backward, LeavesTurns, leaves_turns, next_by}

-- no more turns than the position
abbrev pub FewTurns : Moment → Type 0
FewTurns m = m.turns ≤ m.position

-- What a step back leaves, as a test and in words.
pub leaves_exactly : (m : Moment) (u : State) → (leaves_turns m u ≡ true) ↔ LeavesTurns m u
leaves_exactly m u = (
  λ e.
      let tests = simp and-eq-true_iff at e in
      record { not_below = leb-true (turn_to m u) m.turns tests.0; not_above = leb-true (backward m u).turns (backward m u).position tests.1 },
  λ h. rw (le-leb (turn_to m u) m.turns h.not_below, le-leb (backward m u).turns (backward m u).position h.not_above),
)

-- There is no step back, which is a jam, exactly if no rule fits, or the step would leave turns below 0 or above the new position.
pub back_jams : (T : Table) (m : Moment) → (next_by back T m ≡ none) ↔ ((u : State) → step_back T m.state ≡ some u → LeavesTurns m u → ⊥)
back_jams T m = by_step (step_back T m.state)
  where
    by_test : (s : State) (b : Bool) → leaves_turns m s ≡ b → (cond b (some (backward m s)) none ≡ none) ↔ ((u : State) → some s ≡ some u → LeavesTurns m u → ⊥)
    by_test s true h = (λ e. absurd (some-ne-none (backward m s) e), λ away. absurd (away s refl ((leaves_exactly m s).0 h)))
    by_test s false h = (λ _ u e left. false≢true (sym h ∙ (leaves_exactly m s).1 (subst (LeavesTurns m) (sym (some-injective s u e)) left)), λ _. refl)

    by_step : (o : Option State) → ((o >>= λ s. cond (leaves_turns m s) (some (backward m s)) none) ≡ none) ↔ ((u : State) → o ≡ some u → LeavesTurns m u → ⊥)
    by_step none = (λ _ u e left. none-ne-some u e, λ _. refl)
    by_step (some s) = by_test s (leaves_turns m s) refl

module _ (T : Table) (m u : Moment) where
  -- a next moment, by the step to it
  pub next_forward : next_by forward T m ≡ some u → (step T m.state ≡ some u.state) × (u ≡ onward m u.state)
  next_forward e = by_step (step T m.state) e
    where
      by_step : (o : Option State) → (o >>= λ s. some (onward m s)) ≡ some u → (o ≡ some u.state) × (u ≡ onward m u.state)
      by_step none e = absurd (none-ne-some u e)
      by_step (some s) e = let same : onward m s ≡ u = some-injective (onward m s) u e in (ap (λ x. some x.state) same, sym same ∙ ap (λ x. onward m x.state) same)

  pub next_back : next_by back T m ≡ some u → (step_back T m.state ≡ some u.state) × LeavesTurns m u.state × (u ≡ backward m u.state)
  next_back e = by_step (step_back T m.state) e
    where
      by_test : (s : State) (b : Bool) → leaves_turns m s ≡ b → cond b (some (backward m s)) none ≡ some u → (some s ≡ some u.state) × LeavesTurns m u.state × (u ≡ backward m u.state)
      by_test s false h e = absurd (none-ne-some u e)
      by_test s true h e =
          let same : backward m s ≡ u = some-injective (backward m s) u e in
          (ap (λ x. some x.state) same, (leaves_exactly m u.state).0 (ap (λ x. leaves_turns m x.state) (sym same) ∙ h), sym same ∙ ap (λ x. backward m x.state) same)

      by_step : (o : Option State) → (o >>= λ s. cond (leaves_turns m s) (some (backward m s)) none) ≡ some u → (o ≡ some u.state) × LeavesTurns m u.state × (u ≡ backward m u.state)
      by_step none e = absurd (none-ne-some u e)
      by_step (some s) e = by_test s (leaves_turns m s) refl e

  pub next_few : (way : Way) → FewTurns m → next_by way T m ≡ some u → FewTurns u
  next_few forward few e =
      let (came, is) = next_forward e in
      let p : u.position ≡ suc m.position = ap (λ x. x.position) is in
      let k : u.turns ≡ m.turns + turn_to m u.state = ap (λ x. x.turns) is in
      omega (arith, turn_once m.state.dir u.state.dir)
  next_few back few e = let (came, left, is) = next_back e in subst FewTurns (sym is) left.not_above

  module _ (F : Facts T) where
    pub next_undone : Good T m.state → FewTurns m → next_by forward T m ≡ some u → next_by back T u ≡ some m
    next_undone good few e =
        let (came, is) = next_forward e in
        let p : u.position ≡ suc m.position = ap (λ x. x.position) is in
        let k : u.turns ≡ m.turns + turn_to m u.state = ap (λ x. x.turns) is in
        let again : turn_to u m.state ≡ turn_to m u.state = turn_back u.state.dir m.state.dir in
        let position : u.position - 1 ≡ m.position = omega arith in
        let turns : u.turns - turn_to u m.state ≡ m.turns = omega arith in
        rw (step_undone T F m.state u.state good came, (leaves_exactly u m.state).1 (record { not_below = omega arith; not_above = omega arith }))
        (ap₂ (λ p k. some (moment m.state p k)) position turns)

    pub next_redone : Good T m.state → (m.position ≡ 0 → ⊥) → next_by back T m ≡ some u → next_by forward T u ≡ some m
    next_redone good past e =
        let (came, left, is) = next_back e in
        let p : u.position ≡ m.position - 1 = ap (λ x. x.position) is in
        let k : u.turns ≡ m.turns - turn_to m u.state = ap (λ x. x.turns) is in
        let again : turn_to u m.state ≡ turn_to m u.state = turn_back u.state.dir m.state.dir in
        let position : suc u.position ≡ m.position = omega (arith, past) in
        let turns : u.turns + turn_to u m.state ≡ m.turns = omega (arith, left.not_below) in
        rw (back_redone T F u.state m.state good came) (ap₂ (λ p k. some (moment m.state p k)) position turns)
