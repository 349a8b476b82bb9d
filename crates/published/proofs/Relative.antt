-- Away from the states that the plain machine comes to, a transition need not be a step: a logged position does not say which binder it begins at.
use mathlib.Core.Path.{◌≡◌, refl}
use mathlib.Core.Option.{none}
use mathlib.Core.List.{[], ◌∷◌}
use Rattle.term.specs.Term.{Term, var, lam, app, size}
use Rattle.term.specs.Table.{column_of, table_of, table_in, kind_of}
use Rattle.machine.specs.Entries as Plain
use Rattle.machine.specs.Entries.{entry}
use Rattle.machine.specs.Machine as Machine
use Rattle.machine.specs.Machine.{down, go_down, step_by, step}
use Rattle.published.specs.Figure.{⟨·⟩, lambda, left, right, logged, ε, held, State, state, Transition, →bt2}
use Rattle.published.specs.Represents.{nothing_on, on_entry, Represents}

-- (λx.x)(λy.y): λx.x is node 2, and y is node 5.
abbrev t : Term
t = app (lam (var 0)) (lam (var 0))

-- Down at λx.x, an entry of y on top: y is not bound here, so that rule 4 does not fit ..
abbrev s : Machine.State
s = Machine.state 2 down Plain.ε (Plain.held (entry 5 Plain.ε) ∷ [])

-- .. but what it stands for is (x, λx.⟨·⟩, ε) as well, and bt2 applies.
abbrev P : State
P = state (lam (var 0)) (left ⟨·⟩ (lam (var 0))) ε (held (logged (var 0) (lambda ⟨·⟩) ε) ∷ []) down

pub transition_no_step : Represents t s P × ((Q : State) × Transition P Q) × (step (table_in (table_of t) (size t)) s ≡ none)
unfolding column_of table_of table_in kind_of go_down step_by
transition_no_step = (
  record {
    position = record { whole = refl; number = refl };
    same_dir = refl;
    same_log = tt;
    same_tape = on_entry {e = entry 5 Plain.ε} {l = logged (var 0) (lambda ⟨·⟩) ε} ((right (lam (var 0)) ⟨·⟩, ⟨·⟩, refl, refl, record { whole = refl; number = refl }), tt) nothing_on;
  },
  (_, →bt2 (left ⟨·⟩ (lam (var 0))) ⟨·⟩ {Lₙ = ε}),
  refl,
)
