-- Two states of document 01's example (\x.x x)(\y.y), and the states of the published machine that they stand for, worked out by hand.
use mathlib.Core.Path.{refl}
use mathlib.Core.List.{[], ◌∷◌}
use Rattle.term.specs.Term.{Term, var, app}
use Rattle.machine.specs.Entries as Plain
use Rattle.machine.specs.Entries.{entry, ◌▸◌}
use Rattle.machine.specs.Machine as Machine
use Rattle.machine.specs.Machine.{down, up}
use Rattle.published.specs.Figure.{⟨·⟩, lambda, left, right, ε, ◌·◌, held, state}
use Rattle.published.specs.Represents.{FromBinder, nothing_on, on_entry, Represents}
use Rattle.published.proofs.Example.{I, D, l_x₁, l_y, l_x₂}

-- Nodes 4 and 5 are the two x, and node 7 is y.
abbrev t : Term
t = app D I

first_x : FromBinder t 4 (var 0) (lambda (left ⟨·⟩ (var 0)))
first_x = (left ⟨·⟩ I, left ⟨·⟩ (var 0), refl, refl, record { whole = refl; number = refl })

second_x : FromBinder t 5 (var 0) (lambda (right (var 0) ⟨·⟩))
second_x = (left ⟨·⟩ I, right (var 0) ⟨·⟩, refl, refl, record { whole = refl; number = refl })

the_y : FromBinder t 7 (var 0) (lambda ⟨·⟩)
the_y = (right D ⟨·⟩, ⟨·⟩, refl, refl, record { whole = refl; number = refl })

-- 7: 6 u [4] [7]
pub state_7 : Represents t (Machine.state 6 up (entry 4 Plain.ε ▸ Plain.ε) (Plain.held (entry 7 Plain.ε) ∷ [])) (state I (right D ⟨·⟩) (l_x₁ · ε) (held l_y ∷ []) up)
state_7 = record {
  position = record { whole = refl; number = refl };
  same_dir = refl;
  same_log = ((first_x, tt), tt);
  same_tape = on_entry {e = entry 7 Plain.ε} {l = l_y} (the_y, tt) nothing_on;
}

-- 12: 6 d [5,7] [], an entry of node 5 with one of node 7 inside it
pub state_12 : Represents t (Machine.state 6 down (entry 5 (entry 7 Plain.ε ▸ Plain.ε) ▸ Plain.ε) []) (state I (right D ⟨·⟩) (l_x₂ · ε) [] down)
state_12 = record {
  position = record { whole = refl; number = refl };
  same_dir = refl;
  same_log = ((second_x, ((the_y, tt), tt)), tt);
  same_tape = nothing_on;
}
