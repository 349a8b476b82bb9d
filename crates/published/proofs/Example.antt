-- The run that document 003 prints in section III, on I((λx.xx)I) with I first λz.z and then λy.y: its sixteen transitions, and the state that ends each printed part.
use mathlib.Core.List.{[], ◌∷◌}
use Prim.Native.Nat.{ℕ, suc}
use Rattle.term.specs.Term.{Term, var, lam, app}
use Rattle.machine.specs.Machine.{down, up}
use Rattle.published.specs.Figure.{Context, ⟨·⟩, lambda, left, right, LoggedPosition, logged, ε, ◌·◌, held, State, state, initial, Transition, →•1, →•2, →var, →bt2, →arg, →bt1, Run, more}

infixl 20 ◌then◌
abbrev pub I : Term
I = lam (var 0)

-- λx.xx
abbrev pub D : Term
D = lam (app (var 0) (var 0))

-- I(⟨·⟩I) and I((λx.xx)⟨·⟩)
abbrev function : Context
function = right I (left ⟨·⟩ I)

abbrev argument : Context
argument = right I (right D ⟨·⟩)

-- l_z (which is printed with z's whole context; →var makes it of the part from λz on), l_⟨·⟩x, l_y and l_x⟨·⟩. Without names l_z and l_y are the same.
abbrev l_z : LoggedPosition
l_z = logged (var 0) (lambda ⟨·⟩) ε

abbrev pub l_x₁ : LoggedPosition
l_x₁ = logged (var 0) (lambda (left ⟨·⟩ (var 0))) ε

abbrev pub l_y : LoggedPosition
l_y = logged (var 0) (lambda ⟨·⟩) ε

abbrev pub l_x₂ : LoggedPosition
l_x₂ = logged (var 0) (lambda (right (var 0) ⟨·⟩)) (l_y · ε)

-- Where each printed part ends: down at z; up at λy.y; down at the second x; down at λy.y, which is the answer.
abbrev at_z : State
at_z = state (var 0) (left (lambda ⟨·⟩) (app D I)) ε [] down

abbrev at_y : State
at_y = state I argument (l_x₁ · l_z · ε) (held l_y ∷ []) up

abbrev at_x : State
at_x = state (var 0) (right I (left (lambda (right (var 0) ⟨·⟩)) I)) (l_y · l_z · ε) [] down

abbrev at_answer : State
at_answer = state I argument (l_x₂ · l_z · ε) [] down

abbrev ◌then◌ : {P Q R : State} {p : ℕ} → Run P p Q → Transition Q R → Run P (suc p) R
◌then◌ r x = more r x

pub search : Run (initial (app I (app D I))) 2 at_z
search = Run.none then →•1 ⟨·⟩ then →•2 (left ⟨·⟩ (app D I))

pub finding : Run at_z 9 at_y
finding =
    Run.none
    then →var (left ⟨·⟩ (app D I)) ⟨·⟩ {Lₙ = ε}
    then →arg ⟨·⟩
    then →•1 (right I ⟨·⟩)
    then →•2 function
    then →•1 (right I (left (lambda ⟨·⟩) I))
    then →var function (left ⟨·⟩ (var 0)) {Lₙ = ε}
    then →arg (right I ⟨·⟩)
    then →•2 argument
    then →var argument ⟨·⟩ {Lₙ = ε}

pub backtracking : Run at_y 3 at_x
backtracking = Run.none then →bt1 (right I ⟨·⟩) then →bt2 function (left ⟨·⟩ (var 0)) {Lₙ = ε} then →arg (right I (left (lambda ⟨·⟩) I))

pub conclusion : Run at_x 2 at_answer
conclusion = Run.none then →var function (right (var 0) ⟨·⟩) {Lₙ = l_y · ε} then →arg (right I ⟨·⟩)
