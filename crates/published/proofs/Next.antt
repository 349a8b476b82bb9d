-- The published machine is deterministic, and so is its reverse: the state that a transition leads to, as a function.
use mathlib.Core.Path.{◌≡◌, refl, sym, ap, ap₂, ◌∙◌, subst}
use mathlib.Core.Option.{Option, none, some, map, some-injective}
use mathlib.Core.List.{[], ◌∷◌}
use Prim.Native.Nat.{ℕ}
use Rattle.term.specs.Term.{Term, var, lam, app}
use Rattle.machine.specs.Machine.{Dir, down, up}
use Rattle.published.specs.Figure.{Context, ⟨·⟩, lambda, left, right, level, ◌⟨◌⟩, ◌⟪◌⟫, binders, logged, Log, ε, ◌·◌, ◌··◌, •, held, Tape, State, state, Transition, →•1, →•2, →var, →bt2, →•3, →•4, →arg, →bt1, Run, more}
use Rattle.published.proofs.Contexts.{Inner, whole, body, function, argument, inner, inner_body, inner_function, inner_argument}
use Rattle.published.proofs.Binder.{below, around, below_is, around_is}
use Rattle.published.proofs.Logs.{Parts, parts_of, parts_are}
use Rattle.published.proofs.Backward.{turn, turn_twice, turned_back}

-- The state that a transition leads to, if one applies.
abbrev to_binder : ℕ → Context → (D : Context) → Tape → Parts (level D) → State
to_binder x C D T p = state (lam (D ⟨ var x ⟩)) C p.lower (held (logged (var x) (lambda D) p.upper) ∷ T) up

abbrev next_down : Term → Context → {m : ℕ} → Log m → Tape → Option State
next_down (app t u) C L T = some (state t (C ⟪ left ⟨·⟩ u ⟫) L (• ∷ T) down)
next_down (lam t) C L [] = none
next_down (lam t) C L (• ∷ T) = some (state t (C ⟪ lambda ⟨·⟩ ⟫) L T down)
next_down (lam t) C L (held (logged x K M) ∷ T) = some (state x (C ⟪ K ⟫) (M ·· L) T up)
next_down (var x) C L T = map (to_binder x (around C x) (below C x) T) (parts_of (level (below C x)) L)

abbrev next_up : Term → (C : Context) → Inner C → {m : ℕ} → Log m → Tape → Option State
next_up t C whole L T = none
next_up t C (body K) L T = some (state (lam t) K L (• ∷ T) up)
next_up t C (function K u) L [] = none
next_up t C (function K u) L (• ∷ T) = some (state (app t u) K L T up)
next_up t C (function K u) L (held l ∷ T) = some (state u (K ⟪ right t ⟨·⟩ ⟫) (l · L) T down)
next_up t C (argument K u) ε T = none
next_up t C (argument K u) (l · L) T = some (state u (K ⟪ left ⟨·⟩ t ⟫) L (held l ∷ T) down)

abbrev next_by : Term → Context → {m : ℕ} → Log m → Tape → Dir → Option State
next_by t C L T down = next_down t C L T
next_by t C L T up = next_up t C (inner C) L T

abbrev next : State → Option State
next P = next_by P.term P.context P.log P.tape P.dir

next_is : {P Q : State} → Transition P Q → next P ≡ some Q
next_is (→•1 C) = refl
next_is (→•2 C) = refl
next_is (→var C D {Lₙ = K} {L = L} {T = T}) =
    ap₂ (λ A B. map (to_binder (binders D) A B T) (parts_of (level B) (K ·· L))) (around_is C D) (below_is C D)
    ∙ ap (map (to_binder (binders D) C D T)) (parts_are K L)
next_is (→bt2 C D) = refl
next_is (→•3 C {t = t} {u = u} {L = L} {T = T}) = ap (λ k. next_up t (C ⟪ left ⟨·⟩ u ⟫) k L (• ∷ T)) (inner_function C u)
next_is (→•4 C {t = t} {L = L} {T = T}) = ap (λ k. next_up t (C ⟪ lambda ⟨·⟩ ⟫) k L T) (inner_body C)
next_is (→arg C {t = t} {u = u} {l = l} {L = L} {T = T}) = ap (λ k. next_up t (C ⟪ left ⟨·⟩ u ⟫) k L (held l ∷ T)) (inner_function C u)
next_is (→bt1 C {t = t} {u = u} {l = l} {L = L} {T = T}) = ap (λ k. next_up t (C ⟪ right u ⟨·⟩ ⟫) k (l · L) T) (inner_argument C u)

-- Two transitions from one state lead to one state, and two that lead to one state come from one.
pub deterministic : {P Q R : State} → Transition P Q → Transition P R → Q ≡ R
deterministic {Q = Q} {R = R} x y = some-injective Q R (sym (next_is x) ∙ next_is y)

pub reverse_deterministic : {P Q R : State} → Transition P R → Transition Q R → P ≡ Q
reverse_deterministic {P = P} {Q = Q} x y = sym (turn_twice P) ∙ ap turn (deterministic (turned_back x) (turned_back y)) ∙ turn_twice Q

-- So a run of p transitions has one end.
pub one_end : {P Q R : State} {p : ℕ} → Run P p Q → Run P p R → Q ≡ R
one_end Run.none Run.none = refl
one_end (more {R = R} r x) (more s y) = deterministic (subst (λ S. Transition S R) (one_end r s) x) y
