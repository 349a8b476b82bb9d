-- Laws of contexts: what a context in a context is plugged to, how it counts, and what stands around a hole right away.
use mathlib.Core.Path.{◌≡◌, refl, ap, subst}
use Prim.Native.Nat.{ℕ, suc, ◌+◌}
use native.Mathlib.Omega.{arith}
use Rattle.term.specs.Term.{Term, lam, app, ClosedUnder}
use Rattle.published.specs.Figure.{Context, ⟨·⟩, lambda, left, right, level, ◌⟨◌⟩, ◌⟪◌⟫, binders}
use Rattle.published.specs.Represents.{node_from}

-- the node of a position, from the context alone
abbrev pub node_of : Context → ℕ
node_of C = node_from 1 C

pub plug_compose : (C D : Context) (u : Term) → (C ⟪ D ⟫) ⟨ u ⟩ ≡ C ⟨ D ⟨ u ⟩ ⟩
plug_compose ⟨·⟩ D u = refl
plug_compose (lambda C) D u = ap lam (plug_compose C D u)
plug_compose (left C t) D u = ap (λ f. app f t) (plug_compose C D u)
plug_compose (right t C) D u = ap (λ a. app t a) (plug_compose C D u)

pub node_compose : (C D : Context) (i : ℕ) → node_from i (C ⟪ D ⟫) ≡ node_from (node_from i C) D
node_compose ⟨·⟩ D i = refl
node_compose (lambda C) D i = node_compose C D _
node_compose (left C t) D i = node_compose C D _
node_compose (right t C) D i = node_compose C D _

pub level_compose : (C D : Context) → level (C ⟪ D ⟫) ≡ level C + level D
level_compose ⟨·⟩ D = omega arith
level_compose (lambda C) D = omega (arith, level_compose C D)
level_compose (left C t) D = omega (arith, level_compose C D)
level_compose (right t C) D = omega (arith, level_compose C D)

-- what stands in a closed term is closed under the binders around it
pub closed_inside : (C : Context) (u : Term) (d : ℕ) → ClosedUnder d (C ⟨ u ⟩) → ClosedUnder (d + binders C) u
closed_inside ⟨·⟩ u d h = subst (λ n. ClosedUnder n u) (let e : d ≡ d + 0 = omega arith in e) h
closed_inside (lambda C) u d h = subst (λ n. ClosedUnder n u) (let e : suc d + binders C ≡ d + suc (binders C) = omega arith in e) (closed_inside C u (suc d) h)
closed_inside (left C t) u d h = closed_inside C u d h.0
closed_inside (right t C) u d h = closed_inside C u d h.1

-- A context is the hole, or its hole is a body, a function or an argument.
pub data Inner : Context → Type 0 where
  whole : Inner ⟨·⟩
  body : (K : Context) → Inner (K ⟪ lambda ⟨·⟩ ⟫)
  function : (K : Context) (u : Term) → Inner (K ⟪ left ⟨·⟩ u ⟫)
  argument : (K : Context) (u : Term) → Inner (K ⟪ right u ⟨·⟩ ⟫)

abbrev in_lambda : {C : Context} → Inner C → Inner (lambda C)
in_lambda whole = body ⟨·⟩
in_lambda (body K) = body (lambda K)
in_lambda (function K u) = function (lambda K) u
in_lambda (argument K u) = argument (lambda K) u

abbrev in_left : {C : Context} (t : Term) → Inner C → Inner (left C t)
in_left t whole = function ⟨·⟩ t
in_left t (body K) = body (left K t)
in_left t (function K u) = function (left K t) u
in_left t (argument K u) = argument (left K t) u

abbrev in_right : {C : Context} (t : Term) → Inner C → Inner (right t C)
in_right t whole = argument ⟨·⟩ t
in_right t (body K) = body (right t K)
in_right t (function K u) = function (right t K) u
in_right t (argument K u) = argument (right t K) u

abbrev pub inner : (C : Context) → Inner C
inner ⟨·⟩ = whole
inner (lambda C) = in_lambda (inner C)
inner (left C t) = in_left t (inner C)
inner (right t C) = in_right t (inner C)

-- It is one of them only.
pub inner_body : (K : Context) → inner (K ⟪ lambda ⟨·⟩ ⟫) ≡ body K
inner_body ⟨·⟩ = refl
inner_body (lambda K) = ap in_lambda (inner_body K)
inner_body (left K t) = ap (in_left t) (inner_body K)
inner_body (right t K) = ap (in_right t) (inner_body K)

pub inner_function : (K : Context) (u : Term) → inner (K ⟪ left ⟨·⟩ u ⟫) ≡ function K u
inner_function ⟨·⟩ u = refl
inner_function (lambda K) u = ap in_lambda (inner_function K u)
inner_function (left K t) u = ap (in_left t) (inner_function K u)
inner_function (right t K) u = ap (in_right t) (inner_function K u)

pub inner_argument : (K : Context) (u : Term) → inner (K ⟪ right u ⟨·⟩ ⟫) ≡ argument K u
inner_argument ⟨·⟩ u = refl
inner_argument (lambda K) u = ap in_lambda (inner_argument K u)
inner_argument (left K t) u = ap (in_left t) (inner_argument K u)
inner_argument (right t K) u = ap (in_right t) (inner_argument K u)
