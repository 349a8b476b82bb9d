-- The row of a position in the table of a closed term: its kind, its parts, its place, its level, and a variable's binder and arity.
use mathlib.Core.Path.{◌≡◌, refl, sym, ap, ap₂, ◌∙◌, subst}
use mathlib.Core.List.{List, [], ◌∷◌}
use Prim.Native.Nat.{ℕ, suc, ◌+◌, ◌<◌}
use native.Mathlib.Omega.{arith}
use lib.ListN.{get_or}
use Rattle.term.specs.Term.{Term, var, lam, app, size, Closed}
use Rattle.term.specs.Table.{Table, table_in, arity, Kind, variable, abstraction, application, nothing, kind_of, kind_at, body_of, function_of, argument_of, place_at}
use Rattle.term.specs.Rows.{RowsIn}
use Rattle.term.specs.Accepted.{Accepted}
use Rattle.term.specs.Facts.{Facts}
use Rattle.term.proofs.Rows.{root_level}
use Rattle.term.proofs.Facts.{accepted_facts}
use Rattle.term.proofs.Accepted.{term_size, accepted_rows}
use Rattle.published.specs.Figure.{Context, ⟨·⟩, lambda, left, right, level, ◌⟨◌⟩, ◌⟪◌⟫, binders, bound_above}
use Rattle.published.specs.Represents.{node_from}
use Rattle.published.proofs.Contexts.{node_of, plug_compose, node_compose, level_compose, closed_inside}
use Rattle.published.proofs.Binder.{around, below, Cut, cut}

-- T is the table of the closed term t.
pub record IsTable (T : Table) (t : Term) : Type 0 where
  pub facts : Facts T
  pub rows : RowsIn T t [] 1 0 0
  pub closed : Closed t
  pub all : size t ≡ T.nodes

pub accepted_table : (w : List ℕ) (n : ℕ) (A : Accepted w n) → IsTable (table_in w n) A.term
unfolding table_in
accepted_table w n A = record { facts = accepted_facts w n A; rows = accepted_rows w n A; closed = A.closed; all = term_size w n A }

-- The binders around the hole, its parent and its level, where those of the whole are bs, p and v, and the whole is node i.
abbrev scope : List ℕ → ℕ → Context → List ℕ
scope bs i ⟨·⟩ = bs
scope bs i (lambda C) = scope (i ∷ bs) (suc i) C
scope bs i (left C t) = scope bs (suc i) C
scope bs i (right t C) = scope bs (suc i + size t) C

abbrev parent_from : ℕ → ℕ → Context → ℕ
parent_from i p ⟨·⟩ = p
parent_from i p (lambda C) = parent_from (suc i) i C
parent_from i p (left C t) = parent_from (suc i) i C
parent_from i p (right t C) = parent_from (suc i + size t) i C

abbrev level_from : ℕ → Context → ℕ
level_from v ⟨·⟩ = v
level_from v (lambda C) = level_from v C
level_from v (left C t) = level_from v C
level_from v (right t C) = level_from (suc v) C

level_from_lem : (C : Context) (v : ℕ) → level_from v C ≡ v + level C
level_from_lem ⟨·⟩ v = omega arith
level_from_lem (lambda C) v = level_from_lem C v
level_from_lem (left C t) v = level_from_lem C v
level_from_lem (right t C) v = omega (arith, level_from_lem C (suc v))

scope_compose : (C D : Context) (bs : List ℕ) (i : ℕ) → scope bs i (C ⟪ D ⟫) ≡ scope (scope bs i C) (node_from i C) D
scope_compose ⟨·⟩ D bs i = refl
scope_compose (lambda C) D bs i = scope_compose C D (i ∷ bs) (suc i)
scope_compose (left C t) D bs i = scope_compose C D bs (suc i)
scope_compose (right t C) D bs i = scope_compose C D bs (suc i + size t)

-- past the binders of a context come those around it
scope_out : (D : Context) (bs : List ℕ) (i y : ℕ) → get_or (scope bs i D) (binders D + y) 0 ≡ get_or bs y 0
scope_out ⟨·⟩ bs i y = ap (λ k. get_or bs k 0) (let e : 0 + y ≡ y = omega arith in e)
scope_out (lambda D) bs i y =
    ap (λ k. get_or (scope (i ∷ bs) (suc i) D) k 0) (let e : suc (binders D) + y ≡ binders D + suc y = omega arith in e)
    ∙ scope_out D (i ∷ bs) (suc i) (suc y)
scope_out (left D t) bs i y = scope_out D bs (suc i) y
scope_out (right t D) bs i y = scope_out D bs (suc i + size t) y

scope_binder : (C D : Context) → get_or (scope [] 1 (C ⟪ lambda D ⟫)) (binders D) 0 ≡ node_of C
scope_binder C D =
    ap (λ bs. get_or bs (binders D) 0) (scope_compose C (lambda D) [] 1)
    ∙ ap (λ k. get_or (scope (node_of C ∷ scope [] 1 C) (suc (node_of C)) D) k 0) (let e : binders D ≡ binders D + 0 = omega arith in e)
    ∙ scope_out D (node_of C ∷ scope [] 1 C) (suc (node_of C)) 0

rows_inside : (T : Table) (C : Context) (u : Term) (bs : List ℕ) (i p v : ℕ) → RowsIn T (C ⟨ u ⟩) bs i p v
    → RowsIn T u (scope bs i C) (node_from i C) (parent_from i p C) (level_from v C)
rows_inside T ⟨·⟩ u bs i p v h = h
rows_inside T (lambda C) u bs i p v h = rows_inside T C u (i ∷ bs) (suc i) i v h.1
rows_inside T (left C t) u bs i p v h = rows_inside T C u bs (suc i) i v h.1
rows_inside T (right t C) u bs i p v h = rows_inside T C u bs (suc i + size t) i (suc v) h.2

abbrev NoVariable : Kind → Type 0
NoVariable variable = ⊥
NoVariable abstraction = Unit
NoVariable application = Unit
NoVariable nothing = Unit

module _ (T : Table) (t : Term) (A : IsTable T t) where
  -- the rows of a position
  rows_at : (C : Context) (u : Term) → C ⟨ u ⟩ ≡ t → RowsIn T u (scope [] 1 C) (node_of C) (parent_from 1 0 C) (level_from 0 C)
  rows_at C u e = rows_inside T C u [] 1 0 0 (subst (λ w. RowsIn T w [] 1 0 0) (sym e) A.rows)

  pub level_at : (C : Context) (u : Term) → C ⟨ u ⟩ ≡ t → T.level (node_of C) ≡ level C
  level_at C u e = root_level T u (scope [] 1 C) (node_of C) (parent_from 1 0 C) (level_from 0 C) (rows_at C u e) ∙ omega (arith, level_from_lem C 0)

  -- an application and its parts
  module _ (C : Context) (f a : Term) (e : C ⟨ app f a ⟩ ≡ t) where
    pub application_kind : kind_at T (node_of C) ≡ application
    unfolding kind_of
    application_kind = ap kind_of (rows_at C (app f a) e).0.kind_is

    pub function_node : T.left (node_of C) ≡ node_of (C ⟪ left ⟨·⟩ a ⟫)
    function_node = (rows_at C (app f a) e).0.left_is ∙ sym (node_compose C (left ⟨·⟩ a) 1)

    pub argument_node : T.right (node_of C) ≡ node_of (C ⟪ right f ⟨·⟩ ⟫)
    argument_node = (rows_at C (app f a) e).0.right_is ∙ sym (node_compose C (right f ⟨·⟩) 1)

    pub function_place : place_at T (node_of (C ⟪ left ⟨·⟩ a ⟫)) ≡ function_of (node_of C)
    function_place = ap (place_at T) (sym function_node) ∙ (A.facts.function (node_of C) application_kind).place_is

    pub argument_place : place_at T (node_of (C ⟪ right f ⟨·⟩ ⟫)) ≡ argument_of (node_of C)
    argument_place = ap (place_at T) (sym argument_node) ∙ (A.facts.argument (node_of C) application_kind).place_is

  -- an abstraction and its body
  module _ (C : Context) (b : Term) (e : C ⟨ lam b ⟩ ≡ t) where
    pub abstraction_kind : kind_at T (node_of C) ≡ abstraction
    unfolding kind_of
    abstraction_kind = ap kind_of (rows_at C (lam b) e).0.kind_is

    pub body_node : T.left (node_of C) ≡ node_of (C ⟪ lambda ⟨·⟩ ⟫)
    body_node = (rows_at C (lam b) e).0.left_is ∙ sym (node_compose C (lambda ⟨·⟩) 1)

    pub body_place : place_at T (node_of (C ⟪ lambda ⟨·⟩ ⟫)) ≡ body_of (node_of C)
    body_place = ap (place_at T) (sym body_node) ∙ (A.facts.body (node_of C) abstraction_kind).place_is

  -- a variable, its binder and its arity
  pub variable_kind : (C : Context) (x : ℕ) → C ⟨ var x ⟩ ≡ t → kind_at T (node_of C) ≡ variable
  unfolding kind_of
  variable_kind C x e = ap kind_of (rows_at C (var x) e).kind_is

  module _ (C D : Context) (e : (C ⟪ lambda D ⟫) ⟨ bound_above D ⟩ ≡ t) where
    pub binder_whole : C ⟨ lam (D ⟨ bound_above D ⟩) ⟩ ≡ t
    binder_whole = sym (plug_compose C (lambda D) (bound_above D)) ∙ e

    pub binder_node : T.left (node_of (C ⟪ lambda D ⟫)) ≡ node_of C
    binder_node = (rows_at (C ⟪ lambda D ⟫) (bound_above D) e).left_is ∙ scope_binder C D

    pub arity_at : arity T (node_of (C ⟪ lambda D ⟫)) ≡ level D
    arity_at =
        let b : T.level (T.left (node_of (C ⟪ lambda D ⟫))) ≡ level C = ap T.level binder_node ∙ level_at C (lam (D ⟨ bound_above D ⟩)) binder_whole in
        let v : T.level (node_of (C ⟪ lambda D ⟫)) ≡ level (C ⟪ lambda D ⟫) = level_at (C ⟪ lambda D ⟫) (bound_above D) e in
        omega (arith, level_compose C (lambda D))

  -- where the binder of a variable cuts its context
  module _ (C : Context) (x : ℕ) (e : C ⟨ var x ⟩ ≡ t) where
    pub variable_cut : Cut C (around C x) (below C x) x
    variable_cut = cut C x (let k : x < 0 + binders C = closed_inside C (var x) 0 (subst Closed (sym e) A.closed) in omega arith)

    pub variable_arity : arity T (node_of C) ≡ level (below C x)
    variable_arity =
        ap (λ E. arity T (node_of E)) variable_cut.parts
        ∙ arity_at (around C x) (below C x) (sym (ap₂ (λ y E. E ⟨ var y ⟩) variable_cut.index variable_cut.parts) ∙ e)

  -- a variable's node is a variable's position
  pub is_variable : (C : Context) (u : Term) → C ⟨ u ⟩ ≡ t → kind_at T (node_of C) ≡ variable → (x : ℕ) × (u ≡ var x)
  is_variable C (var x) e k = (x, refl)
  is_variable C (lam b) e k = absurd (subst NoVariable (sym (abstraction_kind C b e) ∙ k) tt)
  is_variable C (app f a) e k = absurd (subst NoVariable (sym (application_kind C f a e) ∙ k) tt)
