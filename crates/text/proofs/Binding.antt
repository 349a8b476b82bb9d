-- A tree has a form without names exactly where it is closed, and that form is a closed term.
use mathlib.Core.Path.{◌≡◌, refl, sym, ◌∙◌, subst}
use mathlib.Core.Logic.{◌↔◌}
use mathlib.Core.Bool.{Bool, true, false, false≢true}
use mathlib.Core.Option.{Option, none, some}
use mathlib.Core.List.{List, [], ◌∷◌}
use Prim.Native.Nat.{ℕ, zero, suc, ◌<◌}
use native.Mathlib.Omega.{arith}
use lib.ListN.{length}
use lib.Dec.{eqb}
use borrow.Author.Tests.{eqb-true, eq-eqb}
use Rattle.term.specs.Term.{Term, var, lam, app, ClosedUnder}
use Rattle.term.proofs.Choice.{each}
use Rattle.text.specs.Tokens.{Name}
use Rattle.text.specs.Grammar.{Tree, variable, binder, apply}
use Rattle.text.specs.Binding.{same_name, index_of, nameless, Innermost, Form, Among, here, there, ClosedIn}
use Rattle.text.proofs.Each.{Each, each_some, each_bind}

pub same_name_lem : (x y : Name) → (same_name x y ≡ true) ↔ (x ≡ y)
same_name_lem [] [] = (λ e. refl, λ e. refl)
same_name_lem [] (c ∷ y) = (λ e. cc, λ e. cc)
same_name_lem (b ∷ x) [] = (λ e. cc, λ e. cc)
same_name_lem (b ∷ x) (c ∷ y) = (
  λ e. let h = each (eqb b c) (same_name x y) e in cc (eqb-true b c h.0, (same_name_lem x y).0 h.1),
  λ e. rw (eq-eqb b c (cc)) ((same_name_lem x y).1 (cc)),
)

each_innermost : (x : Name) (around : List Name) → Each (Innermost x around) (index_of x around)
unfolding index_of
each_innermost x [] = tt
each_innermost x (y ∷ around) = by_test (same_name x y) refl (each_innermost x around)
  where
    by_test : (t : Bool) → same_name x y ≡ t → Each (Innermost x around) (index_of x around)
        → Each (Innermost x (y ∷ around)) (index_of x (y ∷ around))
    by_test true e r = rw e ((same_name_lem x y).0 e)
    by_test false e r =
        rw e
        (each_bind (Innermost x around) (Innermost x (y ∷ around)) (index_of x around) (λ k. some (suc k)) r
        λ k h. (λ same. false≢true (sym e ∙ (same_name_lem x y).1 same), h))

not_same : (x y : Name) → (x ≡ y → ⊥) → same_name x y ≡ false
not_same x y n = by_test (same_name x y) (same_name_lem x y).0
  where
    by_test : (t : Bool) → (t ≡ true → x ≡ y) → t ≡ false
    by_test true e = absurd (n (e refl))
    by_test false e = refl

innermost_found : (x : Name) (around : List Name) (k : ℕ) → Innermost x around k → index_of x around ≡ some k
unfolding index_of
innermost_found x [] k h = absurd h
innermost_found x (y ∷ around) zero h = rw ((same_name_lem x y).1 h)
innermost_found x (y ∷ around) (suc k) h = rw (not_same x y h.0, innermost_found x around k h.1)

pub innermost : (x : Name) (around : List Name) (k : ℕ) → (index_of x around ≡ some k) ↔ Innermost x around k
innermost x around k = (each_some (Innermost x around) (each_innermost x around), innermost_found x around k)

-- the form without names, node by node
each_form : (t : Tree) (around : List Name) → Each (Form t around) (nameless t around)
unfolding nameless
each_form (variable x) around = each_bind (Innermost x around) (Form (variable x) around) (index_of x around) _ (each_innermost x around) λ k h. h
each_form (binder x t) around =
    each_bind (Form t (x ∷ around)) (Form (binder x t) around) (nameless t (x ∷ around)) _ (each_form t (x ∷ around)) λ b h. h
each_form (apply f a) around =
    each_bind (Form f around) (Form (apply f a) around) (nameless f around) _ (each_form f around)
    λ g h. each_bind (Form a around) (Form (apply f a) around) (nameless a around) _ (each_form a around) λ b i. (h, i)

form_found : (t : Tree) (around : List Name) (u : Term) → Form t around u → nameless t around ≡ some u
unfolding nameless
form_found (variable x) around (var k) h = rw (innermost_found x around k h)
form_found (variable x) around (lam b) h = absurd h
form_found (variable x) around (app g b) h = absurd h
form_found (binder x t) around (var k) h = absurd h
form_found (binder x t) around (lam b) h = rw (form_found t (x ∷ around) b h)
form_found (binder x t) around (app g b) h = absurd h
form_found (apply f a) around (var k) h = absurd h
form_found (apply f a) around (lam b) h = absurd h
form_found (apply f a) around (app g b) h = rw (form_found f around g h.0, form_found a around b h.1)

pub nameless_exactly : (t : Tree) (around : List Name) (u : Term) → (nameless t around ≡ some u) ↔ Form t around u
nameless_exactly t around u = (each_some (Form t around) (each_form t around), form_found t around u)

-- a name has an index exactly where it stands among the binders around it
innermost_among : (x : Name) (around : List Name) (k : ℕ) → Innermost x around k → Among x around × (k < length around)
innermost_among x [] k h = absurd h
innermost_among x (y ∷ around) zero h = (subst (λ (z : Name). Among x (z ∷ around)) h here, omega arith)
innermost_among x (y ∷ around) (suc k) h = let r = innermost_among x around k h.1 in (there r.0, omega arith)

among_index : (x : Name) (around : List Name) → Among x around → (k : ℕ) × (index_of x around ≡ some k)
unfolding index_of
among_index x [] m = elim m [ ]
among_index x (_ ∷ around) here = (0, rw ((same_name_lem x x).1 refl))
among_index x (y ∷ around) (there m) = by_test (same_name x y) refl (among_index x around m)
  where
    by_test : (t : Bool) → same_name x y ≡ t → (k : ℕ) × (index_of x around ≡ some k) → (k : ℕ) × (index_of x (y ∷ around) ≡ some k)
    by_test true e r = (0, rw e)
    by_test false e r = (suc r.0, rw (e, r.1))

pub closed_named : (t : Tree) (around : List Name) → ClosedIn t around → (u : Term) × (nameless t around ≡ some u)
unfolding nameless
closed_named (variable x) around c = let r = among_index x around c in (var r.0, rw r.1)
closed_named (binder x t) around c = let r = closed_named t (x ∷ around) c in (lam r.0, rw r.1)
closed_named (apply f a) around c =
    let r = closed_named f around c.0 in
    let s = closed_named a around c.1 in
    (app r.0 s.0, rw (r.1, s.1))

ClosedAs : Tree → List Name → Term → Type 0
ClosedAs t around u = ClosedIn t around × ClosedUnder (length around) u

each_closed : (t : Tree) (around : List Name) → Each (ClosedAs t around) (nameless t around)
unfolding nameless ClosedAs
each_closed (variable x) around =
    each_bind (Innermost x around) (ClosedAs (variable x) around) (index_of x around) _ (each_innermost x around) (innermost_among x around)
each_closed (binder x t) around =
    each_bind (ClosedAs t (x ∷ around)) (ClosedAs (binder x t) around) (nameless t (x ∷ around)) _ (each_closed t (x ∷ around)) λ b h. h
each_closed (apply f a) around =
    each_bind (ClosedAs f around) (ClosedAs (apply f a) around) (nameless f around) _ (each_closed f around)
    λ g h. each_bind (ClosedAs a around) (ClosedAs (apply f a) around) (nameless a around) _ (each_closed a around)
    λ b i. ((h.0, i.0), (h.1, i.1))

pub nameless_closed : (t : Tree) (around : List Name) (u : Term) → nameless t around ≡ some u → ClosedIn t around × ClosedUnder (length around) u
unfolding ClosedAs
nameless_closed t around u e = each_some (ClosedAs t around) (each_closed t around) e

pub unbound : (t : Tree) (around : List Name) → (nameless t around ≡ none) ↔ (ClosedIn t around → ⊥)
unbound t around = (none_closed, by_named (nameless t around) refl)
  where
    none_closed : nameless t around ≡ none → ClosedIn t around → ⊥
    none_closed e c =
        let r = closed_named t around c in
        let z : ◌≡◌ {A = ℕ} 0 1 = cc in
        omega arith

    by_named : (o : Option Term) → nameless t around ≡ o → (ClosedIn t around → ⊥) → nameless t around ≡ none
    by_named none e n = e
    by_named (some u) e n = absurd (n (nameless_closed t around u e).0)
