-- The code of a tree among names: it is the code of its form without names, and it has a word 0 exactly where there is none.
use mathlib.Core.Path.{◌≡◌, refl, sym, ap, ap₂, ◌∙◌, subst}
use mathlib.Core.Bool.{◌||◌}
use mathlib.Core.Option.{Option, none, some}
use mathlib.Core.List.{List, [], ◌∷◌, ◌++◌}
use Prim.Native.Nat.{ℕ, suc, ◌+◌}
use native.Mathlib.Omega.{arith}
use lib.ListN.{length, length-append}
use lib.Dec.{eqb}
use borrow.Author.Tests.{ne_eqb}
use Rattle.std.proofs.lemmas.List.Folds.{list_any-append}
use Rattle.term.specs.Choice.{◌>>=◌, is_none}
use Rattle.term.specs.Term.{Term, var, lam, app}
use Rattle.term.specs.Code.{code_of}
use Rattle.text.specs.Tokens.{Name}
use Rattle.text.specs.Grammar.{Tree, variable, binder, apply}
use Rattle.text.specs.Binding.{index_of, nameless}
use Rattle.reader.specs.Grammar.{variable_word, tree_code}
use Rattle.reader.specs.Answering.{any_zero, Codes}
use Rattle.text.proofs.Each.{Each, each_bind}
use Rattle.text.proofs.Binding.{nameless_closed}
use Rattle.text.proofs.Size.{nodes}

-- a word for each node
pub tree_code_length : (t : Tree) (around : List Name) → length (tree_code t around) ≡ nodes t
unfolding tree_code
tree_code_length (variable x) around = refl
tree_code_length (binder x t) around = ap suc (tree_code_length t (x ∷ around))
tree_code_length (apply f a) around =
    ap suc (length-append (tree_code f around) (tree_code a around) ∙ ap₂ (λ m n. m + n) (tree_code_length f around) (tree_code_length a around))

abbrev CodeIs : Tree → List Name → Term → Type 0
CodeIs t around u = tree_code t around ≡ code_of u

each_code : (t : Tree) (around : List Name) → Each (CodeIs t around) (nameless t around)
unfolding nameless tree_code code_of
each_code (variable x) around = by_index (index_of x around)
  where
    by_index : (o : Option ℕ) → Each (λ u. variable_word o ∷ [] ≡ code_of u) (o >>= λ k. some (var k))
    by_index none = tt
    by_index (some k) = refl
each_code (binder x t) around =
    each_bind (CodeIs t (x ∷ around)) (CodeIs (binder x t) around) (nameless t (x ∷ around)) (λ b. some (lam b)) (each_code t (x ∷ around)) λ b h.
    ap (λ ws. 1 ∷ ws) h
each_code (apply f a) around =
    each_bind (CodeIs f around) (CodeIs (apply f a) around) (nameless f around) (λ g. nameless a around >>= λ b. some (app g b)) (each_code f around) λ g h.
    each_bind (CodeIs a around) (CodeIs (apply f a) around) (nameless a around) (λ b. some (app g b)) (each_code a around) λ b k.
    ap₂ (λ ws vs. 2 ∷ (ws ++ vs)) h k

nameless_code : (t : Tree) (around : List Name) (u : Term) → nameless t around ≡ some u → tree_code t around ≡ code_of u
nameless_code t around u e = subst (Each (CodeIs t around)) e (each_code t around)

-- What makes something of one option, or of two, is none where one of them is.
none_of_one : {A B : Type 0} (o : Option A) (f : A → B) → is_none (o >>= λ a. some (f a)) ≡ is_none o
none_of_one none f = refl
none_of_one (some a) f = refl

none_of_two : {A B C : Type 0} (o : Option A) (q : Option B) (f : A → B → C) → is_none (o >>= λ a. q >>= λ b. some (f a b)) ≡ (is_none o || is_none q)
none_of_two none q f = refl
none_of_two (some a) q f = none_of_one q (f a)

zero_unbound : (t : Tree) (around : List Name) → any_zero (tree_code t around) ≡ is_none (nameless t around)
unfolding nameless tree_code
zero_unbound (variable x) around = by_index (index_of x around)
  where
    by_index : (o : Option ℕ) → any_zero (variable_word o ∷ []) ≡ is_none (o >>= λ k. some (var k))
    by_index none = refl
    by_index (some k) = rw (ne_eqb (3 + k) 0 (λ e. omega arith))
zero_unbound (binder x t) around = zero_unbound t (x ∷ around) ∙ sym (none_of_one (nameless t (x ∷ around)) lam)
zero_unbound (apply f a) around =
    list_any-append (λ w. eqb w 0) (tree_code f around) (tree_code a around)
    ∙ ap₂ (λ s t. s || t) (zero_unbound f around) (zero_unbound a around)
    ∙ sym (none_of_two (nameless f around) (nameless a around) app)

-- It is the code of what the tree means.
pub tree_codes : (t : Tree) → Codes (tree_code t []) (nameless t [])
tree_codes t = by_form (nameless t []) refl
  where
    by_form : (o : Option Term) → nameless t [] ≡ o → Codes (tree_code t []) o
    by_form none e = zero_unbound t [] ∙ ap is_none e
    by_form (some u) e = (nameless_code t [] u e, (nameless_closed t [] u e).1)
