-- Document 01: "A name means its innermost binder." The term without names that a tree means, if it is closed.
use Rattle.std.specs.Prelude.{◌≡◌, Bool, true, false, ◌&&◌, cond, List, [], ◌∷◌, ℕ, zero, suc, eqb}
use Rattle.std.proofs.Math.Option.{Option, none, some}
use Rattle.term.specs.Choice.{◌>>=◌}
use Rattle.term.specs.Term.{Term, var, lam, app}
use Rattle.text.specs.Tokens.{Name}
use Rattle.text.specs.Grammar.{Tree, variable, binder, apply}

abbrev pub same_name : Name → Name → Bool
same_name [] [] = true
same_name [] (c ∷ y) = false
same_name (b ∷ x) [] = false
same_name (b ∷ x) (c ∷ y) = eqb b c && same_name x y

-- how many binders stand between a name and its innermost one; the names around it stand innermost first
unfoldable pub index_of : Name → List Name → Option ℕ
index_of x [] = none
index_of x (y ∷ around) = cond (same_name x y) (some 0) (index_of x around >>= λ k. some (suc k))

unfoldable pub nameless : Tree → List Name → Option Term
nameless (variable x) around = index_of x around >>= λ k. some (var k)
nameless (binder x t) around = nameless t (x ∷ around) >>= λ b. some (lam b)
nameless (apply f a) around = nameless f around >>= λ g. nameless a around >>= λ b. some (app g b)

-- The same in words, for the theorem `nameless_exactly` (proofs/Binding.antt): the binder k places out has the name, and none within it has,
abbrev pub Innermost : Name → List Name → ℕ → Type 0
Innermost x [] k = ⊥
Innermost x (y ∷ around) zero = x ≡ y
Innermost x (y ∷ around) (suc k) = (x ≡ y → ⊥) × Innermost x around k

-- and a term is the form without names of a tree if the two agree node by node.
abbrev pub Form : Tree → List Name → Term → Type 0
Form (variable x) around (var k) = Innermost x around k
Form (variable x) around (lam b) = ⊥
Form (variable x) around (app g b) = ⊥
Form (binder x t) around (var k) = ⊥
Form (binder x t) around (lam b) = Form t (x ∷ around) b
Form (binder x t) around (app g b) = ⊥
Form (apply f a) around (var k) = ⊥
Form (apply f a) around (lam b) = ⊥
Form (apply f a) around (app g b) = Form f around g × Form a around b

-- Number 5, "a name without a binder", does not apply: every name stands among the binders around it.
pub data Among (x : Name) : List Name → Type 0 where
  here : {around : List Name} → Among x (x ∷ around)
  there : {y : Name} {around : List Name} → Among x around → Among x (y ∷ around)

abbrev pub ClosedIn : Tree → List Name → Type 0
ClosedIn (variable x) around = Among x around
ClosedIn (binder x t) around = ClosedIn t (x ∷ around)
ClosedIn (apply f a) around = ClosedIn f around × ClosedIn a around
