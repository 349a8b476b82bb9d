-- The kind of a node, as `term` tells it, and the word that says it.
use mathlib.Core.Path.{◌≡◌, refl, sym, ◌∙◌}
use mathlib.Core.Bool.{Bool, true, false}
use Prim.Native.Nat.{ℕ, zero, suc}
use native.Mathlib.Omega.{arith}
use lib.Dec.{eqb}
use borrow.Author.Tests.{eq-eqb, ne_eqb, eqb-true, eqb-false}
use Rattle.std.specs.Prelude.{Option, Some, None}
use Rattle.std.specs.Option.{option_eq}
use Rattle.term.specs.Table
use Rattle.term.specs.Table.{kind_of}
use Rattle.term.specs.Kinds.{kind_meant}
use Rattle.term.specs.declared.kinds.Kind.{Kind}
use Rattle.term.specs.declared.kinds.Kind.TheVariants.{Variable, Abstraction, Application}

-- What its word is.
abbrev pub WordOf : Table.Kind → ℕ → Type 0
WordOf Table.variable k = k ≡ 1
WordOf Table.abstraction k = k ≡ 2
WordOf Table.application k = k ≡ 3
WordOf Table.nothing k = (k ≡ 1 → ⊥) × (k ≡ 2 → ⊥)

word_is : (k : ℕ) → WordOf (kind_of k) k
unfolding kind_of
word_is zero = (λ e. omega arith, λ e. omega arith)
word_is (suc zero) = refl
word_is (suc (suc zero)) = refl
word_is (suc (suc (suc zero))) = refl
word_is (suc (suc (suc (suc k)))) = (λ e. omega arith, λ e. omega arith)

pub word_of : (m : Table.Kind) (k : ℕ) → m ≡ kind_of k → WordOf m k
word_of m k e = rw e (word_is k)

-- Tests of two kinds, that tell an abstraction, or a variable, from the others.
module _ (E : Kind → Kind → Bool) where
  pub abstraction_same : E Abstraction Abstraction ≡ true → E Variable Abstraction ≡ false → E Application Abstraction ≡ false
      → (o : Option Kind) (k : ℕ) → kind_meant o ≡ kind_of k → option_eq E o (Some Abstraction) ≡ eqb k 2
  abstraction_same a v p None k e = sym (ne_eqb k 2 (word_of Table.nothing k e).1)
  abstraction_same a v p (Some Abstraction) k e = a ∙ sym (eq-eqb k 2 (word_of Table.abstraction k e))
  abstraction_same a v p (Some Variable) k e = v ∙ sym (ne_eqb k 2 (λ z. omega (arith, word_of Table.variable k e)))
  abstraction_same a v p (Some Application) k e = p ∙ sym (ne_eqb k 2 (λ z. omega (arith, word_of Table.application k e)))

  pub variable_same : E Variable Variable ≡ true → E Abstraction Variable ≡ false → E Application Variable ≡ false
      → (o : Option Kind) (k : ℕ) → kind_meant o ≡ kind_of k → option_eq E o (Some Variable) ≡ eqb k 1
  variable_same v a p None k e = sym (ne_eqb k 1 (word_of Table.nothing k e).0)
  variable_same v a p (Some Variable) k e = v ∙ sym (eq-eqb k 1 (word_of Table.variable k e))
  variable_same v a p (Some Abstraction) k e = a ∙ sym (ne_eqb k 1 (λ z. omega (arith, word_of Table.abstraction k e)))
  variable_same v a p (Some Application) k e = p ∙ sym (ne_eqb k 1 (λ z. omega (arith, word_of Table.application k e)))

  pub is_abstraction : E Abstraction Abstraction ≡ true → E Variable Abstraction ≡ false → E Application Abstraction ≡ false
      → (o : Option Kind) (k : ℕ) → kind_meant o ≡ kind_of k → option_eq E o (Some Abstraction) ≡ true → k ≡ 2
  is_abstraction a v p o k h t = eqb-true k 2 (sym (abstraction_same a v p o k h) ∙ t)

  pub no_abstraction : E Abstraction Abstraction ≡ true → E Variable Abstraction ≡ false → E Application Abstraction ≡ false
      → (o : Option Kind) (k : ℕ) → kind_meant o ≡ kind_of k → option_eq E o (Some Abstraction) ≡ false → k ≡ 2 → ⊥
  no_abstraction a v p o k h t = eqb-false k 2 (sym (abstraction_same a v p o k h) ∙ t)

  pub is_variable : E Variable Variable ≡ true → E Abstraction Variable ≡ false → E Application Variable ≡ false
      → (o : Option Kind) (k : ℕ) → kind_meant o ≡ kind_of k → option_eq E o (Some Variable) ≡ true → k ≡ 1
  is_variable v a p o k h t = eqb-true k 1 (sym (variable_same v a p o k h) ∙ t)

  pub no_variable : E Variable Variable ≡ true → E Abstraction Variable ≡ false → E Application Variable ≡ false
      → (o : Option Kind) (k : ℕ) → kind_meant o ≡ kind_of k → option_eq E o (Some Variable) ≡ false → k ≡ 1 → ⊥
  no_variable v a p o k h t = eqb-false k 1 (sym (variable_same v a p o k h) ∙ t)
