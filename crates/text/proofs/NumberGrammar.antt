-- A text is a phrase of the number dialect exactly where it is the text of its term; and how long that is.
use mathlib.Core.Path.{◌≡◌, ap, ap₂, subst⁻¹}
use mathlib.Core.List.{List, ◌∷◌, ◌++◌}
use Prim.Native.Nat.{ℕ, suc, ◌+◌, ◌*◌, ◌≤◌}
use native.Mathlib.Omega.{arith}
use lib.ListN.{length, length-append}
use Rattle.decimal.specs.Decimal.{decimal}
use Rattle.decimal.proofs.Decimal.{decimal_is, decimal_only, decimal_few}
use Rattle.term.specs.Term.{Term, var, lam, app, size, ClosedUnder, Closed}
use Rattle.term.specs.Accepted.{most_nodes}
use Rattle.text.specs.Bytes.{lambda, space}
use Rattle.text.specs.NumberGrammar.{at_sign, Phrase, number, abstraction, application, number_text, PhraseExactly}

phrase_text_lem : (s : List ℕ) (t : Term) → Phrase s t → s ≡ number_text t
unfolding number_text
phrase_text_lem s t (number r k d) = decimal_only r k d
phrase_text_lem s t (abstraction r b p) = ap (λ x. lambda ∷ space ∷ x) (phrase_text_lem r b p)
phrase_text_lem s t (application r q f a p g) = ap₂ (λ x y. at_sign ∷ space ∷ (x ++ (space ∷ y))) (phrase_text_lem r f p) (phrase_text_lem q a g)

pub text_phrase : (t : Term) → Phrase (number_text t) t
unfolding number_text
text_phrase (var k) = number (decimal k) k (decimal_is k)
text_phrase (lam b) = abstraction (number_text b) b (text_phrase b)
text_phrase (app f a) = application (number_text f) (number_text a) f a (text_phrase f) (text_phrase a)

pub phrase_exactly : PhraseExactly
phrase_exactly s t = (phrase_text_lem s t, λ e. subst⁻¹ (λ r. Phrase r t) e (text_phrase t))

-- A text has a byte or more for each node of its term.
pub text_long : (t : Term) → size t ≤ length (number_text t)
unfolding number_text
text_long (var k) = (decimal_is k).some_digit
text_long (lam b) = omega (arith, text_long b)
text_long (app f a) = omega (arith, length-append (number_text f) (space ∷ number_text a), text_long f, text_long a)

-- A node takes at most 16 bytes: the number of a variable has 4 digits at most.
short_under : (d : ℕ) (t : Term) → ClosedUnder d t → d + size t ≤ most_nodes → length (number_text t) ≤ 16 * size t
unfolding number_text
short_under d (var k) c h = omega (arith, decimal_few 3 k (omega arith))
short_under d (lam b) c h = omega (arith, short_under (suc d) b c (omega arith))
short_under d (app f a) c h =
    omega (
      arith,
      length-append (number_text f) (space ∷ number_text a),
      short_under d f c.0 (omega arith),
      short_under d a c.1 (omega arith),
    )

pub numbers_short : (t : Term) → Closed t → size t ≤ most_nodes → length (number_text t) ≤ 16 * size t
numbers_short t closed few = short_under 0 t closed (omega arith)
