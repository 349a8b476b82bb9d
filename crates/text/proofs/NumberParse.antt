-- The reading of bytes as a phrase of the number dialect finds the one term that they spell.
use mathlib.Core.Path.{◌≡◌, refl, sym, ap, ◌∙◌}
use mathlib.Core.Bool.{Bool, true, false, not, ◌&&◌, ◌||◌, cond, false≢true}
use mathlib.Core.Option.{none, some, get_or, some-injective}
use mathlib.Core.List.{List, [], ◌∷◌, ◌++◌, append-nil, append_assoc}
use Prim.Native.Nat.{ℕ, zero, suc, ◌+◌, ◌≤◌, ◌<◌}
use native.Mathlib.Omega.{arith}
use lib.ListN.{length, drop}
use lib.Seq.{drop_at}
use lib.Dec.{leb, eqb}
use borrow.Author.Tests.{leb-true, eqb-true, eqb-false, ne_eqb, not-true}
use Rattle.decimal.specs.Decimal.{digit_byte, decimal, AllDigits, value_after, IsDecimal}
use Rattle.decimal.proofs.Decimal.{decimal_is, decimal_only}
use Rattle.term.specs.Choice.{◌⇒◌, first}
use Rattle.term.specs.Term.{Term, var, lam, app, size}
use Rattle.text.specs.Bytes.{letter, digit, blank, sign, foreign, lambda, dot, opening, closing, space, class_of, is_digit}
use Rattle.text.specs.Parsed.{Parsed, parsed}
use Rattle.text.specs.NumberGrammar.{at_sign, number_text, OnePhrase}
use Rattle.text.specs.NumberParse.{after_byte, digits_first, is_number, number_at, phrase_at, parse_numbers, NumbersExactly}
use Rattle.text.proofs.Each.{Each, each_some, each_bind, each_if, whole_spells}
use Rattle.text.proofs.Names.{digit_class}
use Rattle.text.proofs.NumberGrammar.{phrase_exactly, text_long}

-- A digit is a byte from 48 to 57.
not_digit : (t u : Bool) → is_digit (get_or (first ((t ⇒ blank) ∷ (u ⇒ sign) ∷ [])) foreign) ≡ false
not_digit true u = refl
not_digit false true = refl
not_digit false false = refl

digit_is : (b : ℕ) → is_digit (class_of b) ≡ true → (48 ≤ b) × (b ≤ 57)
unfolding class_of
digit_is b =
    by_tests (leb 97 b && leb b 122) (leb 48 b) (leb b 57) (eqb b 32 || eqb b 10) (eqb b lambda || eqb b dot || eqb b opening || eqb b closing) (leb-true 48 b) (leb-true b 57)
  where
    by_tests : (l m n t u : Bool) → (m ≡ true → 48 ≤ b) → (n ≡ true → b ≤ 57)
        → is_digit (get_or (first ((l ⇒ letter) ∷ (m && n ⇒ digit) ∷ (t ⇒ blank) ∷ (u ⇒ sign) ∷ [])) foreign) ≡ true → (48 ≤ b) × (b ≤ 57)
    by_tests true m n t u p q e = absurd (false≢true e)
    by_tests false true true t u p q e = (p refl, q refl)
    by_tests false true false t u p q e = absurd (false≢true (sym (not_digit t u) ∙ e))
    by_tests false false n t u p q e = absurd (false≢true (sym (not_digit t u) ∙ e))

-- The digits that bytes begin with: they are digits, the rest follows them and begins with none, and digits before another byte are found.
pub digits_are : (s : List ℕ) → AllDigits (digits_first s)
unfolding digits_first
digits_are [] = tt
digits_are (b ∷ s) = by_test (is_digit (class_of b)) refl (digits_are s)
  where
    by_test : (t : Bool) → is_digit (class_of b) ≡ t → AllDigits (digits_first s) → AllDigits (cond t (b ∷ digits_first s) [])
    by_test true e h = let d = digit_is b e in (d.0, d.1, h)
    by_test false e h = tt

pub digits_then : (s : List ℕ) → digits_first s ++ drop (length (digits_first s)) s ≡ s
unfolding digits_first
digits_then [] = refl
digits_then (b ∷ s) = by_test (is_digit (class_of b)) (digits_then s)
  where
    by_test : (t : Bool) → digits_first s ++ drop (length (digits_first s)) s ≡ s
        → cond t (b ∷ digits_first s) [] ++ drop (length (cond t (b ∷ digits_first s) [])) (b ∷ s) ≡ b ∷ s
    by_test true e = ap (λ r. b ∷ r) e
    by_test false e = refl

pub digits_end : (s : List ℕ) → digits_first (drop (length (digits_first s)) s) ≡ []
unfolding digits_first
digits_end [] = refl
digits_end (b ∷ s) = by_test (is_digit (class_of b)) refl (digits_end s)
  where
    by_test : (t : Bool) → is_digit (class_of b) ≡ t → digits_first (drop (length (digits_first s)) s) ≡ []
        → digits_first (drop (length (cond t (b ∷ digits_first s) [])) (b ∷ s)) ≡ []
    by_test true e h = h
    by_test false e h = rw e

pub digits_found : (s r : List ℕ) → AllDigits s → digits_first r ≡ [] → digits_first (s ++ r) ≡ s
unfolding digits_first
digits_found [] r h e = e
digits_found (b ∷ s) r h e = rw (digit_class b h.0 h.1, digits_found s r h.2 e)

pub space_ends : (s : List ℕ) → digits_first (space ∷ s) ≡ []
unfolding digits_first class_of
space_ends s = refl

-- They are a number exactly where they are the decimal of one.
pub number_test : (s : List ℕ) (k : ℕ) → IsDecimal s k → is_number s ≡ true
number_test [] k h = absurd (omega (arith, h.some_digit))
number_test (b ∷ []) k h = refl
number_test (b ∷ c ∷ s) k h = ap not (ne_eqb b (digit_byte 0) (λ e. let l = h.no_zero e in omega arith))

pub number_only : (s : List ℕ) → AllDigits s → is_number s ≡ true → IsDecimal s (value_after 0 s)
number_only [] h e = absurd (false≢true e)
number_only (b ∷ []) h e = record { some_digit = omega arith; digits = h; value = refl; no_zero = λ z. refl }
number_only (b ∷ c ∷ s) h e = record { some_digit = omega arith; digits = h; value = refl; no_zero = λ z. absurd (eqb-false b (digit_byte 0) (not-true _ e) z) }

-- A number begins with no `\` and no `@`.
pub no_sign : (s r : List ℕ) (b : ℕ) → 1 ≤ length s → AllDigits s → 57 < b → after_byte b (s ++ r) ≡ none
no_sign [] r b l h g = absurd (omega arith)
no_sign (c ∷ s) r b l h g = rw (ne_eqb c b (λ e. omega (arith, h.1)))

-- A phrase is found where it is spelt; no digit may follow it.
pub phrase_found : (t : Term) (f : ℕ) (rest : List ℕ) → size t ≤ f → digits_first rest ≡ [] → phrase_at f (number_text t ++ rest) ≡ some (parsed t rest)
unfolding phrase_at number_text
phrase_found (var k) zero rest h e = absurd (omega arith)
phrase_found (var k) (suc f) rest h e =
    let d = decimal_is k in
    rw (
      no_sign (decimal k) rest lambda d.some_digit d.digits (omega arith),
      no_sign (decimal k) rest at_sign d.some_digit d.digits (omega arith),
      digits_found (decimal k) rest d.digits e,
      number_test (decimal k) k d,
      drop_at (decimal k) rest (length (decimal k)) refl,
      d.value,
    )
phrase_found (lam b) zero rest h e = absurd (omega arith)
phrase_found (lam b) (suc f) rest h e = rw (phrase_found b f rest (omega arith) e)
phrase_found (app g a) zero rest h e = absurd (omega arith)
phrase_found (app g a) (suc f) rest h e =
    rw (append_assoc, phrase_found g f (space ∷ (number_text a ++ rest)) (omega arith) (space_ends (number_text a ++ rest)), phrase_found a f rest (omega arith) e)

-- What is read and what is left spell the bytes.
abbrev Spelt : List ℕ → Parsed Term ℕ → Type 0
Spelt s p = number_text p.value ++ p.left ≡ s

after_spelt : (b : ℕ) (s : List ℕ) → Each (λ r. b ∷ r ≡ s) (after_byte b s)
after_spelt b [] = tt
after_spelt b (c ∷ s) = by_test (eqb c b) (eqb-true c b)
  where
    by_test : (t : Bool) → (t ≡ true → c ≡ b) → Each (λ r. b ∷ r ≡ c ∷ s) (cond t (some s) none)
    by_test true e = rw (e refl)
    by_test false e = tt

number_spelt : (s : List ℕ) → Each (Spelt s) (number_at s)
unfolding number_text
number_spelt s = by_test (is_number (digits_first s)) refl
  where
    by_test : (t : Bool) → is_number (digits_first s) ≡ t
        → Each (λ (p : Parsed Term ℕ). number_text p.value ++ p.left ≡ s) (cond t (some (parsed (var (value_after 0 (digits_first s))) (drop (length (digits_first s)) s))) none)
    by_test true e =
        ap (λ d. d ++ drop (length (digits_first s)) s) (sym (decimal_only (digits_first s) (value_after 0 (digits_first s)) (number_only (digits_first s) (digits_are s) e)))
        ∙ digits_then s
    by_test false e = tt

phrase_spelt : (f : ℕ) (s : List ℕ) → Each (Spelt s) (phrase_at f s)
unfolding phrase_at number_text
phrase_spelt zero s = tt
phrase_spelt (suc f) s =
    let here = Spelt s in
    each_if (λ r. lambda ∷ r ≡ s) here (after_byte lambda s) _ _ (after_spelt lambda s)
    (λ r e. each_bind (λ q. space ∷ q ≡ r) here (after_byte space r) _ (after_spelt space r)
    λ q eq. each_bind (Spelt q) here (phrase_at f q) _ (phrase_spelt f q)
    λ b eb. rw (eb, eq) e)
    (each_if (λ r. at_sign ∷ r ≡ s) here (after_byte at_sign s) _ _ (after_spelt at_sign s)
    (λ r e. each_bind (λ q. space ∷ q ≡ r) here (after_byte space r) _ (after_spelt space r)
    λ q eq. each_bind (Spelt q) here (phrase_at f q) _ (phrase_spelt f q)
    λ g eg. each_bind (λ u. space ∷ u ≡ g.left) here (after_byte space g.left) _ (after_spelt space g.left)
    λ u eu. each_bind (Spelt u) here (phrase_at f u) _ (phrase_spelt f u)
    λ a ea. rw (append_assoc, ea, eu, eg, eq) e)
    (number_spelt s))

whole_spelt : (text : List ℕ) → Each (λ t. number_text t ≡ text) (parse_numbers text)
unfolding parse_numbers
whole_spelt text =
    each_bind (Spelt text) (λ t. number_text t ≡ text) (phrase_at (length text) text) _ (phrase_spelt (length text) text)
    λ p e. whole_spells number_text text p e

text_parsed : (t : Term) → parse_numbers (number_text t) ≡ some t
unfolding parse_numbers digits_first
text_parsed t =
    let f = length (number_text t) in
    let e : phrase_at f (number_text t) ≡ some (parsed t []) = rw (append-nil (number_text t)) at (phrase_found t f [] (text_long t) refl) in
    rw e

pub numbers_exactly : NumbersExactly
numbers_exactly text t = (
  λ e. (phrase_exactly text t).1 (sym (each_some (λ u. number_text u ≡ text) (whole_spelt text) e)),
  λ p. ap parse_numbers ((phrase_exactly text t).0 p) ∙ text_parsed t,
)

pub one_phrase : OnePhrase
one_phrase s t u p q = some-injective t u (sym ((numbers_exactly s t).1 p) ∙ (numbers_exactly s u).1 q)

-- Two phrases that begin the same bytes, with no digit after either, are the same and leave the same.
pub one_reading : (t u : Term) (r q : List ℕ) → digits_first r ≡ [] → digits_first q ≡ [] → number_text t ++ r ≡ number_text u ++ q → (t ≡ u) × (r ≡ q)
one_reading t u r q d e same =
    let f = size t + size u in
    let found : parsed t r ≡ parsed u q =
    some-injective (parsed t r) (parsed u q) (sym (phrase_found t f r (omega arith) d) ∙ ap (phrase_at f) same ∙ phrase_found u f q (omega arith) e) in
    (ap (λ (p : Parsed Term ℕ). p.value) found, ap (λ (p : Parsed Term ℕ). p.left) found)
