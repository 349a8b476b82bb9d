-- Reading bytes as a phrase of the number dialect. `numbers_exactly` (proofs/NumberParse.antt): it finds the term that they spell, if there is one.
use Rattle.std.specs.Prelude.{◌≡◌, ◌↔◌, Bool, true, false, not, cond, List, [], ◌∷◌, ℕ, zero, suc, length, drop, eqb}
use Rattle.std.proofs.Math.Option.{Option, none, some}
use Rattle.decimal.specs.Decimal.{digit_byte, value_after}
use Rattle.term.specs.Choice.{◌>>=◌, if_some}
use Rattle.term.specs.Term.{Term, var, lam, app}
use Rattle.text.specs.Bytes.{lambda, space, class_of, is_digit}
use Rattle.text.specs.Parsed.{Parsed, parsed, whole}
use Rattle.text.specs.NumberGrammar.{at_sign, Phrase}

-- what follows this byte, where the bytes begin with it
abbrev pub after_byte : ℕ → List ℕ → Option (List ℕ)
after_byte b [] = none
after_byte b (c ∷ s) = cond (eqb c b) (some s) none

-- the digits that the bytes begin with
unfoldable pub digits_first : List ℕ → List ℕ
digits_first [] = []
digits_first (b ∷ s) = cond (is_digit (class_of b)) (b ∷ digits_first s) []

-- one digit, or more of which the first is not 0
abbrev pub is_number : List ℕ → Bool
is_number [] = false
is_number (b ∷ []) = true
is_number (b ∷ c ∷ s) = not (eqb b (digit_byte 0))

abbrev pub number_at : List ℕ → Option (Parsed Term ℕ)
number_at s = cond (is_number (digits_first s)) (some (parsed (var (value_after 0 (digits_first s))) (drop (length (digits_first s)) s))) none

-- A phrase, at most f deep.
unfoldable pub phrase_at : ℕ → List ℕ → Option (Parsed Term ℕ)
phrase_at zero s = none
phrase_at (suc f) s =
    if_some (after_byte lambda s)
    (λ r. after_byte space r >>= λ q. phrase_at f q >>= λ b. some (parsed (lam b.value) b.left))
    (λ _. if_some (after_byte at_sign s)
    (λ r. after_byte space r >>= λ q. phrase_at f q >>= λ g. after_byte space g.left >>= λ u. phrase_at f u >>= λ a. some (parsed (app g.value a.value) a.left))
    (λ _. number_at s))

-- All the bytes as one phrase. No phrase is deeper than it has bytes.
unfoldable pub parse_numbers : List ℕ → Option Term
parse_numbers text = phrase_at (length text) text >>= λ p. whole p

abbrev pub NumbersExactly : Type 0
NumbersExactly = (text : List ℕ) (t : Term) → (parse_numbers text ≡ some t) ↔ Phrase text t
