-- Document 02, change 7, the number dialect: its grammar, a case for each phrase, and the text of a term. A text is a phrase of a term exactly
-- where it is that term's text (`phrase_exactly`, proofs/NumberGrammar.antt), and of no other term (`one_phrase`, proofs/NumberParse.antt).
use Rattle.std.specs.Prelude.{◌≡◌, ◌↔◌, List, ◌∷◌, ◌++◌, ℕ}
use Rattle.decimal.specs.Decimal.{decimal, IsDecimal}
use Rattle.term.specs.Term.{Term, var, lam, app}
use Rattle.text.specs.Bytes.{lambda, space}

-- `@`
abbrev pub at_sign : ℕ
at_sign = 64

-- These bytes are a phrase of the dialect, and this is its term. A part is each `\`, each `@` and each number: "one space before each part but the first".
pub data Phrase : List ℕ → Term → Type 0 where
  -- "a variable as a decimal number, 0 for the innermost binder"; "Leading zeros aren't allowed." A number of any length is the number it is
  number : (s : List ℕ) (k : ℕ) → IsDecimal s k → Phrase s (var k)
  -- "`\` before a body"
  abstraction : (s : List ℕ) (b : Term) → Phrase s b → Phrase (lambda ∷ space ∷ s) (lam b)
  -- "`@` before function and argument"
  application : (s r : List ℕ) (f a : Term) → Phrase s f → Phrase r a → Phrase (at_sign ∷ space ∷ (s ++ (space ∷ r))) (app f a)

-- The text of a term.
unfoldable pub number_text : Term → List ℕ
number_text (var k) = decimal k
number_text (lam b) = lambda ∷ space ∷ number_text b
number_text (app f a) = at_sign ∷ space ∷ (number_text f ++ (space ∷ number_text a))

abbrev pub PhraseExactly : Type 0
PhraseExactly = (s : List ℕ) (t : Term) → Phrase s t ↔ (s ≡ number_text t)

-- The grammar is unambiguous.
abbrev pub OnePhrase : Type 0
OnePhrase = (s : List ℕ) (t u : Term) → Phrase s t → Phrase s u → t ≡ u
