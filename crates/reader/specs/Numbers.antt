-- What the functions that read the number dialect answer: the phrase that stands at a place and its code, or that there is none.
use Rattle.std.specs.Prelude.{◌≡◌, cond, List, [], ◌∷◌, ◌++◌, ℕ, suc, ◌+◌, ◌-◌, ◌≤◌, ◌<◌, length, get_or, drop, ltb, Some, None}
use Rattle.std.proofs.Math.Option.{none, some}
use Rattle.std.proofs.lemmas.List.Edits.{sets}
use Rattle.term.specs.Term.{Term, var, lam, app}
use Rattle.text.specs.Bytes.{lambda}
use Rattle.text.specs.Reading.{most_bytes}
use Rattle.text.specs.NumberGrammar.{at_sign, number_text}
use Rattle.text.specs.NumberParse.{digits_first}
use Rattle.reader.specs.Grammar.{variable_word}
use Rattle.reader.specs.Types.{Got}

-- The word of a number under d binders: 3 plus the number, and 0 where it reaches past the outermost, so that it has no binder.
abbrev pub word_under : ℕ → ℕ → ℕ
word_under d k = variable_word (cond (ltb k d) (some k) none)

-- The code of a term under d binders: as a term's code, but for these words.
unfoldable pub code_under : Term → ℕ → List ℕ
code_under (var k) d = word_under d k ∷ []
code_under (lam b) d = 1 ∷ code_under b (suc d)
code_under (app f a) d = 2 ∷ (code_under f d ++ code_under a d)

-- s is `before`, then the text of t, then `left`, which no digit begins: a number ends where its digits do.
pub record Begins (before s : List ℕ) (t : Term) (left : List ℕ) : Type 0 where
  pub spells : before ++ (number_text t ++ left) ≡ s
  pub ends : digits_first left ≡ []

-- The bytes from a position on do not begin so.
abbrev pub NoPhrase : List ℕ → List ℕ → ℕ → Type 0
NoPhrase before text at = (t : Term) (left : List ℕ) → Begins before (drop at text) t left → ⊥

-- Each byte that is left may give a word, and each byte before may be a binder.
pub record PhraseRoom (text : List ℕ) (at depth : ℕ) (out : List ℕ) (node : ℕ) : Type 0 where
  pub within : at ≤ length text
  pub short : length text ≤ most_bytes
  pub binders : depth ≤ at
  pub words : node + (length text - at) ≤ length out

-- Such a text was read up to p, and its code stands in front of word m.
pub record PhraseTo (before text : List ℕ) (at depth : ℕ) (out : List ℕ) (node p m : ℕ) (out' : List ℕ) : Type 0 where
  pub value : Term
  pub begins : Begins before (drop at text) value (drop p text)
  pub on : at < p
  pub within : p ≤ length text
  pub room : m + at ≤ node + p
  pub next : m ≡ node + length (code_under value depth)
  pub wrote : out' ≡ sets out node (code_under value depth)

-- What the functions that read a phrase promise of their answer, and of what they leave at exit.
abbrev pub PhraseRead : List ℕ → List ℕ → ℕ → ℕ → List ℕ → ℕ → Got → List ℕ → Type 0
PhraseRead before text at depth out node (Some (p, m)) out' = PhraseTo before text at depth out node p m out'
PhraseRead before text at depth out node None out' = NoPhrase before text at

-- `number` promises the same where no `\` and no `@` begins the bytes.
abbrev pub NumberRead : List ℕ → ℕ → ℕ → List ℕ → ℕ → Got → List ℕ → Type 0
NumberRead text at depth out node r out' =
    (get_or text at 0 ≡ lambda → ⊥) → (get_or text at 0 ≡ at_sign → ⊥) → PhraseRead [] text at depth out node r out'
