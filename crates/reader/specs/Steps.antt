-- What the first steps of a reading answer: numbers 1 to 3, and the code of what a text spells.
use Rattle.std.specs.Prelude.{◌≡◌, List, [], ℕ}
use Rattle.std.specs.Prelude as Std
use Rattle.std.proofs.Math.Option.{Option, none, some, get_or}
use Rattle.term.specs.Choice.{first}
use Rattle.term.specs.Term.{Term}
use Rattle.text.specs.Tokens.{tokens}
use Rattle.text.specs.Grammar.{phrase_tree}
use Rattle.text.specs.Parse.{parse}
use Rattle.text.specs.Binding.{nameless}
use Rattle.text.specs.Reading.{spelling_tests}
use Rattle.text.specs.NumberParse.{parse_numbers}
use Rattle.text.specs.NumberReading.{closed_only}
use Rattle.reader.specs.Answering.{InCode}

-- the number of the three that look at bytes and names alone, and 0 for none
unfoldable pub spelling_number : List ℕ → ℕ
spelling_number text = get_or (first (spelling_tests text)) 0

-- Something was found, and its meaning stands in code; or nothing was.
pub record CodedTo {A : Type 0} (found : Option A) (meaning : A → Option Term) (n : ℕ) (code : List ℕ) : Type 0 where
  pub value : A
  pub is : found ≡ some value
  pub in_code : InCode code n (meaning value)

abbrev pub CodedIs : {A : Type 0} → Option A → (A → Option Term) → Std.Option ℕ → List ℕ → Type 0
CodedIs found meaning (Std.Some n) code = CodedTo found meaning n code
CodedIs found meaning Std.None code = found ≡ none

-- What a text with names spells, and one in numbers, by what is parsed there.
abbrev pub NamesCoded : List ℕ → Std.Option ℕ → List ℕ → Type 0
NamesCoded text r code = CodedIs (parse (tokens text)) (λ p. nameless (phrase_tree p) []) r code

abbrev pub NumbersCoded : List ℕ → Std.Option ℕ → List ℕ → Type 0
NumbersCoded text r code = CodedIs (parse_numbers text) closed_only r code
