-- What the reader of the number dialect accepts and refuses, in words. Theorems of the same names: proofs/NumbersRead.antt.
use Rattle.std.specs.Prelude.{◌≡◌, ◌↔◌, List, ℕ, ◌≤◌, length}
use Rattle.term.specs.Term.{Term, Closed}
use Rattle.text.specs.Reading.{most_bytes}
use Rattle.text.specs.Exactly.{AcceptedBy, OneBy, SixBy, RefusedBy}
use Rattle.text.specs.NumberGrammar.{Phrase}
use Rattle.text.specs.NumberReading.{read_numbers_of}

-- Numbers 1, 13 and 14 do not apply, and this is the term.
pub record NumbersMean (text : List ℕ) (t : Term) : Type 0 where
  pub few_bytes : length text ≤ most_bytes
  pub phrase : Phrase text t
  pub closed : Closed t

abbrev pub NumbersAcceptedExactly : Type 0
NumbersAcceptedExactly = AcceptedBy read_numbers_of NumbersMean

-- number 1
abbrev pub NumbersOneExactly : Type 0
NumbersOneExactly = OneBy read_numbers_of

-- number 13: "the bytes are no such text"
abbrev pub ThirteenExactly : Type 0
ThirteenExactly =
    (text table : List ℕ) → ((read_numbers_of text table).refusal ≡ 13) ↔ ((length text ≤ most_bytes) × ((t : Term) → Phrase text t → ⊥))

-- number 14: they are, and "a number reaches past the outermost binder"
abbrev pub FourteenExactly : Type 0
FourteenExactly =
    (text table : List ℕ)
    → ((read_numbers_of text table).refusal ≡ 14) ↔ ((length text ≤ most_bytes) × ((t : Term) × Phrase text t × (Closed t → ⊥)))

-- number 6
abbrev pub NumbersSixExactly : Type 0
NumbersSixExactly = SixBy read_numbers_of NumbersMean

abbrev pub NumbersRefusedUnchanged : Type 0
NumbersRefusedUnchanged = RefusedBy read_numbers_of
