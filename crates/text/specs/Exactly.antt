-- What the reader accepts and refuses, in the words of document 01. Theorems of the same names: proofs/Exactly.antt.
use Rattle.std.specs.Prelude.{◌≡◌, ◌↔◌, false, List, [], ◌∷◌, ◌++◌, ℕ, ◌*◌, ◌≤◌, ◌<◌, length, drop}
use Rattle.term.specs.Term.{Term, size}
use Rattle.term.specs.Table.{table_of}
use Rattle.text.specs.Bytes.{foreign, class_of}
use Rattle.text.specs.Tokens.{Token, mark, name, tokens, starts_with_digit}
use Rattle.text.specs.Grammar.{Tree, Derives}
use Rattle.text.specs.Binding.{Form, ClosedIn}
use Rattle.text.specs.Reading.{Read, most_bytes, read_of}

-- number 2 does not apply: no byte is foreign
abbrev pub NoForeign : List ℕ → Type 0
NoForeign [] = Unit
NoForeign (b ∷ s) = (class_of b ≡ foreign → ⊥) × NoForeign s

-- number 3 does not apply: each name has at most 8 bytes and starts with no digit
abbrev pub GoodNames : List Token → Type 0
GoodNames [] = Unit
GoodNames (mark b ∷ ts) = GoodNames ts
GoodNames (name x ∷ ts) = (length x ≤ 8) × (starts_with_digit x ≡ false) × GoodNames ts

-- numbers 1 to 3 do not apply
pub record WellSpelled (text : List ℕ) : Type 0 where
  pub few_bytes : length text ≤ most_bytes
  pub no_foreign : NoForeign text
  pub good_names : GoodNames (tokens text)

-- The tokens derive a tree, it is closed, and this is its form without names.
pub record Means (text : List ℕ) (t : Term) : Type 0 where
  pub tree : Tree
  pub derives : Derives (tokens text) tree
  pub closed : ClosedIn tree []
  pub form : Form tree [] t

-- Numbers 1 to 5 do not apply, and this is the term.
abbrev pub NamesMean : List ℕ → Term → Type 0
NamesMean text t = WellSpelled text × Means text t

-- The reader answers n and leaves these words, where `meaning` tells the term that the text means.
pub record Accepts (meaning : Term → Type 0) (table : List ℕ) (n : ℕ) (words : List ℕ) : Type 0 where
  pub term : Term
  pub means : meaning term
  pub n_is : n ≡ size term
  pub room : 5 * n ≤ length table
  pub words_are : words ≡ table_of term ++ drop (5 * n) table

-- What is said of the reader of either dialect (the other is that of specs/NumbersRead.antt): what it accepts,
abbrev pub AcceptedBy : (List ℕ → List ℕ → Read) → (List ℕ → Term → Type 0) → Type 0
AcceptedBy read meaning =
    (text table : List ℕ) (n : ℕ) (words : List ℕ)
    → (read text table ≡ record { n = n; refusal = 0; table = words }) ↔ Accepts (meaning text) table n words

-- number 1,
abbrev pub OneBy : (List ℕ → List ℕ → Read) → Type 0
OneBy read = (text table : List ℕ) → ((read text table).refusal ≡ 1) ↔ (most_bytes < length text)

-- number 6: the slice is too short for the term's table,
abbrev pub SixBy : (List ℕ → List ℕ → Read) → (List ℕ → Term → Type 0) → Type 0
SixBy read meaning = (text table : List ℕ) → ((read text table).refusal ≡ 6) ↔ ((t : Term) × meaning text t × (length table < 5 * size t))

-- and, "A refused reader answers n as 0", that no lent word differs then.
abbrev pub RefusedBy : (List ℕ → List ℕ → Read) → Type 0
RefusedBy read = (text table : List ℕ) → ((read text table).refusal ≡ 0 → ⊥) → ((read text table).n ≡ 0) × ((read text table).table ≡ table)

abbrev pub AcceptedExactly : Type 0
AcceptedExactly = AcceptedBy read_of NamesMean

-- numbers 1, 2 and 3
abbrev pub OneExactly : Type 0
OneExactly = OneBy read_of

abbrev pub TwoExactly : Type 0
TwoExactly = (text table : List ℕ) → ((read_of text table).refusal ≡ 2) ↔ ((length text ≤ most_bytes) × (NoForeign text → ⊥))

abbrev pub ThreeExactly : Type 0
ThreeExactly =
    (text table : List ℕ) → ((read_of text table).refusal ≡ 3) ↔ ((length text ≤ most_bytes) × NoForeign text × (GoodNames (tokens text) → ⊥))

-- number 4: nothing is derived
abbrev pub FourExactly : Type 0
FourExactly = (text table : List ℕ) → ((read_of text table).refusal ≡ 4) ↔ (WellSpelled text × ((t : Tree) → Derives (tokens text) t → ⊥))

-- number 5: the derived tree is not closed
abbrev pub FiveExactly : Type 0
FiveExactly = (text table : List ℕ) → ((read_of text table).refusal ≡ 5) ↔ (WellSpelled text × ((t : Tree) × Derives (tokens text) t × (ClosedIn t [] → ⊥)))

-- number 6
abbrev pub SixExactly : Type 0
SixExactly = SixBy read_of NamesMean

abbrev pub RefusedReadingUnchanged : Type 0
RefusedReadingUnchanged = RefusedBy read_of
