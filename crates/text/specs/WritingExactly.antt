-- What the writer answers, in words, by what the text of a term is (`of`). Theorems of the same names: proofs/Writing.antt.
use Rattle.std.specs.Prelude.{◌≡◌, ◌↔◌, ◌⊎◌, List, ◌++◌, ℕ, ◌≤◌, ◌<◌, length, drop}
use Rattle.term.specs.Term.{Term}
use Rattle.term.specs.Accepted.{Accepted}
use Rattle.text.specs.Reading.{most_bytes}
use Rattle.text.specs.Writing.{writing}

-- number 11 does not apply: s has at most 3,000 bytes, and no more than are lent
abbrev pub Fits : List ℕ → List ℕ → Type 0
Fits s text = (length s ≤ most_bytes) × (length s ≤ length text)

-- the text of the table's term, whole, with the bytes after it as they were
pub record Writes (of : Term → List ℕ) (w : List ℕ) (n : ℕ) (text : List ℕ) (len : ℕ) (bytes : List ℕ) : Type 0 where
  pub accepted_table : Accepted w n
  pub fits : Fits (of accepted_table.term) text
  pub len_is : len ≡ length (of accepted_table.term)
  pub bytes_are : bytes ≡ of accepted_table.term ++ drop len text

abbrev pub WrittenExactly : (Term → List ℕ) → Type 0
WrittenExactly of =
    (w : List ℕ) (n : ℕ) (text : List ℕ) (len : ℕ) (bytes : List ℕ)
    → (writing of w n text ≡ record { len = len; refusal = 0; text = bytes }) ↔ Writes of w n text len bytes

-- number 7: the table is not accepted
abbrev pub SevenExactly : (Term → List ℕ) → Type 0
SevenExactly of = (w : List ℕ) (n : ℕ) (text : List ℕ) → ((writing of w n text).refusal ≡ 7) ↔ (Accepted w n → ⊥)

-- number 11: it is, and its text is over 3,000 bytes or over the lent ones
abbrev pub ElevenExactly : (Term → List ℕ) → Type 0
ElevenExactly of =
    (w : List ℕ) (n : ℕ) (text : List ℕ)
    → ((writing of w n text).refusal ≡ 11)
    ↔ ((A : Accepted w n) × ((most_bytes < length (of A.term)) ⊎ (length text < length (of A.term))))

-- In a refusal the length is 0, and no lent byte differs.
abbrev pub RefusedUnwritten : (Term → List ℕ) → Type 0
RefusedUnwritten of =
    (w : List ℕ) (n : ℕ) (text : List ℕ) → ((writing of w n text).refusal ≡ 0 → ⊥) → ((writing of w n text).len ≡ 0) × ((writing of w n text).text ≡ text)
