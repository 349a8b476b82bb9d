-- What a conversion answers, in words, from any dialect d to any e. Theorems of the same names: proofs/Converting.antt.
use Rattle.std.specs.Prelude.{◌≡◌, ◌↔◌, ◌⊎◌, List, ◌++◌, ℕ, ◌<◌, length, drop}
use Rattle.term.specs.Term.{Term}
use Rattle.text.specs.Reading.{most_bytes}
use Rattle.text.specs.Writing.{refused}
use Rattle.text.specs.WritingExactly.{Fits}
use Rattle.text.specs.Dialects.{Dialect, read_in, MeantIn, text_in, convert_of}

-- the text of the term that the original means, whole, with the bytes after it as they were
pub record Converts (d e : Dialect) (text out : List ℕ) (len : ℕ) (bytes : List ℕ) : Type 0 where
  pub term : Term
  pub meant : MeantIn d text term
  pub fits : Fits (text_in e term) out
  pub len_is : len ≡ length (text_in e term)
  pub bytes_are : bytes ≡ text_in e term ++ drop len out

abbrev pub ConvertedExactly : Type 0
ConvertedExactly =
    (d e : Dialect) (text out : List ℕ) (len : ℕ) (bytes : List ℕ)
    → (convert_of d e text out ≡ record { len = len; refusal = 0; text = bytes }) ↔ Converts d e text out len bytes

-- The original's dialect comes first: each number of its reader but 6, whatever the table that is lent there, is the conversion's.
abbrev pub SourceFirst : Type 0
SourceFirst =
    (d e : Dialect) (text out table : List ℕ) (k : ℕ) → (read_in d text table).refusal ≡ k → (k ≡ 0 → ⊥) → (k ≡ 6 → ⊥)
    → convert_of d e text out ≡ refused k out

-- "11, tested last, covers a result that is longer or over the lent buffer."
abbrev pub LastEleven : Type 0
LastEleven =
    (d e : Dialect) (text out : List ℕ)
    → ((convert_of d e text out).refusal ≡ 11)
    ↔ ((t : Term) × MeantIn d text t × ((most_bytes < length (text_in e t)) ⊎ (length out < length (text_in e t))))

-- Neither 6 nor 7 comes.
abbrev pub NoTableNumber : Type 0
NoTableNumber = (d e : Dialect) (text out : List ℕ) → ((convert_of d e text out).refusal ≡ 6 → ⊥) × ((convert_of d e text out).refusal ≡ 7 → ⊥)

-- In a refusal the length is 0, and no lent byte differs.
abbrev pub RefusedUnconverted : Type 0
RefusedUnconverted =
    (d e : Dialect) (text out : List ℕ) → ((convert_of d e text out).refusal ≡ 0 → ⊥) → ((convert_of d e text out).len ≡ 0) × ((convert_of d e text out).text ≡ out)
