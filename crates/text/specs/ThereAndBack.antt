-- Reading in either dialect, writing what was read, and converting there and back. Theorems of the same names: proofs/ThereAndBack.antt.
use Rattle.std.specs.Prelude.{◌≡◌, List, ◌++◌, ℕ, ◌≤◌, length, drop}
use Rattle.term.specs.Term.{Term}
use Rattle.term.specs.Accepted.{Accepted}
use Rattle.text.specs.Writing.{write_numbers_of, written}
use Rattle.text.specs.NumberReading.{read_numbers_of}
use Rattle.text.specs.Dialects.{Dialect, read_in, MeantIn, write_in, convert_of}

-- "Read it into the same table": two texts that mean one term, of whichever dialects, are read alike into every slice: the same n, number and words.
abbrev pub SameTable : Type 0
SameTable =
    (d e : Dialect) (text other : List ℕ) (t : Term) (table : List ℕ) → MeantIn d text t → MeantIn e other t → read_in d text table ≡ read_in e other table

-- What was read, in either dialect, is a table that number 7 accepts.
abbrev pub ReadAccepted : Type 0
ReadAccepted =
    (d : Dialect) (text table : List ℕ) → let read = read_in d text table in
    read.refusal ≡ 0 → Accepted read.table read.n

-- What was read in numbers is written, into any buffer as long as the text or longer, as that text, byte for byte.
abbrev pub NumbersWriteBack : Type 0
NumbersWriteBack =
    (text table out : List ℕ) → (read_numbers_of text table).refusal ≡ 0 → length text ≤ length out
    → write_numbers_of (read_numbers_of text table).table (read_numbers_of text table).n out
    ≡ record { len = length text; refusal = 0; text = text ++ drop (length text) out }

-- "A converted text reads to the table of its original", into every slice: the same n, number and words.
abbrev pub ConvertedReads : Type 0
ConvertedReads =
    (d e : Dialect) (text out table : List ℕ) → (convert_of d e text out).refusal ≡ 0
    → read_in e (written (convert_of d e text out)) table ≡ read_in d text table

-- Converted there and back, a text is what is written of its own table, whether that fits or is an 11.
abbrev pub ThereAndBack : Type 0
ThereAndBack =
    (d e : Dialect) (text out back table : List ℕ) → let there = convert_of d e text out in let read = read_in d text table in
    there.refusal ≡ 0 → read.refusal ≡ 0
    → convert_of e d (written there) back ≡ write_in d read.table read.n back
