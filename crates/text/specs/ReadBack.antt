-- Reading what was written: it gives the same table, in either dialect; and no two tables have the same text. Theorems of the same names: proofs/ReadBack.antt, and
-- `text_means`, proofs/Names.antt.
use Rattle.std.specs.Prelude.{◌≡◌, List, ◌++◌, ℕ, ◌*◌, ◌≤◌, length, take, drop}
use Rattle.term.specs.Term.{Term, Closed}
use Rattle.term.specs.Accepted.{Accepted}
use Rattle.text.specs.Exactly.{Means}
use Rattle.text.specs.Written.{text_of}
use Rattle.text.specs.Writing.{written}
use Rattle.text.specs.Dialects.{Dialect, read_in, write_in}

-- "Reading that text, whenever it was written, into a slice of 5 × n words or more gives the same table." It does so in both dialects.
abbrev pub ReadBack : Type 0
ReadBack =
    (d : Dialect) (w : List ℕ) (n : ℕ) (text table : List ℕ) → (write_in d w n text).refusal ≡ 0 → 5 * n ≤ length table
    → read_in d (written (write_in d w n text)) table ≡ record { n = n; refusal = 0; table = take (5 * n) w ++ drop (5 * n) table }

-- The text of a closed term, also one over 3,000 bytes, is a term of the grammar and means that term.
abbrev pub TextMeans : Type 0
TextMeans = (t : Term) → Closed t → Means (text_of t) t

-- Two accepted tables with the same text are the same, also where the text is over 3,000 bytes.
abbrev pub OneTable : Type 0
OneTable =
    (w : List ℕ) (n : ℕ) (u : List ℕ) (m : ℕ) (A : Accepted w n) (B : Accepted u m) → text_of A.term ≡ text_of B.term
    → (n ≡ m) × (take (5 * n) w ≡ take (5 * m) u)
