-- What a call of the reader of the number dialect answers, and what it leaves in the table slice: numbers 1, 13, 14 and 6 and the table (document 02, change 7).
use Rattle.std.specs.Prelude.{cond, List, [], ◌∷◌, ℕ, length, ltb}
use Rattle.std.proofs.Math.Option.{Option, none, some}
use Rattle.term.specs.Choice.{◌⇒◌, first, ◌>>=◌, is_none}
use Rattle.term.specs.Term.{Term, is_closed_under}
use Rattle.text.specs.Reading.{Read, most_bytes, too_short, answer}
use Rattle.text.specs.NumberParse.{parse_numbers}

-- a term, if none of its numbers reaches past the outermost binder
abbrev pub closed_only : Term → Option Term
closed_only t = cond (is_closed_under 0 t) (some t) none

-- the term that a text means
unfoldable pub numbers_meant : List ℕ → Option Term
numbers_meant text = parse_numbers text >>= closed_only

-- "13 when the bytes are no such text, tested after 1; 14 when a number reaches past the outermost binder, tested after 13 and before 6."
unfoldable pub numbers_number : List ℕ → List ℕ → Option ℕ
numbers_number text table =
    first (
    (ltb most_bytes (length text) ⇒ 1)
    ∷ (is_none (parse_numbers text) ⇒ 13)
    ∷ (is_none (numbers_meant text) ⇒ 14)
    ∷ (too_short (numbers_meant text) table ⇒ 6)
    ∷ []
    )

-- "Read it into the same table": as the reader of names answers and leaves it.
unfoldable pub read_numbers_of : List ℕ → List ℕ → Read
read_numbers_of text table = answer (numbers_number text table) (numbers_meant text) table
