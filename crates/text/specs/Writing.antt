-- What a call of either writer answers, and what it leaves in the lent bytes: numbers 7 and 11 and the text (document 02, changes 3 and 7).
use Rattle.std.specs.Prelude.{Bool, not, ◌||◌, List, [], ◌∷◌, ◌++◌, ℕ, length, take, drop, ltb}
use Rattle.std.proofs.Math.Option.{Option, none, some}
use Rattle.term.specs.Choice.{◌⇒◌, first}
use Rattle.term.specs.Term.{Term}
use Rattle.term.specs.Table.{table_in}
use Rattle.term.specs.Accepted.{Part, part_at, accepted}
use Rattle.text.specs.Reading.{most_bytes}
use Rattle.text.specs.Written.{text_of}
use Rattle.text.specs.NumberGrammar.{number_text}

-- the answer, and the lent bytes after the call
pub record Write : Type 0 where
  pub len : ℕ
  pub refusal : ℕ  -- 0 for none
  pub text : List ℕ

-- By what the text of a term is (`of`): the text of the term that a table is read as; nothing where it is read as none, which number 7 has refused before its
-- text matters.
abbrev pub part_text : (Term → List ℕ) → Option Part → List ℕ
part_text of none = []
part_text of (some q) = of q.term

unfoldable pub table_text : (Term → List ℕ) → List ℕ → ℕ → List ℕ
table_text of w n = part_text of (part_at n (table_in w n) [] 1 0 0)

-- "over 3,000 bytes or over the lent buffer"
abbrev pub unfit : List ℕ → List ℕ → Bool
unfit s text = ltb most_bytes (length s) || ltb (length text) (length s)

-- "Turned away: 11, after 7"
unfoldable pub writer_number : (Term → List ℕ) → List ℕ → ℕ → List ℕ → Option ℕ
writer_number of w n text = first ((not (accepted w n) ⇒ 7) ∷ (unfit (table_text of w n) text ⇒ 11) ∷ [])

-- "Any number that a later call adds to its answer is 0 in a refusal", and no lent byte differs.
abbrev pub refused : ℕ → List ℕ → Write
refused k text = record { len = 0; refusal = k; text = text }

-- "The call answers its length." "Lent words or bytes that a call is not said to write keep their values."
abbrev pub written_out : List ℕ → List ℕ → Write
written_out s text = record { len = length s; refusal = 0; text = s ++ drop (length s) text }

abbrev pub answer : Option ℕ → List ℕ → List ℕ → Write
answer (some k) s text = refused k text
answer none s text = written_out s text

unfoldable pub writing : (Term → List ℕ) → List ℕ → ℕ → List ℕ → Write
writing of w n text = answer (writer_number of w n text) (table_text of w n) text

-- the text with names
abbrev pub write_of : List ℕ → ℕ → List ℕ → Write
write_of w n text = writing text_of w n text

-- the text in numbers
abbrev pub write_numbers_of : List ℕ → ℕ → List ℕ → Write
write_numbers_of w n text = writing number_text w n text

-- the bytes that a call has written
abbrev pub written : Write → List ℕ
written r = take r.len r.text
