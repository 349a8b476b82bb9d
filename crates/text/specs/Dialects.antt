-- Document 02, change 7: the two dialects side by side, and a text of one converted into the other, as written from a table of its own.
use Rattle.std.specs.Prelude.{cond, List, ℕ, ◌*◌, replicate, eqb}
use Rattle.term.specs.Term.{Term}
use Rattle.term.specs.Accepted.{most_nodes}
use Rattle.text.specs.Reading.{Read, read_of}
use Rattle.text.specs.Exactly.{NamesMean}
use Rattle.text.specs.Written.{text_of}
use Rattle.text.specs.Writing.{Write, refused, write_of, write_numbers_of}
use Rattle.text.specs.NumberGrammar.{number_text}
use Rattle.text.specs.NumberReading.{read_numbers_of}
use Rattle.text.specs.NumbersRead.{NumbersMean}

pub data Dialect : Type 0 where
  names numbers : Dialect

-- how its texts are read
abbrev pub read_in : Dialect → List ℕ → List ℕ → Read
read_in names text table = read_of text table
read_in numbers text table = read_numbers_of text table

-- the term that a text means, where none of the reader's numbers but 6 applies
abbrev pub MeantIn : Dialect → List ℕ → Term → Type 0
MeantIn names text t = NamesMean text t
MeantIn numbers text t = NumbersMean text t

-- the text of a term
abbrev pub text_in : Dialect → Term → List ℕ
text_in names t = text_of t
text_in numbers t = number_text t

-- how a table is written
abbrev pub write_in : Dialect → List ℕ → ℕ → List ℕ → Write
write_in names w n text = write_of w n text
write_in numbers w n text = write_numbers_of w n text

-- "a table of its own": it has room for the table of every text
unfoldable pub own_table : List ℕ
own_table = replicate (5 * most_nodes) 0

-- what was read is written in dialect e, if it was not refused
abbrev pub read_then_written : Dialect → Read → List ℕ → Write
read_then_written e r out = cond (eqb r.refusal 0) (write_in e r.table r.n out) (refused r.refusal out)

-- a text of dialect d converted into dialect e
unfoldable pub convert_of : Dialect → Dialect → List ℕ → List ℕ → Write
convert_of d e text out = read_then_written e (read_in d text own_table) out

abbrev pub to_numbers_of : List ℕ → List ℕ → Write
to_numbers_of text out = convert_of names numbers text out

abbrev pub to_names_of : List ℕ → List ℕ → Write
to_names_of text out = convert_of numbers names text out
