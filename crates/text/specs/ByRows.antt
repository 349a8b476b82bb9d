-- Document 02, change 8: "every call on the columns gives the answer the five-word rows gave". The calls on texts; theorems of the same names: proofs/ByRows.antt.
use Rattle.std.specs.Prelude.{◌≡◌, not, cond, List, [], ◌∷◌, ◌++◌, ℕ, ◌*◌, drop, eqb}
use Rattle.std.proofs.Math.Option.{Option, none, some}
use Rattle.term.specs.Choice.{◌⇒◌, first}
use Rattle.term.specs.Term.{Term, size}
use Rattle.term.specs.Table.{Layout, rows, words_of}
use Rattle.term.specs.Accepted.{part_at}
use Rattle.term.specs.ByRows.{by_rows, Sight, sight, sight_by}
use Rattle.text.specs.Reading.{Read, meant, reader_number, refused}
use Rattle.text.specs.Writing as Writing
use Rattle.text.specs.Writing.{Write, part_text, unfit}
use Rattle.text.specs.NumberReading.{numbers_meant, numbers_number}
use Rattle.text.specs.Dialects.{Dialect, names, numbers, read_in, text_in, write_in, own_table, convert_of}

-- What a writer answers, by what it sees of the table.
abbrev pub text_seen : (Term → List ℕ) → Sight → List ℕ
text_seen of s = part_text of (part_at s.fields.nodes s.fields [] 1 0 0)

abbrev pub writing_seen : (Term → List ℕ) → Sight → List ℕ → Write
writing_seen of s text = Writing.answer (first ((not s.passes ⇒ 7) ∷ (unfit (text_seen of s) text ⇒ 11) ∷ [])) (text_seen of s) text

-- The definitions of both writers, of both readers and of the conversions, by a layout of the table; by columns they are the calls' own (`writes_by_columns`, `reads_by_columns`,
-- `converts_by_columns`).
abbrev pub write_by : Layout → Dialect → List ℕ → ℕ → List ℕ → Write
write_by L d w n text = writing_seen (text_in d) (sight_by L w n) text

abbrev pub answer_by : Layout → Option ℕ → Option Term → List ℕ → Read
answer_by L (some k) o table = refused k table
answer_by L none (some t) table = record { n = size t; refusal = 0; table = words_of L t ++ drop (5 * size t) table }
answer_by L none none table = refused 5 table

abbrev pub read_by : Layout → Dialect → List ℕ → List ℕ → Read
read_by L names text table = answer_by L (reader_number text table) (meant text) table
read_by L numbers text table = answer_by L (numbers_number text table) (numbers_meant text) table

abbrev pub written_by : Layout → Dialect → Read → List ℕ → Write
written_by L e r out = cond (eqb r.refusal 0) (write_by L e r.table r.n out) (Writing.refused r.refusal out)

abbrev pub convert_by : Layout → Dialect → Dialect → List ℕ → List ℕ → Write
convert_by L d e text out = written_by L e (read_by L d text own_table) out

-- A writer gives what it gave on the rows: the number, the length, and every lent byte.
abbrev pub SameWriting : Type 0
SameWriting = (d : Dialect) (w : List ℕ) (n : ℕ) (text : List ℕ) → write_in d w n text ≡ write_by rows d (by_rows w n) n text

-- A reader gives the same n and the same number as by rows, what it leaves has the rows that it left, and a call sees in it what it saw in them: every field, and whether it passes.
abbrev pub on_rows : Read → Read
on_rows r = record { n = r.n; refusal = r.refusal; table = by_rows r.table r.n }

abbrev pub SameReading : Type 0
SameReading = (d : Dialect) (text table : List ℕ) → on_rows (read_in d text table) ≡ read_by rows d text table

abbrev pub SameRead : Type 0
SameRead =
    (d : Dialect) (text table : List ℕ) → let now = read_in d text table in let before = read_by rows d text table in
    sight now.table now.n ≡ sight_by rows before.table before.n

-- A conversion gives what it gave through a table of its own in rows.
abbrev pub SameConverting : Type 0
SameConverting = (d e : Dialect) (text out : List ℕ) → convert_of d e text out ≡ convert_by rows d e text out
