-- The calls on texts give on columns what they gave on rows.
use mathlib.Core.Path.{◌≡◌, refl, ap, ◌∙◌}
use mathlib.Core.Bool.{cond}
use mathlib.Core.Option.{Option, none, some}
use mathlib.Core.List.{List}
use Prim.Native.Nat.{ℕ, ◌*◌}
use native.Mathlib.Omega.{arith}
use lib.ListN.{length, drop}
use lib.Dec.{eqb}
use borrow.Author.Tests.{le-leb}
use Rattle.term.specs.Term.{Term, size}
use Rattle.term.specs.Table.{rows, columns, table_of, table_in}
use Rattle.term.specs.ByRows.{rows_from, by_rows, sight, sight_by}
use Rattle.term.proofs.ByRows.{sight_by_columns, same_sight, term_by_rows}
use Rattle.text.specs.Reading.{meant, reader_number, answer, read_of}
use Rattle.text.specs.Writing as Writing
use Rattle.text.specs.Writing.{table_text, writer_number, writing}
use Rattle.text.specs.NumberReading.{numbers_meant, numbers_number, read_numbers_of}
use Rattle.text.specs.Dialects.{Dialect, names, numbers, read_in, text_in, write_in, own_table, convert_of}
use Rattle.text.specs.ByRows.{writing_seen, write_by, answer_by, read_by, written_by, convert_by, SameWriting, on_rows, SameReading, SameRead, SameConverting}

-- By columns the definitions are the calls' own.
writes_seen : (d : Dialect) (w : List ℕ) (n : ℕ) (text : List ℕ) → write_in d w n text ≡ writing_seen (text_in d) (sight w n) text
unfolding writing writer_number table_text table_in
writes_seen names w n text = refl
writes_seen numbers w n text = refl

pub writes_by_columns : (d : Dialect) (w : List ℕ) (n : ℕ) (text : List ℕ) → write_in d w n text ≡ write_by columns d w n text
writes_by_columns d w n text = writes_seen d w n text ∙ ap (λ s. writing_seen (text_in d) s text) (sight_by_columns w n)

answers_by_columns : (k : Option ℕ) (o : Option Term) (table : List ℕ) → answer k o table ≡ answer_by columns k o table
unfolding table_of
answers_by_columns (some k) o table = refl
answers_by_columns none (some t) table = refl
answers_by_columns none none table = refl

pub reads_by_columns : (d : Dialect) (text table : List ℕ) → read_in d text table ≡ read_by columns d text table
unfolding read_of read_numbers_of
reads_by_columns names text table = answers_by_columns (reader_number text table) (meant text) table
reads_by_columns numbers text table = answers_by_columns (numbers_number text table) (numbers_meant text) table

pub converts_by_columns : (d e : Dialect) (text out : List ℕ) → convert_of d e text out ≡ convert_by columns d e text out
unfolding convert_of
converts_by_columns d e text out =
    let r = read_in d text own_table in
    ap (λ x. cond (eqb r.refusal 0) x (Writing.refused r.refusal out)) (writes_by_columns e r.table r.n out)
    ∙ ap (λ q. written_by columns e q out) (reads_by_columns d text own_table)

-- And so they give what they gave by rows.
pub same_writing : SameWriting
same_writing d w n text = writes_seen d w n text ∙ ap (λ s. writing_seen (text_in d) s text) (same_sight w n)

no_rows : (w : List ℕ) → by_rows w 0 ≡ w
unfolding by_rows rows_from
no_rows w = rw (le-leb 0 (length w) (omega arith))

same_answer : (k : Option ℕ) (o : Option Term) (table : List ℕ) → on_rows (answer k o table) ≡ answer_by rows k o table
same_answer (some k) o table = ap (λ (w : List ℕ). record { n = 0; refusal = k; table = w }) (no_rows table)
same_answer none (some t) table = ap (λ (w : List ℕ). record { n = size t; refusal = 0; table = w }) (term_by_rows t (drop (5 * size t) table))
same_answer none none table = ap (λ (w : List ℕ). record { n = 0; refusal = 5; table = w }) (no_rows table)

pub same_reading : SameReading
unfolding read_of read_numbers_of
same_reading names text table = same_answer (reader_number text table) (meant text) table
same_reading numbers text table = same_answer (numbers_number text table) (numbers_meant text) table

pub same_read : SameRead
same_read d text table =
    let r = read_in d text table in
    same_sight r.table r.n ∙ ap (λ q. sight_by rows q.table q.n) (same_reading d text table)

pub same_converting : SameConverting
unfolding convert_of
same_converting d e text out =
    let r = read_in d text own_table in
    ap (λ x. cond (eqb r.refusal 0) x (Writing.refused r.refusal out)) (same_writing e r.table r.n out)
    ∙ ap (λ q. written_by rows e q out) (same_reading d text own_table)
