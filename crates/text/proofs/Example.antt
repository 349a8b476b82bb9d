-- Document 01's example, written: `(\x.x x)(\y.y)` becomes `(\v2.v2 v2) (\v6.v6)`, and in numbers `@ \ @ 0 0 \ 0`, which is read as its table.
use mathlib.Core.Path.{◌≡◌, refl}
use mathlib.Core.List.{List, [], ◌∷◌, ◌++◌}
use Prim.Native.Nat.{ℕ}
use lib.ListN.{replicate}
use Rattle.decimal.specs.Decimal.{decimal_in, decimal}
use Rattle.term.specs.Table.{row, column_of, table_of, table_in, kind_of}
use Rattle.term.specs.Accepted.{part_by, part_at, accepted}
use Rattle.term.specs.ByRows.{rows_from, by_rows}
use Rattle.text.specs.Bytes.{class_of}
use Rattle.text.specs.Written.{tree_of, tree_text, text_of}
use Rattle.text.specs.Writing.{table_text, writer_number, writing, write_of, write_numbers_of}
use Rattle.text.specs.NumberGrammar.{number_text}
use Rattle.text.specs.NumberParse.{digits_first, phrase_at, parse_numbers}
use Rattle.text.specs.NumberReading.{numbers_meant, numbers_number, read_numbers_of}

-- its table, as document 01 lists its rows, and the columns of document 02, change 8
abbrev pub example_rows : List ℕ
example_rows = row 3 2 6 0 0 ++ row 2 3 0 1 0 ++ row 3 4 5 2 0 ++ row 1 2 0 3 0 ++ row 1 2 0 3 1 ++ row 2 7 0 1 1 ++ row 1 6 0 6 1

abbrev pub example_table : List ℕ
example_table =
    3 ∷ 2 ∷ 3 ∷ 1 ∷ 1 ∷ 2 ∷ 1
    ∷ 2 ∷ 3 ∷ 4 ∷ 2 ∷ 2 ∷ 7 ∷ 6
    ∷ 6 ∷ 0 ∷ 5 ∷ 0 ∷ 0 ∷ 0 ∷ 0
    ∷ 0 ∷ 1 ∷ 2 ∷ 3 ∷ 3 ∷ 1 ∷ 6
    ∷ 0 ∷ 0 ∷ 0 ∷ 0 ∷ 1 ∷ 1 ∷ 1
    ∷ []

pub example_by_rows : by_rows example_table 7 ≡ example_rows
unfolding by_rows rows_from table_in
example_by_rows = refl

-- ( \ v 2 . v 2 space v 2 ) space ( \ v 6 . v 6 )
abbrev pub example_written : List ℕ
example_written = 40 ∷ 92 ∷ 118 ∷ 50 ∷ 46 ∷ 118 ∷ 50 ∷ 32 ∷ 118 ∷ 50 ∷ 41 ∷ 32 ∷ 40 ∷ 92 ∷ 118 ∷ 54 ∷ 46 ∷ 118 ∷ 54 ∷ 41 ∷ []

-- into 22 bytes, of which two are left as they were
pub example_written_lem : write_of example_table 7 (replicate 22 9) ≡ record { len = 20; refusal = 0; text = example_written ++ (9 ∷ 9 ∷ []) }
unfolding writing writer_number table_text accepted part_at part_by kind_of table_in text_of tree_of tree_text decimal decimal_in
example_written_lem = refl

-- @ space \ space @ space 0 space 0 space \ space 0
abbrev pub example_numbers : List ℕ
example_numbers = 64 ∷ 32 ∷ 92 ∷ 32 ∷ 64 ∷ 32 ∷ 48 ∷ 32 ∷ 48 ∷ 32 ∷ 92 ∷ 32 ∷ 48 ∷ []

pub example_numbers_written : write_numbers_of example_table 7 (replicate 15 9) ≡ record { len = 13; refusal = 0; text = example_numbers ++ (9 ∷ 9 ∷ []) }
unfolding writing writer_number table_text accepted part_at part_by kind_of table_in number_text decimal decimal_in
example_numbers_written = refl

-- into 36 words, of which one is left as it was
pub example_numbers_read : read_numbers_of example_numbers (replicate 36 9) ≡ record { n = 7; refusal = 0; table = example_table ++ (9 ∷ []) }
unfolding read_numbers_of numbers_number numbers_meant parse_numbers phrase_at digits_first class_of table_of column_of
example_numbers_read = refl
