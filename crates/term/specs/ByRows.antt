-- Document 02, change 8: "each field of each node is the old one". The columns of a term beside its rows, and those of any slice. Theorems of the same names: proofs/ByRows.antt.
use Rattle.std.specs.Prelude.{◌≡◌, ◌↔◌, Bool, cond, List, [], ◌++◌, ℕ, zero, suc, ◌*◌, ◌≤◌, ◌<◌, length, take, drop, leb}
use Rattle.term.specs.Term.{Term, size, Closed}
use Rattle.term.specs.Table.{row, Layout, rows, columns, words_of, Table, word_in, table_by, table_in}
use Rattle.term.specs.Accepted.{most_nodes, Accepted, is_table, accepted}

-- Each of the five fields of each node in the columns of a term is that of its rows, whatever the node's number.
abbrev pub SameFields : Type 0
SameFields = (t : Term) (f i : ℕ) → f < 5 → word_in columns (words_of columns t) (size t) i f ≡ word_in rows (words_of rows t) (size t) i f

-- The fields of m nodes after i others, row by row.
unfoldable pub rows_from : Table → ℕ → ℕ → List ℕ
rows_from T i zero = []
rows_from T i (suc m) = row (T.kind (suc i)) (T.left (suc i)) (T.right (suc i)) (T.parent (suc i)) (T.level (suc i)) ++ rows_from T (suc i) m

-- The rows of a slice: as long as it is, its first 5 × n words are the same fields row by row, and the rest is as it was. Where it has fewer words it stays whole.
unfoldable pub by_rows : List ℕ → ℕ → List ℕ
by_rows w n = cond (leb (5 * n) (length w)) (rows_from (table_in w n) 0 n ++ drop (5 * n) w) w

abbrev pub SameLength : Type 0
SameLength = (w : List ℕ) (n : ℕ) → length (by_rows w n) ≡ length w

-- Number 7 in words, of rows: as `Accepted` has it, with the rows of a term for its table.
pub record AcceptedByRows (w : List ℕ) (n : ℕ) : Type 0 where
  pub some_node : 1 ≤ n
  pub few_nodes : n ≤ most_nodes
  pub long : 5 * n ≤ length w
  pub term : Term
  pub closed : Closed term
  pub same : words_of rows term ≡ take (5 * n) w

-- It agrees: a slice is accepted exactly where its rows are, and were.
abbrev pub SameAccepted : Type 0
SameAccepted = (w : List ℕ) (n : ℕ) → Accepted w n ↔ AcceptedByRows (by_rows w n) n

-- All that a call sees of a table that it is lent: its fields, and whether number 7 lets it pass.
pub record Sight : Type 0 where
  pub fields : Table
  pub passes : Bool

abbrev pub sight : List ℕ → ℕ → Sight
sight w n = record { fields = table_in w n; passes = accepted w n }

-- the same by a layout: by columns it is that (`sight_by_columns`)
abbrev pub sight_by : Layout → List ℕ → ℕ → Sight
sight_by L w n = record { fields = table_by L w n; passes = is_table (length w) n (table_by L w n) }

-- "every call on the columns gives the answer the five-word rows gave": whatever is lent, a call sees the same in it as by rows in its rows. `kind`, `left`, `right`, `parent`, `level` and
-- `accepts` answer no more than this; `text`, `calls` and `kam` have the other calls (their specs/ByRows.antt).
abbrev pub SameSight : Type 0
SameSight = (w : List ℕ) (n : ℕ) → sight w n ≡ sight_by rows (by_rows w n) n
