-- A tree as it is lent: a table's words and its number of nodes, of which number 7 is known not to apply.
use Rattle.std.specs.Prelude.{◌≡◌, true, List, ℕ}
use Rattle.term.specs.Table.{Table, table_in}
use Rattle.term.specs.Accepted.{accepted}

pub record LentTree : Type 0 where
  pub words : List ℕ
  pub n : ℕ
  pub is_accepted : accepted words n ≡ true

abbrev pub tree_table : LentTree → Table
tree_table t = table_in t.words t.n
