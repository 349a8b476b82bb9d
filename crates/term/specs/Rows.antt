-- Document 01, "The term table": the rows of a term, row by row, where they stand in a table.
use Rattle.std.specs.Prelude.{◌≡◌, List, ◌∷◌, ℕ, suc, ◌+◌, get_or}
use Rattle.term.specs.Term.{Term, var, lam, app, size}
use Rattle.term.specs.Table.{Table}

-- The five words of node i.
pub record Row (T : Table) (i k l r p v : ℕ) : Type 0 where
  pub kind_is : T.kind i ≡ k
  pub left_is : T.left i ≡ l
  pub right_is : T.right i ≡ r
  pub parent_is : T.parent i ≡ p
  pub level_is : T.level i ≡ v

-- The rows of a term stand in a table: its root is node i with parent p and level v, and bs are the binders around it.
abbrev pub RowsIn : Table → Term → List ℕ → ℕ → ℕ → ℕ → Type 0
RowsIn T (var x) bs i p v = Row T i 1 (get_or bs x 0) 0 p v
RowsIn T (lam b) bs i p v = Row T i 2 (suc i) 0 p v × RowsIn T b (i ∷ bs) (suc i) i v
RowsIn T (app f a) bs i p v = Row T i 3 (suc i) (suc i + size f) p v × RowsIn T f bs (suc i) i v × RowsIn T a bs (suc i + size f) i (suc v)
