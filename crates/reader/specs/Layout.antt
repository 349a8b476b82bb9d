-- What laying out the columns of a part of a term needs and answers.
use Rattle.std.specs.Prelude.{◌≡◌, List, [], ◌∷◌, ◌++◌, ℕ, suc, ◌+◌, ◌*◌, ◌≤◌, length, drop}
use Rattle.std.proofs.lemmas.List.Edits.{sets}
use Rattle.term.specs.Term.{Term, size, Closed, ClosedUnder}
use Rattle.term.specs.Table.{columns_of}
use Rattle.term.specs.Accepted.{most_nodes}
use Rattle.term.specs.Code.{code_of}
use Rattle.term.specs.Walk.{binders_in}
use Rattle.text.specs.Reading.{laid_out}

-- Words put into columns of n words, into each from the same place on: the first words into the first column, the next into the next.
abbrev pub columns_put : ℕ → List ℕ → ℕ → List (List ℕ) → List ℕ
columns_put n table at [] = table
columns_put n table at (c ∷ cs) = columns_put n (sets table at c) (n + at) cs

-- each word by itself, as a column's
abbrev pub each_alone : List ℕ → List (List ℕ)
each_alone [] = []
each_alone (x ∷ xs) = (x ∷ []) ∷ each_alone xs

-- The part's code stands after those of `laid` nodes, each variable has its binder in the part or among `depth` around it,
-- and there is room for its binders, and in columns of n words for its nodes.
pub record Layable (code : List ℕ) (n laid depth scope_length table_length : ℕ) (t : Term) : Type 0 where
  pub rest : List ℕ
  pub stands : drop laid code ≡ code_of t ++ rest
  pub closed : ClosedUnder depth t
  pub few_nodes : n ≤ most_nodes
  pub among_them : laid + size t ≤ n
  pub scope_room : depth + size t ≤ scope_length
  pub table_room : 5 * n ≤ table_length

-- r nodes are laid out then, the binders around are kept, and the part's columns are written.
pub record Laid (n laid parent level depth : ℕ) (scope table : List ℕ) (r : ℕ) (scope' table' : List ℕ) (t : Term) : Type 0 where
  pub next : r ≡ laid + size t
  pub kept : binders_in scope' depth ≡ binders_in scope depth
  pub wrote : table' ≡ columns_put n table laid (columns_of t (binders_in scope depth) (suc laid) parent level)

-- What `columns` promises, from what it was lent at entry: it lays out every term that is ready there. (Only one is; the caller knows which.)
abbrev pub ColumnsLaid : List ℕ → ℕ → ℕ → ℕ → ℕ → ℕ → List ℕ → List ℕ → ℕ → List ℕ → List ℕ → Type 0
ColumnsLaid code n laid parent level depth scope table r scope' table' =
    (t : Term) → Layable code n laid depth (length scope) (length table) t → Laid n laid parent level depth scope table r scope' table' t

-- The code begins with a closed term's of n nodes, and its table has room.
pub record Whole (code : List ℕ) (n table_length : ℕ) (t : Term) : Type 0 where
  pub rest : List ℕ
  pub stands : code ≡ code_of t ++ rest
  pub closed : Closed t
  pub all : size t ≡ n
  pub few_nodes : n ≤ most_nodes
  pub room : 5 * n ≤ table_length

-- What `lay_out` promises, from what it was lent at entry: the term's table stands in front of what followed it.
abbrev pub TableLaid : List ℕ → ℕ → List ℕ → List ℕ → Type 0
TableLaid code n table table' = (t : Term) → Whole code n (length table) t → table' ≡ (laid_out t table).table
