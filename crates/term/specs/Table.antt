-- Document 01, "The term table": a term's rows of five words, and a table as five fields of the node number; and document 02, change 8: the same words in five columns.
use Rattle.std.specs.Prelude.{Bool, true, false, ◌&&◌, cond, List, [], ◌∷◌, ◌++◌, ℕ, zero, suc, ◌+◌, ◌-◌, ◌*◌, length, get_or, eqb, leb, ltb}
use Rattle.term.specs.Term.{Term, var, lam, app, size}

-- "Each node has five words, in this order": kind, left, right, parent, level.
abbrev pub row : ℕ → ℕ → ℕ → ℕ → ℕ → List ℕ
row kind left right parent level = kind ∷ left ∷ right ∷ parent ∷ level ∷ []

-- The rows of a term whose root is node i, in preorder: "a node, then its left part, then its right part".
-- Its parent is node p, v applications hold it in their argument, and bs are the binders around it, the innermost first.
unfoldable pub rows_of : Term → List ℕ → ℕ → ℕ → ℕ → List ℕ
rows_of (var x) bs i p v = row 1 (get_or bs x 0) 0 p v
rows_of (lam b) bs i p v = row 2 (suc i) 0 p v ++ rows_of b (i ∷ bs) (suc i) i v
rows_of (app f a) bs i p v = row 3 (suc i) (suc i + size f) p v ++ (rows_of f bs (suc i) i v ++ rows_of a bs (suc i + size f) i (suc v))

-- Column f of the same nodes: of each node the word f of its row, from 0.
unfoldable pub column_of : ℕ → Term → List ℕ → ℕ → ℕ → ℕ → List ℕ
column_of f (var x) bs i p v = get_or (row 1 (get_or bs x 0) 0 p v) f 0 ∷ []
column_of f (lam b) bs i p v = get_or (row 2 (suc i) 0 p v) f 0 ∷ column_of f b (i ∷ bs) (suc i) i v
column_of f (app g a) bs i p v =
    get_or (row 3 (suc i) (suc i + size g) p v) f 0 ∷ (column_of f g bs (suc i) i v ++ column_of f a bs (suc i + size g) i (suc v))

-- "five columns of n words, .. one behind the other in one slice, in the order kind, left, right, parent, level"
abbrev pub columns_of : Term → List ℕ → ℕ → ℕ → ℕ → List (List ℕ)
columns_of t bs i p v = column_of 0 t bs i p v ∷ column_of 1 t bs i p v ∷ column_of 2 t bs i p v ∷ column_of 3 t bs i p v ∷ column_of 4 t bs i p v ∷ []

abbrev pub joined : List (List ℕ) → List ℕ
joined [] = []
joined (c ∷ cs) = c ++ joined cs

-- How a table lies in a slice: in the rows that document 01 lists, or in columns, as every call has it.
pub data Layout : Type 0 where
  rows columns : Layout

-- The words of a closed term: the root is node 1, its parent word is 0.
abbrev pub words_of : Layout → Term → List ℕ
words_of rows t = rows_of t [] 1 0 0
words_of columns t = joined (columns_of t [] 1 0 0)

-- the table of a closed term
unfoldable pub table_of : Term → List ℕ
table_of t = words_of columns t

-- A table as the machine reads it: n, and each field as a function of the node number.
pub record Table : Type 0 where
  pub nodes : ℕ
  pub kind : ℕ → ℕ
  pub left : ℕ → ℕ
  pub right : ℕ → ℕ
  pub parent : ℕ → ℕ
  pub level : ℕ → ℕ

-- Which word of a slice, from 0, is field f (0 to 4: kind, left, right, parent, level) of the node after i others, in a table of n nodes.
abbrev pub index_in : Layout → ℕ → ℕ → ℕ → ℕ
index_in rows n i f = 5 * i + f
index_in columns n i f = f * n + i

-- Field f of node i there. It is 0 at node 0, above n, and at every node where the slice has fewer than the 5 × n words of such a table. "Words after the first 5 × n are ignored".
abbrev pub word_in : Layout → List ℕ → ℕ → ℕ → ℕ → ℕ
word_in L w n zero f = 0
word_in L w n (suc i) f = cond (leb (5 * n) (length w) && ltb i n) (get_or w (index_in L n i f) 0) 0

abbrev pub table_by : Layout → List ℕ → ℕ → Table
table_by L w n = record {
  nodes = n;
  kind = λ i. word_in L w n i 0;
  left = λ i. word_in L w n i 1;
  right = λ i. word_in L w n i 2;
  parent = λ i. word_in L w n i 3;
  level = λ i. word_in L w n i 4;
}

-- The table that lies in a slice.
unfoldable pub table_in : List ℕ → ℕ → Table
table_in w n = table_by columns w n

-- "The arity of a variable is its level less its binder's level."
abbrev pub arity : Table → ℕ → ℕ
arity T i = T.level i - T.level (T.left i)

-- "kind: 1 variable, 2 abstraction, 3 application"; any other word, as that of a node that is not there, is nothing.
pub data Kind : Type 0 where
  variable abstraction application nothing : Kind

unfoldable pub kind_of : ℕ → Kind
kind_of zero = nothing
kind_of (suc zero) = variable
kind_of (suc (suc zero)) = abstraction
kind_of (suc (suc (suc zero))) = application
kind_of (suc (suc (suc (suc k)))) = nothing

abbrev pub kind_at : Table → ℕ → Kind
kind_at T i = kind_of (T.kind i)

abbrev pub is_variable : Kind → Bool
is_variable variable = true
is_variable abstraction = false
is_variable application = false
is_variable nothing = false

-- Where a node stands: it is the body, the function or the argument of its parent, or (as the root) of none.
pub data Place : Type 0 where
  body_of function_of argument_of : ℕ → Place
  nowhere : Place

unfoldable pub place_under : Table → ℕ → ℕ → Kind → Place
place_under T i p abstraction = cond (eqb (T.left p) i) (body_of p) nowhere
place_under T i p application = cond (eqb (T.left p) i) (function_of p) (cond (eqb (T.right p) i) (argument_of p) nowhere)
place_under T i p variable = nowhere
place_under T i p nothing = nowhere

abbrev pub place_at : Table → ℕ → Place
place_at T i = place_under T i (T.parent i) (kind_at T (T.parent i))
