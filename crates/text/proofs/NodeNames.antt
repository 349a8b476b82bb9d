-- The binders of a written text are named by the nodes of the table that are abstractions.
use mathlib.Core.Path.{◌≡◌, sym, ap, ◌∙◌}
use mathlib.Core.List.{List, [], ◌∷◌, ◌++◌, append_assoc}
use Prim.Native.Nat.{ℕ, zero, suc, ◌+◌}
use native.Mathlib.Nat.{zero-add, add-zero, suc-add, add-suc}
use Rattle.term.specs.Term.{Term, var, lam, app, size}
use Rattle.term.specs.Table.{Table, table_in}
use Rattle.term.specs.Rows.{RowsIn}
use Rattle.term.proofs.Accepted.{term_size, accepted_rows}
use Rattle.text.specs.Written.{tree_of}
use Rattle.text.specs.Spelling.{binder_names, abstraction_names, NamedByNode}

-- Of so many nodes and so many after them.
names_append : (T : Table) (i a b : ℕ) → abstraction_names T i (a + b) ≡ abstraction_names T i a ++ abstraction_names T (i + a) b
names_append T i zero b = rw (zero-add, add-zero)
names_append T i (suc a) b = rw (suc-add, names_append T (suc i) a b, suc-add, add-suc) (simp append_assoc)

names_of : (T : Table) (t : Term) (bs : List ℕ) (i p v : ℕ) → RowsIn T t bs i p v → binder_names (tree_of t bs i) ≡ abstraction_names T i (size t)
unfolding tree_of
names_of T (var x) bs i p v h = rw h.kind_is
names_of T (lam b) bs i p v h = rw (h.0.kind_is, names_of T b (i ∷ bs) (suc i) i v h.1)
names_of T (app f a) bs i p v h =
    rw (h.0.kind_is, names_of T f bs (suc i) i v h.1, names_of T a bs (suc i + size f) i (suc v) h.2) (sym (names_append T (suc i) (size f) (size a)))

pub named_by_node : NamedByNode
named_by_node w n A =
    names_of (table_in w n) A.term [] 1 0 0 (accepted_rows w n A) ∙ ap (abstraction_names (table_in w n) 1) (term_size w n A)
