-- How far the top entries of a list reach, in words: what the code walks where it moves or shows an entry.
use Rattle.std.specs.Prelude.{List, [], ◌∷◌, ℕ, zero, suc, ◌+◌}
use Rattle.term.specs.Table.{Table, arity}

-- Read from the top, a variable's word settles one of the entries still owed and owes its arity-many; none is owed where the reach ends.
unfoldable pub span : Table → List ℕ → ℕ → ℕ
span T [] owed = 0
span T (v ∷ ws) zero = 0
span T (v ∷ ws) (suc owed) = suc (span T ws (owed + arity T v))
