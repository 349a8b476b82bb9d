-- The preorder code of a term without names: a word for each node, a node before its left part and that before its right part.
use Rattle.std.specs.Prelude.{List, [], ◌∷◌, ◌++◌, ℕ, ◌+◌}
use Rattle.term.specs.Term.{Term, var, lam, app}

-- 1 for an abstraction, 2 for an application, and 3 plus its index for a variable
unfoldable pub code_of : Term → List ℕ
code_of (var x) = (3 + x) ∷ []
code_of (lam b) = 1 ∷ code_of b
code_of (app f a) = 2 ∷ (code_of f ++ code_of a)
