-- The preorder code of a term.
use mathlib.Core.Path.{◌≡◌, refl, ap, ◌∙◌}
use Prim.Native.Nat.{suc}
use native.Mathlib.Omega.{arith}
use lib.ListN.{length, length-append}
use Rattle.term.specs.Term.{Term, var, lam, app, size}
use Rattle.term.specs.Code.{code_of}

-- A term has a word for each node.
pub code_length : (t : Term) → length (code_of t) ≡ size t
unfolding code_of
code_length (var x) = refl
code_length (lam b) = ap suc (code_length b)
code_length (app f a) = ap suc (length-append (code_of f) (code_of a) ∙ omega (arith, code_length f, code_length a))
