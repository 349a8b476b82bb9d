-- Document 02, change 3: the text of a closed term. A binder is named v and its node number, one space stands between atoms, brackets stand only where the
-- grammar needs them, and there are no other blanks.
use Rattle.std.specs.Prelude.{Bool, true, false, List, [], ◌∷◌, ◌++◌, ℕ, suc, ◌+◌, get_or}
use Rattle.decimal.specs.Decimal.{decimal}
use Rattle.term.specs.Term.{Term, var, lam, app, size}
use Rattle.text.specs.Bytes.{lambda, dot, opening, closing, space}
use Rattle.text.specs.Tokens.{Name}
use Rattle.text.specs.Grammar.{Tree, variable, binder, apply}

-- "the name of a binder is v and its node number" (118 is v)
abbrev pub node_name : ℕ → Name
node_name i = 118 ∷ decimal i

-- The tree of a term with these names. Its root is node i, in preorder, and bs are the binders around it, the innermost first.
unfoldable pub tree_of : Term → List ℕ → ℕ → Tree
tree_of (var x) bs i = variable (node_name (get_or bs x 0))
tree_of (lam b) bs i = binder (node_name i) (tree_of b (i ∷ bs) (suc i))
tree_of (app f a) bs i = apply (tree_of f bs (suc i)) (tree_of a bs (suc i + size f))

-- The tree of a closed term: the root is node 1.
abbrev pub named_tree : Term → Tree
named_tree t = tree_of t [] 1

-- "brackets only where the grammar needs them": around an abstraction that is a function,
abbrev pub function_needs : Tree → Bool
function_needs (variable x) = false
function_needs (binder x t) = true
function_needs (apply f a) = false

-- and around an abstraction or an application that is an argument.
abbrev pub argument_needs : Tree → Bool
argument_needs (variable x) = false
argument_needs (binder x t) = true
argument_needs (apply f a) = true

-- in round brackets, where they are needed
abbrev pub enclosed : Bool → List ℕ → List ℕ
enclosed true s = opening ∷ (s ++ (closing ∷ []))
enclosed false s = s

-- "one space between atoms", "no other blanks"
unfoldable pub tree_text : Tree → List ℕ
tree_text (variable x) = x
tree_text (binder x t) = lambda ∷ (x ++ (dot ∷ tree_text t))
tree_text (apply f a) = enclosed (function_needs f) (tree_text f) ++ (space ∷ enclosed (argument_needs a) (tree_text a))

unfoldable pub text_of : Term → List ℕ
text_of t = tree_text (named_tree t)
