-- How a written text is spelled: binders named by their nodes (`named_by_node`, proofs/NodeNames.antt), one space between atoms and no other blanks
-- (`written_phrase`, proofs/Written.antt), and as few brackets as can be (`fewest_brackets`, proofs/Fewest.antt).
use Rattle.std.specs.Prelude.{◌≡◌, Bool, true, cond, ◌||◌, List, [], ◌∷◌, ◌++◌, ℕ, zero, suc, ◌+◌, ◌≤◌, eqb}
use Rattle.term.specs.Term.{Term}
use Rattle.term.specs.Table.{Table, table_in}
use Rattle.term.specs.Accepted.{Accepted}
use Rattle.text.specs.Bytes.{lambda, dot, opening, closing, space}
use Rattle.text.specs.Tokens.{Name, tokens}
use Rattle.text.specs.Grammar.{Phrase, abstraction, atoms, Atoms, no_more, ◌and◌, Atom, named, bracketed, Tree, variable, binder, apply, phrase_tree, Derives}
use Rattle.text.specs.Written.{node_name, named_tree, enclosed, tree_text, text_of}

-- the names of a tree's binders, in the order of its text
abbrev pub binder_names : Tree → List Name
binder_names (variable x) = []
binder_names (binder x t) = x ∷ binder_names t
binder_names (apply f a) = binder_names f ++ binder_names a

-- v and the number of each abstraction among k nodes of a table, from node i on
abbrev pub abstraction_names : Table → ℕ → ℕ → List Name
abstraction_names T i zero = []
abstraction_names T i (suc k) = cond (eqb (T.kind i) 2) (node_name i ∷ []) [] ++ abstraction_names T (suc i) k

-- "the name of a binder is v and its node number": a table's abstractions name the binders of its term's tree, in their order.
abbrev pub NamedByNode : Type 0
NamedByNode = (w : List ℕ) (n : ℕ) (A : Accepted w n) → binder_names (named_tree A.term) ≡ abstraction_names (table_in w n) 1 n

-- a phrase of the grammar with one space between atoms and no other blanks
abbrev mutual
  pub phrase_text : Phrase → List ℕ
  phrase_text (abstraction x p) = lambda ∷ (x ++ (dot ∷ phrase_text p))
  phrase_text (atoms a bs) = atom_text a ++ atoms_text bs

  pub atoms_text : Atoms → List ℕ
  atoms_text no_more = []
  atoms_text (b and bs) = space ∷ (atom_text b ++ atoms_text bs)

  pub atom_text : Atom → List ℕ
  atom_text (named x) = x
  atom_text (bracketed p) = enclosed true (phrase_text p)

-- "one space between atoms", "no other blanks": the text of a tree is that of a phrase of it.
abbrev pub WrittenPhrase : Type 0
WrittenPhrase = (t : Tree) → (p : Phrase) × (phrase_tree p ≡ t) × (phrase_text p ≡ tree_text t)

-- how many bytes are round brackets
abbrev pub is_bracket : ℕ → Bool
is_bracket b = eqb b opening || eqb b closing

abbrev pub brackets : List ℕ → ℕ
brackets [] = 0
brackets (b ∷ s) = cond (is_bracket b) 1 0 + brackets s

-- "brackets only where the grammar needs them": the text derives the term's tree with these names, and every text that does has at least as many brackets.
abbrev pub FewestBrackets : Type 0
FewestBrackets =
    (t : Term)
    → Derives (tokens (text_of t)) (named_tree t)
    × ((text : List ℕ) → Derives (tokens text) (named_tree t) → brackets (text_of t) ≤ brackets text)
