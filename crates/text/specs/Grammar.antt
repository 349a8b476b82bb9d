-- Document 01, "The text of a term": the grammar, a case for each phrase, with the tokens that spell it and the tree that it derives.
use Rattle.std.specs.Prelude.{◌≡◌, List, [], ◌∷◌, ◌++◌}
use Rattle.text.specs.Bytes.{lambda, dot, opening, closing}
use Rattle.text.specs.Tokens.{Name, Token, mark, name}

infixr 50 ◌and◌
mutual
  -- "A term is `\` name `.` term, or one or more atoms, applied from the left."
  pub data Phrase : Type 0 where
    abstraction : Name → Phrase → Phrase
    atoms : Atom → Atoms → Phrase

  -- the atoms after the first
  pub data Atoms : Type 0 where
    no_more : Atoms
    ◌and◌ : Atom → Atoms → Atoms

  -- "An atom is a name or a term in round brackets."
  pub data Atom : Type 0 where
    named : Name → Atom
    bracketed : Phrase → Atom

-- the tokens of each
abbrev mutual
  pub phrase_tokens : Phrase → List Token
  phrase_tokens (abstraction x p) = mark lambda ∷ name x ∷ mark dot ∷ phrase_tokens p
  phrase_tokens (atoms a bs) = atom_tokens a ++ atoms_tokens bs

  pub atoms_tokens : Atoms → List Token
  atoms_tokens no_more = []
  atoms_tokens (b and bs) = atom_tokens b ++ atoms_tokens bs

  pub atom_tokens : Atom → List Token
  atom_tokens (named x) = name x ∷ []
  atom_tokens (bracketed p) = mark opening ∷ (phrase_tokens p ++ (mark closing ∷ []))

-- the tree of each, with names
pub data Tree : Type 0 where
  variable : Name → Tree
  binder : Name → Tree → Tree
  apply : Tree → Tree → Tree

abbrev mutual
  pub phrase_tree : Phrase → Tree
  phrase_tree (abstraction x p) = binder x (phrase_tree p)
  phrase_tree (atoms a bs) = applied bs (atom_tree a)

  -- "applied from the left"
  pub applied : Atoms → Tree → Tree
  applied no_more t = t
  applied (b and bs) t = applied bs (apply t (atom_tree b))

  pub atom_tree : Atom → Tree
  atom_tree (named x) = variable x
  atom_tree (bracketed p) = phrase_tree p

-- These tokens are a term, and this is its tree.
pub record Derives (ts : List Token) (t : Tree) : Type 0 where
  pub phrase : Phrase
  pub spells : phrase_tokens phrase ≡ ts
  pub tree_is : phrase_tree phrase ≡ t
