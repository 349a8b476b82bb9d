-- The text of a tree is that of a phrase of it, with one space between atoms and no other blanks; and its tokens are that phrase's.
use mathlib.Core.Path.{◌≡◌, refl, sym, ap, ◌∙◌}
use mathlib.Core.Bool.{Bool, true, false}
use mathlib.Core.List.{List, [], ◌∷◌, ◌++◌, append-nil, append_assoc}
use Prim.Native.Nat.{ℕ}
use Rattle.text.specs.Bytes.{lambda, dot, opening, closing, space, class_of}
use Rattle.text.specs.Tokens.{Name, Token, mark, name, token, tokens, IsPiece}
use Rattle.text.specs.Grammar.{Phrase, abstraction, atoms, Atoms, no_more, ◌and◌, Atom, named, bracketed, phrase_tokens, atoms_tokens, atom_tokens, Tree, variable, binder, apply, phrase_tree, applied, atom_tree, Derives}
use Rattle.text.specs.Written.{function_needs, argument_needs, enclosed, tree_text}
use Rattle.text.specs.Spelling.{phrase_text, atoms_text, atom_text, WrittenPhrase}
use Rattle.text.proofs.Tokens.{NameEnds, tokens_nil, tokens_blank, tokens_mark, tokens_name}

-- The phrase of a tree, by itself, as the function of the atoms bs, and as an atom.
abbrev mutual
  phrase_of : Tree → Phrase
  phrase_of (variable x) = atoms (named x) no_more
  phrase_of (binder x t) = abstraction x (phrase_of t)
  phrase_of (apply f a) = onto f (atom_of a and no_more)

  onto : Tree → Atoms → Phrase
  onto (variable x) bs = atoms (named x) bs
  onto (binder x t) bs = atoms (bracketed (abstraction x (phrase_of t))) bs
  onto (apply f a) bs = onto f (atom_of a and bs)

  atom_of : Tree → Atom
  atom_of (variable x) = named x
  atom_of (binder x t) = bracketed (abstraction x (phrase_of t))
  atom_of (apply f a) = bracketed (onto f (atom_of a and no_more))

mutual
  phrase_tree_lem : (t : Tree) → phrase_tree (phrase_of t) ≡ t
  phrase_tree_lem (variable x) = refl
  phrase_tree_lem (binder x t) = ap (binder x) (phrase_tree_lem t)
  phrase_tree_lem (apply f a) = onto_tree f (atom_of a and no_more) ∙ ap (apply f) (atom_tree_lem a)

  onto_tree : (t : Tree) (bs : Atoms) → phrase_tree (onto t bs) ≡ applied bs t
  onto_tree (variable x) bs = refl
  onto_tree (binder x t) bs = ap (λ u. applied bs (binder x u)) (phrase_tree_lem t)
  onto_tree (apply f a) bs = onto_tree f (atom_of a and bs) ∙ ap (λ u. applied bs (apply f u)) (atom_tree_lem a)

  atom_tree_lem : (t : Tree) → atom_tree (atom_of t) ≡ t
  atom_tree_lem (variable x) = refl
  atom_tree_lem (binder x t) = ap (binder x) (phrase_tree_lem t)
  atom_tree_lem (apply f a) = onto_tree f (atom_of a and no_more) ∙ ap (apply f) (atom_tree_lem a)

mutual
  unfolding tree_text

  phrase_text_lem : (t : Tree) → phrase_text (phrase_of t) ≡ tree_text t
  phrase_text_lem (variable x) = append-nil x
  phrase_text_lem (binder x t) = rw (phrase_text_lem t)
  phrase_text_lem (apply f a) = rw (onto_text f (atom_of a and no_more), append-nil (atom_text (atom_of a)), atom_text_lem a)

  onto_text : (t : Tree) (bs : Atoms) → phrase_text (onto t bs) ≡ enclosed (function_needs t) (tree_text t) ++ atoms_text bs
  onto_text (variable x) bs = refl
  onto_text (binder x t) bs = rw (phrase_text_lem t)
  onto_text (apply f a) bs = onto_text f (atom_of a and bs) ∙ rw (atom_text_lem a) (simp append_assoc)

  atom_text_lem : (t : Tree) → atom_text (atom_of t) ≡ enclosed (argument_needs t) (tree_text t)
  atom_text_lem (variable x) = refl
  atom_text_lem (binder x t) = rw (phrase_text_lem t)
  atom_text_lem (apply f a) = rw (onto_text f (atom_of a and no_more), append-nil (atom_text (atom_of a)), atom_text_lem a)

pub written_phrase : WrittenPhrase
written_phrase t = (phrase_of t, phrase_tree_lem t, phrase_text_lem t)

-- The tokens of a tree, as its text has them.
abbrev pub enclosed_tokens : Bool → List Token → List Token
enclosed_tokens true ts = mark opening ∷ (ts ++ (mark closing ∷ []))
enclosed_tokens false ts = ts

unfoldable pub tree_tokens : Tree → List Token
tree_tokens (variable x) = name x ∷ []
tree_tokens (binder x t) = mark lambda ∷ name x ∷ mark dot ∷ tree_tokens t
tree_tokens (apply f a) = enclosed_tokens (function_needs f) (tree_tokens f) ++ enclosed_tokens (argument_needs a) (tree_tokens a)

mutual
  unfolding tree_tokens

  phrase_tokens_lem : (t : Tree) → phrase_tokens (phrase_of t) ≡ tree_tokens t
  phrase_tokens_lem (variable x) = refl
  phrase_tokens_lem (binder x t) = rw (phrase_tokens_lem t)
  phrase_tokens_lem (apply f a) = rw (onto_tokens f (atom_of a and no_more), append-nil (atom_tokens (atom_of a)), atom_tokens_lem a)

  onto_tokens : (t : Tree) (bs : Atoms) → phrase_tokens (onto t bs) ≡ enclosed_tokens (function_needs t) (tree_tokens t) ++ atoms_tokens bs
  onto_tokens (variable x) bs = refl
  onto_tokens (binder x t) bs = rw (phrase_tokens_lem t)
  onto_tokens (apply f a) bs = onto_tokens f (atom_of a and bs) ∙ rw (atom_tokens_lem a) (simp append_assoc)

  atom_tokens_lem : (t : Tree) → atom_tokens (atom_of t) ≡ enclosed_tokens (argument_needs t) (tree_tokens t)
  atom_tokens_lem (variable x) = refl
  atom_tokens_lem (binder x t) = rw (phrase_tokens_lem t)
  atom_tokens_lem (apply f a) = rw (onto_tokens f (atom_of a and no_more), append-nil (atom_tokens (atom_of a)), atom_tokens_lem a)

-- What holds of each name of a tree.
abbrev pub Names : (Name → Type 0) → Tree → Type 0
Names P (variable x) = P x
Names P (binder x t) = P x × Names P t
Names P (apply f a) = Names P f × Names P a

-- a name as the grammar has it
abbrev pub IsName : Name → Type 0
IsName x = IsPiece (token (name x))

-- The text of a tree has its tokens, where what follows does not go on with its last name.
abbrev TokensBefore : List ℕ → List Token → Type 0
TokensBefore s ts = (rest : List ℕ) → NameEnds rest → tokens (s ++ rest) ≡ ts ++ tokens rest

enclosed_tokens_lem : (b : Bool) (s : List ℕ) (ts : List Token) → TokensBefore s ts → TokensBefore (enclosed b s) (enclosed_tokens b ts)
unfolding class_of
enclosed_tokens_lem false s ts h rest e = h rest e
enclosed_tokens_lem true s ts h rest e =
    tokens_mark opening (s ++ (closing ∷ []) ++ rest) refl
    ∙ ap (λ (us : List Token). mark opening ∷ us)
    (ap tokens (append_assoc s (closing ∷ []) rest) ∙ h (closing ∷ rest) refl ∙ rw (tokens_mark closing rest refl) (sym (append_assoc ts (mark closing ∷ []) (tokens rest))))

tree_tokens_lem : (t : Tree) → Names IsName t → TokensBefore (tree_text t) (tree_tokens t)
unfolding tree_text tree_tokens class_of
tree_tokens_lem (variable x) g rest e = tokens_name x rest g.0 g.1 e
tree_tokens_lem (binder x t) g rest e =
    let body = dot ∷ (tree_text t ++ rest) in
    tokens_mark lambda (x ++ (dot ∷ tree_text t) ++ rest) refl
    ∙ ap (λ (us : List Token). mark lambda ∷ us)
    (ap tokens (append_assoc x (dot ∷ tree_text t) rest)
    ∙ tokens_name x body g.0.0 g.0.1 refl
    ∙ rw (tokens_mark dot (tree_text t ++ rest) refl, tree_tokens_lem t g.1 rest e))
tree_tokens_lem (apply f a) g rest e =
    let fs = enclosed (function_needs f) (tree_text f) in
    let gs = enclosed (argument_needs a) (tree_text a) in
    ap tokens (append_assoc fs (space ∷ gs) rest)
    ∙ enclosed_tokens_lem (function_needs f) (tree_text f) (tree_tokens f) (tree_tokens_lem f g.0) (space ∷ (gs ++ rest)) refl
    ∙ rw (tokens_blank space (gs ++ rest) refl, enclosed_tokens_lem (argument_needs a) (tree_text a) (tree_tokens a) (tree_tokens_lem a g.1) rest e)
    (sym (append_assoc (enclosed_tokens (function_needs f) (tree_tokens f)) (enclosed_tokens (argument_needs a) (tree_tokens a)) (tokens rest)))

pub text_tokens : (t : Tree) → Names IsName t → tokens (tree_text t) ≡ tree_tokens t
text_tokens t g = ap tokens (sym (append-nil (tree_text t))) ∙ tree_tokens_lem t g [] tt ∙ rw tokens_nil (append-nil (tree_tokens t))

pub text_derives : (t : Tree) → Names IsName t → Derives (tokens (tree_text t)) t
text_derives t g = record { phrase = phrase_of t; spells = phrase_tokens_lem t ∙ sym (text_tokens t g); tree_is = phrase_tree_lem t }
