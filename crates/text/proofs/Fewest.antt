-- The text of a term has as few brackets as any text of a phrase with the same tree.
use mathlib.Core.Path.{◌≡◌, refl, ap, ◌∙◌, subst, subst⁻¹}
use mathlib.Core.Bool.{Bool, true, false, cond, ◌||◌}
use mathlib.Core.List.{List, [], ◌∷◌, ◌++◌}
use Prim.Native.Nat.{ℕ, ◌+◌, ◌≤◌}
use native.Mathlib.Omega.{arith}
use lib.Dec.{eqb}
use borrow.Author.Tests.{eqb-true}
use Rattle.text.specs.Bytes.{Class, letter, digit, blank, sign, foreign, opening, closing, class_of}
use Rattle.text.specs.Tokens.{Token, mark, name, Piece, gap, token, into_name, put_byte, pieces, tokens_of, tokens}
use Rattle.text.specs.Grammar.{Phrase, abstraction, atoms, Atoms, no_more, ◌and◌, Atom, named, bracketed, phrase_tokens, atoms_tokens, atom_tokens, Tree, variable, binder, apply, phrase_tree, applied, atom_tree, Derives}
use Rattle.text.specs.Written.{named_tree, function_needs, argument_needs, tree_text, text_of}
use Rattle.text.specs.Spelling.{is_bracket, brackets, FewestBrackets}
use Rattle.text.proofs.Written.{enclosed_tokens, tree_tokens, Names, IsName, text_tokens, text_derives}
use Rattle.text.proofs.Names.{tree_names}

-- how many tokens are round brackets
abbrev bracket_marks : List Token → ℕ
bracket_marks [] = 0
bracket_marks (mark b ∷ ts) = cond (is_bracket b) 1 0 + bracket_marks ts
bracket_marks (name x ∷ ts) = bracket_marks ts

marks_append : (ts us : List Token) → bracket_marks (ts ++ us) ≡ bracket_marks ts + bracket_marks us
marks_append [] us = omega arith
marks_append (mark b ∷ ts) us = omega (arith, marks_append ts us)
marks_append (name x ∷ ts) us = marks_append ts us

-- The brackets of a text are those of its tokens.
into_name_lem : (b : ℕ) (ps : List Piece) → bracket_marks (tokens_of (into_name b ps)) ≡ bracket_marks (tokens_of ps)
into_name_lem b [] = refl
into_name_lem b (gap c ∷ ps) = refl
into_name_lem b (token (mark c) ∷ ps) = refl
into_name_lem b (token (name x) ∷ ps) = refl

-- a bracket is a sign
abbrev NoSign : Class → Type 0
NoSign letter = Unit
NoSign digit = Unit
NoSign blank = Unit
NoSign sign = ⊥
NoSign foreign = Unit

no_bracket : (b : ℕ) → NoSign (class_of b) → ◌≡◌ {A = ℕ} (cond (is_bracket b) 1 0) 0
unfolding class_of
no_bracket b h = by_tests (eqb b opening) (eqb b closing) (eqb-true b opening) (eqb-true b closing)
  where
    by_tests : (s t : Bool) → (s ≡ true → b ≡ opening) → (t ≡ true → b ≡ closing) → ◌≡◌ {A = ℕ} (cond (s || t) 1 0) 0
    by_tests true t e f = absurd (subst NoSign (ap class_of (e refl)) h)
    by_tests false true e f = absurd (subst NoSign (ap class_of (f refl)) h)
    by_tests false false e f = refl

put_byte_lem : (c : Class) (b : ℕ) (ps : List Piece) → class_of b ≡ c
    → bracket_marks (tokens_of (put_byte c b ps)) ≡ cond (is_bracket b) 1 0 + bracket_marks (tokens_of ps)
put_byte_lem sign b ps e = refl
put_byte_lem letter b ps e = omega (arith, into_name_lem b ps, no_bracket b (subst⁻¹ NoSign e tt))
put_byte_lem digit b ps e = omega (arith, into_name_lem b ps, no_bracket b (subst⁻¹ NoSign e tt))
put_byte_lem blank b ps e = omega (arith, no_bracket b (subst⁻¹ NoSign e tt))
put_byte_lem foreign b ps e = omega (arith, no_bracket b (subst⁻¹ NoSign e tt))

text_brackets : (s : List ℕ) → bracket_marks (tokens s) ≡ brackets s
unfolding pieces
text_brackets [] = refl
text_brackets (b ∷ s) = put_byte_lem (class_of b) b (pieces s) refl ∙ ap (λ k. cond (is_bracket b) 1 0 + k) (text_brackets s)

-- The brackets of a tree's tokens: by itself, as a function and as an argument.
abbrev within : Bool → Tree → ℕ
within b t = bracket_marks (enclosed_tokens b (tree_tokens t))

enclosed_more : (b : Bool) (t : Tree) → (bracket_marks (tree_tokens t) ≤ within b t) × (within b t ≤ 2 + bracket_marks (tree_tokens t))
enclosed_more false t = (omega arith, omega arith)
enclosed_more true t = let e = marks_append (tree_tokens t) (mark closing ∷ []) in (omega arith, omega arith)

function_argument : (t : Tree) → within (function_needs t) t ≤ within (argument_needs t) t
function_argument (variable x) = omega arith
function_argument (binder x t) = omega arith
function_argument (apply f a) = (enclosed_more true (apply f a)).0

-- Every phrase has at least the brackets that its tree needs.
mutual
  unfolding tree_tokens

  phrase_fewest : (p : Phrase) → bracket_marks (tree_tokens (phrase_tree p)) ≤ bracket_marks (phrase_tokens p)
  phrase_fewest (abstraction x p) = omega (arith, phrase_fewest p)
  phrase_fewest (atoms a bs) =
      omega (
        arith,
        atoms_fewest bs (atom_tree a),
        function_argument (atom_tree a),
        atom_fewest a,
        marks_append (atom_tokens a) (atoms_tokens bs),
      )

  -- t is the tree so far
  atoms_fewest : (bs : Atoms) (t : Tree) → bracket_marks (tree_tokens (applied bs t)) ≤ within (function_needs t) t + bracket_marks (atoms_tokens bs)
  atoms_fewest no_more t = omega (arith, (enclosed_more (function_needs t) t).0)
  atoms_fewest (b and bs) t =
      omega (
        arith,
        atoms_fewest bs (apply t (atom_tree b)),
        marks_append (enclosed_tokens (function_needs t) (tree_tokens t)) (enclosed_tokens (argument_needs (atom_tree b)) (tree_tokens (atom_tree b))),
        atom_fewest b,
        marks_append (atom_tokens b) (atoms_tokens bs),
      )

  atom_fewest : (a : Atom) → within (argument_needs (atom_tree a)) (atom_tree a) ≤ bracket_marks (atom_tokens a)
  atom_fewest (named x) = omega arith
  atom_fewest (bracketed p) =
      omega (
        arith,
        (enclosed_more (argument_needs (phrase_tree p)) (phrase_tree p)).1,
        phrase_fewest p,
        marks_append (phrase_tokens p) (mark closing ∷ []),
      )

pub fewest_brackets : FewestBrackets
unfolding text_of
fewest_brackets t = (text_derives tree names, fewest)
  where
    tree : Tree
    tree = named_tree t

    names : Names IsName tree
    names = tree_names t [] 1

    fewest : (text : List ℕ) → Derives (tokens text) tree → brackets (tree_text tree) ≤ brackets text
    fewest text d =
        omega (
          arith,
          text_brackets (tree_text tree),
          ap bracket_marks (text_tokens tree names),
          ap (λ u. bracket_marks (tree_tokens u)) d.tree_is,
          phrase_fewest d.phrase,
          ap bracket_marks d.spells,
          text_brackets text,
        )
