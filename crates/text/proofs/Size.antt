-- A text of b bytes that spells a phrase has at most b nodes; and what a tree means has as many nodes as the tree.
use mathlib.Core.Path.{◌≡◌, refl, ap, ◌∙◌}
use mathlib.Core.Option.{some}
use mathlib.Core.List.{List, [], ◌∷◌, ◌++◌, append-nil, append_assoc}
use Prim.Native.Nat.{ℕ, suc, ◌+◌, ◌≤◌}
use native.Mathlib.Omega.{arith}
use lib.ListN.{length, length-append}
use Rattle.term.specs.Term.{Term, var, lam, app, size}
use Rattle.text.specs.Bytes.{closing}
use Rattle.text.specs.Tokens.{Name, Token, mark, name, Piece, gap, token, pieces, tokens_of, tokens, spelled, NotName, ArePieces}
use Rattle.text.specs.Grammar.{Phrase, abstraction, atoms, Atoms, no_more, ◌and◌, Atom, named, bracketed, phrase_tokens, atoms_tokens, atom_tokens, Tree, variable, binder, apply, phrase_tree, applied, atom_tree}
use Rattle.text.specs.Binding.{nameless, Form}
use Rattle.text.proofs.Tokens.{pieces_spell, pieces_are}
use Rattle.text.proofs.Binding.{nameless_exactly}

abbrev pub nodes : Tree → ℕ
nodes (variable x) = 1
nodes (binder x t) = suc (nodes t)
nodes (apply f a) = suc (nodes f + nodes a)

-- The fewest bytes that can spell these tokens: one for each, and one between two neighbouring names.
abbrev name_next : List Token → ℕ
name_next [] = 0
name_next (mark b ∷ ts) = 0
name_next (name x ∷ ts) = 1

abbrev fewest : List Token → ℕ
fewest [] = 0
fewest (mark b ∷ ts) = suc (fewest ts)
fewest (name x ∷ ts) = suc (name_next ts + fewest ts)

name_next_most : (ts : List Token) → name_next ts ≤ 1
name_next_most [] = omega arith
name_next_most (mark b ∷ ts) = omega arith
name_next_most (name x ∷ ts) = omega arith

-- Pieces spell at least as many; and those that may follow a name pay for the byte between two names too.
mutual
  fewest_spelled : (ps : List Piece) → ArePieces ps → fewest (tokens_of ps) ≤ length (spelled ps)
  fewest_spelled [] are = omega arith
  fewest_spelled (gap b ∷ ps) are = omega (arith, fewest_spelled ps are.2)
  fewest_spelled (token (mark b) ∷ ps) are = omega (arith, fewest_spelled ps are.2)
  fewest_spelled (token (name x) ∷ ps) are = simp length-append (omega (arith, fewest_apart ps are.2 are.1))

  fewest_apart : (ps : List Piece) → ArePieces ps → NotName ps → name_next (tokens_of ps) + fewest (tokens_of ps) ≤ length (spelled ps)
  fewest_apart [] are apart = omega arith
  fewest_apart (gap b ∷ ps) are apart = omega (arith, fewest_spelled ps are.2, name_next_most (tokens_of ps))
  fewest_apart (token (mark b) ∷ ps) are apart = omega (arith, fewest_spelled ps are.2)
  fewest_apart (token (name x) ∷ ps) are apart = absurd apart

-- What an atom leaves over for the application of the next: the byte between two names, or one of its two brackets.
abbrev over : Atom → List Token → ℕ
over (named x) ts = name_next ts
over (bracketed p) ts = 1

over_next : (a : Atom) (ts : List Token) → name_next ts ≤ over a ts
over_next (named x) ts = omega arith
over_next (bracketed p) ts = name_next_most ts

-- The tokens of a phrase, of the atoms after an atom, and of an atom pay for its nodes, whatever tokens follow.
mutual
  phrase_nodes : (p : Phrase) (us : List Token) → nodes (phrase_tree p) + fewest us ≤ fewest (phrase_tokens p ++ us)
  phrase_nodes (abstraction x p) us = omega (arith, phrase_nodes p us)
  phrase_nodes (atoms a bs) us =
      let rest = atoms_tokens bs ++ us in
      omega (
        arith,
        ap fewest (append_assoc (atom_tokens a) (atoms_tokens bs) us),
        name_next_most (atom_tokens a ++ rest),
        atom_nodes a rest,
        atoms_nodes bs a (atom_tree a) us,
      )

  -- t is the tree so far
  atoms_nodes : (bs : Atoms) (a : Atom) (t : Tree) (us : List Token)
      → nodes (applied bs t) + fewest us ≤ nodes t + over a (atoms_tokens bs ++ us) + fewest (atoms_tokens bs ++ us)
  atoms_nodes no_more a t us = omega arith
  atoms_nodes (b and bs) a t us =
      let rest = atoms_tokens bs ++ us in
      let e = append_assoc (atom_tokens b) (atoms_tokens bs) us in
      omega (
        arith,
        ap name_next e,
        ap fewest e,
        over_next a (atom_tokens b ++ atoms_tokens bs ++ us),
        atom_nodes b rest,
        atoms_nodes bs b (apply t (atom_tree b)) us,
      )

  -- and for the application before it, with the byte between two names
  atom_nodes : (a : Atom) (ts : List Token)
      → suc (nodes (atom_tree a) + over a ts + fewest ts) ≤ name_next (atom_tokens a ++ ts) + fewest (atom_tokens a ++ ts)
  atom_nodes (named x) ts = omega arith
  atom_nodes (bracketed p) ts =
      omega (arith, ap fewest (append_assoc (phrase_tokens p) (mark closing ∷ []) ts), phrase_nodes p (mark closing ∷ ts))

pub few_nodes : (text : List ℕ) (p : Phrase) → phrase_tokens p ≡ tokens text → nodes (phrase_tree p) ≤ length text
few_nodes text p e =
    omega (
      arith,
      phrase_nodes p [],
      ap fewest (append-nil (phrase_tokens p) ∙ e),
      fewest_spelled (pieces text) (pieces_are text),
      ap length (pieces_spell text),
    )

-- A tree without its names has as many nodes.
form_nodes : (t : Tree) (around : List Name) (u : Term) → Form t around u → size u ≡ nodes t
form_nodes (variable x) around (var k) h = refl
form_nodes (variable x) around (lam b) h = absurd h
form_nodes (variable x) around (app g b) h = absurd h
form_nodes (binder x t) around (var k) h = absurd h
form_nodes (binder x t) around (lam b) h = ap suc (form_nodes t (x ∷ around) b h)
form_nodes (binder x t) around (app g b) h = absurd h
form_nodes (apply f a) around (var k) h = absurd h
form_nodes (apply f a) around (lam b) h = absurd h
form_nodes (apply f a) around (app g b) h = omega (arith, form_nodes f around g h.0, form_nodes a around b h.1)

pub size_nodes : (t : Tree) (around : List Name) (u : Term) → nameless t around ≡ some u → size u ≡ nodes t
size_nodes t around u e = form_nodes t around u ((nameless_exactly t around u).0 e)
