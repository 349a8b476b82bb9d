-- The reading of tokens finds the one phrase that they spell, and finds none exactly where no tree is derived.
use mathlib.Core.Path.{◌≡◌, refl, sym, ◌∙◌}
use mathlib.Core.Logic.{◌↔◌}
use mathlib.Core.Bool.{true, false}
use mathlib.Core.Option.{Option, none, some}
use mathlib.Core.List.{List, [], ◌∷◌, ◌++◌, append-nil, append_assoc}
use Prim.Native.Nat.{ℕ, zero, suc, ◌+◌, ◌*◌, ◌≤◌}
use native.Mathlib.Nat.{le_refl}
use native.Mathlib.Omega.{arith}
use lib.ListN.{length, length-append}
use Rattle.text.specs.Bytes.{lambda, closing}
use Rattle.text.specs.Tokens.{Token, mark}
use Rattle.text.specs.Grammar.{Phrase, abstraction, atoms, Atoms, no_more, ◌and◌, Atom, named, bracketed, phrase_tokens, atoms_tokens, atom_tokens, Tree, phrase_tree, Derives}
use Rattle.text.specs.Parsed.{parsed}
use Rattle.text.specs.Parse.{after_mark, starts_atom, phrase_at, atoms_at, atom_at, parse}
use Rattle.text.proofs.Each.{Each, each_some, each_bind, whole_spells}
use Rattle.text.proofs.Spelt.{Spelt, phrase_spelt, atom_some}

-- the first token of an atom: no `\`, and one that starts an atom
not_lambda : (a : Atom) (ts : List Token) → after_mark lambda (atom_tokens a ++ ts) ≡ none
not_lambda (named x) ts = refl
not_lambda (bracketed p) ts = refl

pub starts_atom_lem : (a : Atom) (ts : List Token) → starts_atom (atom_tokens a ++ ts) ≡ true
starts_atom_lem (named x) ts = refl
starts_atom_lem (bracketed p) ts = refl

-- a phrase, atoms and an atom are found where they are spelt; after the first two no atom may begin
mutual
  unfolding phrase_at atoms_at atom_at

  pub phrase_found : (p : Phrase) (f : ℕ) (rest : List Token) → 3 * length (phrase_tokens p) + 3 ≤ f → starts_atom rest ≡ false
      → phrase_at f (phrase_tokens p ++ rest) ≡ some (parsed p rest)
  phrase_found (abstraction x p) zero rest h s = absurd (omega arith)
  phrase_found (abstraction x p) (suc f) rest h s = rw (phrase_found p f rest (omega arith) s)
  phrase_found (atoms a bs) zero rest h s = absurd (omega arith)
  phrase_found (atoms a bs) (suc f) rest h s =
      let l = length-append (atom_tokens a) (atoms_tokens bs) in
      rw (append_assoc, not_lambda a (atoms_tokens bs ++ rest), atom_found a f (atoms_tokens bs ++ rest) (omega arith), atoms_found bs f rest (omega arith) s)

  pub atoms_found : (bs : Atoms) (f : ℕ) (rest : List Token) → 3 * length (atoms_tokens bs) + 2 ≤ f → starts_atom rest ≡ false
      → atoms_at f (atoms_tokens bs ++ rest) ≡ some (parsed bs rest)
  atoms_found no_more zero rest h s = absurd (omega arith)
  atoms_found no_more (suc f) rest h s = rw s
  atoms_found (b and bs) zero rest h s = absurd (omega arith)
  atoms_found (b and bs) (suc f) rest h s =
      let l = length-append (atom_tokens b) (atoms_tokens bs) in
      rw (append_assoc, starts_atom_lem b (atoms_tokens bs ++ rest), atom_found b f (atoms_tokens bs ++ rest) (omega arith), atoms_found bs f rest (omega (arith, atom_some b)) s)

  pub atom_found : (a : Atom) (f : ℕ) (rest : List Token) → 3 * length (atom_tokens a) + 1 ≤ f
      → atom_at f (atom_tokens a ++ rest) ≡ some (parsed a rest)
  atom_found (named x) zero rest h = absurd (omega arith)
  atom_found (named x) (suc f) rest h = refl
  atom_found (bracketed p) zero rest h = absurd (omega arith)
  atom_found (bracketed p) (suc f) rest h =
      let l = length-append (phrase_tokens p) (mark closing ∷ []) in
      rw (append_assoc, phrase_found p f (mark closing ∷ rest) (omega arith) refl)

-- what `parse` finds is spelt by all the tokens
whole_spelt : (ts : List Token) → Each (λ p. phrase_tokens p ≡ ts) (parse ts)
unfolding parse
whole_spelt ts =
    each_bind (Spelt phrase_tokens ts) (λ p. phrase_tokens p ≡ ts) (phrase_at (3 * length ts + 3) ts) _ (phrase_spelt (3 * length ts + 3) ts)
    λ p e. whole_spells phrase_tokens ts p e

phrase_parsed : (p : Phrase) → parse (phrase_tokens p) ≡ some p
unfolding parse
phrase_parsed p =
    let d = 3 * length (phrase_tokens p) + 3 in
    let e : phrase_at d (phrase_tokens p) ≡ some (parsed p []) =
    rw (append-nil (phrase_tokens p)) at (phrase_found p d [] (le_refl d) refl) in
    rw e

pub parse_exactly : (ts : List Token) (p : Phrase) → (parse ts ≡ some p) ↔ (phrase_tokens p ≡ ts)
parse_exactly ts p = (each_some (λ q. phrase_tokens q ≡ ts) (whole_spelt ts), λ e. rw e at (phrase_parsed p))

pub parse_derives : (ts : List Token) (p : Phrase) → parse ts ≡ some p → Derives ts (phrase_tree p)
parse_derives ts p e = record { phrase = p; spells = (parse_exactly ts p).0 e; tree_is = refl }

pub one_phrase : (p q : Phrase) → phrase_tokens p ≡ phrase_tokens q → p ≡ q
one_phrase p q e = cc ((parse_exactly (phrase_tokens q) p).1 e, phrase_parsed q)

pub one_tree : (ts : List Token) (t u : Tree) → Derives ts t → Derives ts u → t ≡ u
one_tree ts t u d c = cc (one_phrase d.phrase c.phrase (d.spells ∙ sym c.spells), d.tree_is, c.tree_is)

pub parse_none : (ts : List Token) → (parse ts ≡ none) ↔ ((t : Tree) → Derives ts t → ⊥)
parse_none ts = (none_derived, by_found (parse ts) refl)
  where
    none_derived : parse ts ≡ none → (t : Tree) → Derives ts t → ⊥
    none_derived e t d =
        let found = (parse_exactly ts d.phrase).1 d.spells in
        let z : ◌≡◌ {A = ℕ} 0 1 = cc in
        omega arith

    by_found : (o : Option Phrase) → parse ts ≡ o → ((t : Tree) → Derives ts t → ⊥) → parse ts ≡ none
    by_found none e no_tree = e
    by_found (some p) e no_tree = absurd (no_tree (phrase_tree p) (parse_derives ts p e))
