-- Reading tokens as a phrase of the grammar. `parse_exactly` (proofs/Parse.antt): it finds the phrase that they spell, if there is one.
use Rattle.std.specs.Prelude.{Bool, true, false, cond, List, [], ◌∷◌, ℕ, zero, suc, ◌+◌, ◌*◌, length, eqb}
use Rattle.std.proofs.Math.Option.{Option, none, some}
use Rattle.term.specs.Choice.{◌>>=◌, choose, if_some}
use Rattle.text.specs.Bytes.{lambda, dot, opening, closing}
use Rattle.text.specs.Tokens.{Name, Token, mark, name}
use Rattle.text.specs.Grammar.{Phrase, abstraction, atoms, Atoms, no_more, ◌and◌, Atom, named, bracketed}
use Rattle.text.specs.Parsed.{Parsed, parsed, whole}

-- what follows this sign, where the tokens begin with it
abbrev pub after_mark : ℕ → List Token → Option (List Token)
after_mark b [] = none
after_mark b (mark c ∷ ts) = cond (eqb c b) (some ts) none
after_mark b (name x ∷ ts) = none

-- the name that the tokens begin with
abbrev pub name_first : List Token → Option (Parsed Name Token)
name_first [] = none
name_first (mark c ∷ ts) = none
name_first (name x ∷ ts) = some (parsed x ts)

-- whether an atom begins here
abbrev pub starts_atom : List Token → Bool
starts_atom [] = false
starts_atom (mark c ∷ ts) = eqb c opening
starts_atom (name x ∷ ts) = true

-- A term, the atoms after the first, and an atom: they call on each other as the grammar does, at most f deep.
unfoldable mutual
  pub phrase_at : ℕ → List Token → Option (Parsed Phrase Token)
  phrase_at zero ts = none
  phrase_at (suc f) ts =
      if_some (after_mark lambda ts)
      (λ us. name_first us >>= λ x. after_mark dot x.left >>= λ vs. phrase_at f vs >>= λ p. some (parsed (abstraction x.value p.value) p.left))
      (λ _. atom_at f ts >>= λ a. atoms_at f a.left >>= λ bs. some (parsed (atoms a.value bs.value) bs.left))

  pub atoms_at : ℕ → List Token → Option (Parsed Atoms Token)
  atoms_at zero ts = none
  atoms_at (suc f) ts =
      choose (starts_atom ts)
      (λ _. atom_at f ts >>= λ b. atoms_at f b.left >>= λ bs. some (parsed (b.value and bs.value) bs.left))
      (λ _. some (parsed no_more ts))

  pub atom_at : ℕ → List Token → Option (Parsed Atom Token)
  atom_at zero ts = none
  atom_at (suc f) ts =
      if_some (name_first ts)
      (λ x. some (parsed (named x.value) x.left))
      (λ _. after_mark opening ts >>= λ us. phrase_at f us >>= λ p. after_mark closing p.left >>= λ vs. some (parsed (bracketed p.value) vs))

-- A term that the tokens begin with. It is deep enough by 3 for each token and a rank more, 3 for a term, 2 for atoms and 1 for an atom: a call that takes no
-- token goes to a lower rank.
abbrev pub phrase_from : List Token → Option (Parsed Phrase Token)
phrase_from ts = phrase_at (3 * length ts + 3) ts

-- All the tokens as one term.
unfoldable pub parse : List Token → Option Phrase
parse ts = phrase_from ts >>= λ p. whole p
