-- The readings of tokens as deep as they need call on each other as the grammar does.
use mathlib.Core.Path.{◌≡◌, refl, sym, ap, ◌∙◌}
use mathlib.Core.Bool.{Bool, true, false, false≢true}
use mathlib.Core.Option.{Option, none, some}
use mathlib.Core.List.{List, [], ◌∷◌}
use Prim.Native.Nat.{ℕ, suc, ◌+◌, ◌*◌, ◌≤◌}
use native.Mathlib.Nat.{le_refl}
use native.Mathlib.Omega.{arith}
use lib.ListN.{length}
use Rattle.term.specs.Choice.{◌>>=◌, choose, if_some}
use Rattle.text.specs.Bytes.{lambda, dot, opening}
use Rattle.text.specs.Tokens.{Token, mark, name}
use Rattle.text.specs.Grammar.{Phrase, atoms, Atoms, no_more, ◌and◌, Atom, named, atom_tokens}
use Rattle.text.specs.Parsed.{Parsed, parsed}
use Rattle.text.specs.Parse.{after_mark, name_first, starts_atom, phrase_at, atoms_at, atom_at, phrase_from}
use Rattle.reader.specs.Grammar.{atoms_from, atom_from, abstraction_from, application_from, bracketed_from}
use Rattle.text.proofs.Each.{Each, bind_same, bind_steady, bind_ap, if_same, choose_same}
use Rattle.text.proofs.Spelt.{Spelt, name_tokens, after_spelt, name_spelt, atom_spelt, atom_shorter}
use Rattle.text.proofs.Steady.{phrase_steady, atoms_steady, atom_steady}

-- atoms after the first, where one begins
abbrev more_from : List Token → Option (Parsed Atoms Token)
more_from ts = atom_from ts >>= λ b. atoms_from b.left >>= λ bs. some (parsed (b.value and bs.value) bs.left)

-- deep enough is as deep as they need
phrase_deep : (f : ℕ) (ts : List Token) → 3 * length ts + 3 ≤ f → phrase_at f ts ≡ phrase_from ts
phrase_deep f ts h = phrase_steady f (3 * length ts + 3) ts h (le_refl _)

atoms_deep : (f : ℕ) (ts : List Token) → 3 * length ts + 2 ≤ f → atoms_at f ts ≡ atoms_from ts
unfolding atoms_from
atoms_deep f ts h = atoms_steady f (3 * length ts + 2) ts h (le_refl _)

atom_deep : (f : ℕ) (ts : List Token) → 3 * length ts + 1 ≤ f → atom_at f ts ≡ atom_from ts
unfolding atom_from
atom_deep f ts h = atom_steady f (3 * length ts + 1) ts h (le_refl _)

from_spelt : (ts : List Token) → Each (Spelt atom_tokens ts) (atom_from ts)
unfolding atom_from
from_spelt ts = atom_spelt (3 * length ts + 1) ts

phrase_next : (f : ℕ) (ts : List Token) → 3 * length ts + 2 ≤ f
    → phrase_at (suc f) ts ≡ if_some (after_mark lambda ts) abstraction_from (λ _. application_from ts)
unfolding phrase_at
phrase_next f ts h =
    if_same (λ us. mark lambda ∷ us ≡ ts) (after_mark lambda ts) _ _ _ _ (after_spelt lambda ts)
    (λ us e. bind_same (Spelt name_tokens us) (name_first us) _ _ (name_spelt us)
    λ x ex. bind_same (λ vs. mark dot ∷ vs ≡ x.left) (after_mark dot x.left) _ _ (after_spelt dot x.left)
    λ vs ev. bind_ap (phrase_at f vs) (phrase_from vs) _ (phrase_deep f vs (omega (arith, ap length e, ap length ex, ap length ev))))
    (bind_steady (Spelt atom_tokens ts) (atom_at f ts) (atom_from ts) _ _ (atom_deep f ts (omega arith)) (from_spelt ts)
    λ a ea. bind_ap (atoms_at f a.left) (atoms_from a.left) _ (atoms_deep f a.left (omega (arith, atom_shorter ts a ea))))

pub phrase_from_lem : (ts : List Token) → phrase_from ts ≡ if_some (after_mark lambda ts) abstraction_from (λ _. application_from ts)
phrase_from_lem ts =
    let e : 3 * length ts + 3 ≡ suc (3 * length ts + 2) = omega arith in
    ap (λ (f : ℕ). phrase_at f ts) e ∙ phrase_next (3 * length ts + 2) ts (le_refl _)

atoms_next : (f : ℕ) (ts : List Token) → 3 * length ts + 1 ≤ f
    → atoms_at (suc f) ts ≡ choose (starts_atom ts) (λ _. more_from ts) (λ _. some (parsed no_more ts))
unfolding atoms_at
atoms_next f ts h =
    choose_same (starts_atom ts) _ _ _ _
    (bind_steady (Spelt atom_tokens ts) (atom_at f ts) (atom_from ts) _ _ (atom_deep f ts (omega arith)) (from_spelt ts)
    λ a ea. bind_ap (atoms_at f a.left) (atoms_from a.left) _ (atoms_deep f a.left (omega (arith, atom_shorter ts a ea))))
    refl

pub atoms_from_lem : (ts : List Token) → atoms_from ts ≡ choose (starts_atom ts) (λ _. more_from ts) (λ _. some (parsed no_more ts))
unfolding atoms_from
atoms_from_lem ts =
    let e : 3 * length ts + 2 ≡ suc (3 * length ts + 1) = omega arith in
    ap (λ (f : ℕ). atoms_at f ts) e ∙ atoms_next (3 * length ts + 1) ts (le_refl _)

atom_next : (f : ℕ) (ts : List Token) → 3 * length ts ≤ f
    → atom_at (suc f) ts ≡ if_some (name_first ts) (λ x. some (parsed (named x.value) x.left)) (λ _. after_mark opening ts >>= bracketed_from)
unfolding atom_at
atom_next f ts h =
    if_same (Spelt name_tokens ts) (name_first ts) _ _ _ _ (name_spelt ts) (λ x e. refl)
    (bind_same (λ us. mark opening ∷ us ≡ ts) (after_mark opening ts) _ _ (after_spelt opening ts)
    λ us eu. bind_ap (phrase_at f us) (phrase_from us) _ (phrase_deep f us (omega (arith, ap length eu))))

pub atom_from_lem : (ts : List Token)
    → atom_from ts ≡ if_some (name_first ts) (λ x. some (parsed (named x.value) x.left)) (λ _. after_mark opening ts >>= bracketed_from)
unfolding atom_from
atom_from_lem ts =
    let e : 3 * length ts + 1 ≡ suc (3 * length ts) = omega arith in
    ap (λ (f : ℕ). atom_at f ts) e ∙ atom_next (3 * length ts) ts (le_refl _)

-- An application is the atoms that are there, where there are some.
no_atom : (ts : List Token) → starts_atom ts ≡ false → atom_from ts ≡ none
no_atom [] e = atom_from_lem []
no_atom (mark c ∷ ts) e = atom_from_lem (mark c ∷ ts) ∙ rw e
no_atom (name x ∷ ts) e = absurd (false≢true (sym e))

abbrev pub as_phrase : Parsed Atoms Token → Option (Parsed Phrase Token)
as_phrase p = by_atoms p.value
  where
    by_atoms : Atoms → Option (Parsed Phrase Token)
    by_atoms no_more = none
    by_atoms (b and bs) = some (parsed (atoms b bs) p.left)

application_more : (ts : List Token) → application_from ts ≡ (more_from ts >>= as_phrase)
application_more ts = by_atom (atom_from ts)
  where
    by_atoms_lem : (b : Atom) (o : Option (Parsed Atoms Token))
        → (o >>= λ bs. some (parsed (atoms b bs.value) bs.left)) ≡ ((o >>= λ bs. some (parsed (b and bs.value) bs.left)) >>= as_phrase)
    by_atoms_lem b none = refl
    by_atoms_lem b (some bs) = refl

    by_atom : (o : Option (Parsed Atom Token))
        → (o >>= λ a. atoms_from a.left >>= λ bs. some (parsed (atoms a.value bs.value) bs.left))
        ≡ ((o >>= λ b. atoms_from b.left >>= λ bs. some (parsed (b.value and bs.value) bs.left)) >>= as_phrase)
    by_atom none = refl
    by_atom (some a) = by_atoms_lem a.value (atoms_from a.left)

pub application_from_lem : (ts : List Token) → application_from ts ≡ (atoms_from ts >>= as_phrase)
application_from_lem ts = by_start (starts_atom ts) refl
  where
    by_start : (s : Bool) → starts_atom ts ≡ s → application_from ts ≡ (atoms_from ts >>= as_phrase)
    by_start true e = application_more ts ∙ sym (rw (atoms_from_lem ts, e))
    by_start false e = rw (no_atom ts e) (sym (rw (atoms_from_lem ts, e)))
