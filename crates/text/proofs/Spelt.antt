-- Reading a phrase, atoms or an atom gives back what was read and what is left: together they spell the tokens.
use mathlib.Core.Path.{◌≡◌, refl, ap}
use mathlib.Core.Bool.{Bool, true, false, cond}
use mathlib.Core.Option.{none, some}
use mathlib.Core.List.{List, [], ◌∷◌, ◌++◌, append_assoc}
use Prim.Native.Nat.{ℕ, zero, suc, ◌≤◌, ◌<◌}
use native.Mathlib.Omega.{arith}
use lib.ListN.{length, length-append}
use lib.Dec.{eqb}
use borrow.Author.Tests.{eqb-true}
use Rattle.text.specs.Bytes.{lambda, dot, opening, closing}
use Rattle.text.specs.Tokens.{Name, Token, mark, name}
use Rattle.text.specs.Grammar.{Phrase, Atoms, Atom, named, bracketed, phrase_tokens, atoms_tokens, atom_tokens}
use Rattle.text.specs.Parsed.{Parsed}
use Rattle.text.specs.Parse.{after_mark, name_first, starts_atom, phrase_at, atoms_at, atom_at}
use Rattle.text.proofs.Each.{Each, each_some, each_bind, each_if, each_choose}

-- p was read of ts: its tokens and those that are left
abbrev pub Spelt : {A : Type 0} → (A → List Token) → List Token → Parsed A Token → Type 0
Spelt spelling ts p = spelling p.value ++ p.left ≡ ts

abbrev pub name_tokens : Name → List Token
name_tokens x = name x ∷ []

pub after_spelt : (b : ℕ) (ts : List Token) → Each (λ us. mark b ∷ us ≡ ts) (after_mark b ts)
after_spelt b [] = tt
after_spelt b (mark c ∷ ts) = by_test (eqb c b) (eqb-true c b)
  where
    by_test : (t : Bool) → (t ≡ true → c ≡ b) → Each (λ us. mark b ∷ us ≡ mark c ∷ ts) (cond t (some ts) none)
    by_test true e = rw (e refl)
    by_test false e = tt
after_spelt b (name x ∷ ts) = tt

pub name_spelt : (ts : List Token) → Each (Spelt name_tokens ts) (name_first ts)
name_spelt [] = tt
name_spelt (mark c ∷ ts) = tt
name_spelt (name x ∷ ts) = refl

mutual
  unfolding phrase_at atoms_at atom_at

  pub phrase_spelt : (f : ℕ) (ts : List Token) → Each (Spelt phrase_tokens ts) (phrase_at f ts)
  phrase_spelt zero ts = tt
  phrase_spelt (suc f) ts =
      let here = Spelt phrase_tokens ts in
      each_if (λ us. mark lambda ∷ us ≡ ts) here (after_mark lambda ts) _ _ (after_spelt lambda ts)
      (λ us e. each_bind (Spelt name_tokens us) here (name_first us) _ (name_spelt us)
      λ x ex. each_bind (λ vs. mark dot ∷ vs ≡ x.left) here (after_mark dot x.left) _ (after_spelt dot x.left)
      λ vs ev. each_bind (Spelt phrase_tokens vs) here (phrase_at f vs) _ (phrase_spelt f vs)
      λ p ep. rw (ep, ev, ex) e)
      (each_bind (Spelt atom_tokens ts) here (atom_at f ts) _ (atom_spelt f ts)
      λ a ea. each_bind (Spelt atoms_tokens a.left) here (atoms_at f a.left) _ (atoms_spelt f a.left)
      λ bs eb. rw (append_assoc, eb) ea)

  pub atoms_spelt : (f : ℕ) (ts : List Token) → Each (Spelt atoms_tokens ts) (atoms_at f ts)
  atoms_spelt zero ts = tt
  atoms_spelt (suc f) ts =
      let here = Spelt atoms_tokens ts in
      each_choose here (starts_atom ts) _ _
      (each_bind (Spelt atom_tokens ts) here (atom_at f ts) _ (atom_spelt f ts)
      λ b eb. each_bind (Spelt atoms_tokens b.left) here (atoms_at f b.left) _ (atoms_spelt f b.left)
      λ bs es. rw (append_assoc, es) eb)
      refl

  pub atom_spelt : (f : ℕ) (ts : List Token) → Each (Spelt atom_tokens ts) (atom_at f ts)
  atom_spelt zero ts = tt
  atom_spelt (suc f) ts =
      let here = Spelt atom_tokens ts in
      each_if (Spelt name_tokens ts) here (name_first ts) _ _ (name_spelt ts)
      (λ x e. e)
      (each_bind (λ us. mark opening ∷ us ≡ ts) here (after_mark opening ts) _ (after_spelt opening ts)
      λ us eu. each_bind (Spelt phrase_tokens us) here (phrase_at f us) _ (phrase_spelt f us)
      λ p ep. each_bind (λ vs. mark closing ∷ vs ≡ p.left) here (after_mark closing p.left) _ (after_spelt closing p.left)
      λ vs ev. cc (append_assoc (phrase_tokens p.value) (mark closing ∷ []) vs))

pub phrase_sound : (f : ℕ) (ts : List Token) (p : Parsed Phrase Token) → phrase_at f ts ≡ some p → phrase_tokens p.value ++ p.left ≡ ts
phrase_sound f ts p e = each_some (Spelt phrase_tokens ts) (phrase_spelt f ts) e

pub atoms_sound : (f : ℕ) (ts : List Token) (p : Parsed Atoms Token) → atoms_at f ts ≡ some p → atoms_tokens p.value ++ p.left ≡ ts
atoms_sound f ts p e = each_some (Spelt atoms_tokens ts) (atoms_spelt f ts) e

pub atom_sound : (f : ℕ) (ts : List Token) (p : Parsed Atom Token) → atom_at f ts ≡ some p → atom_tokens p.value ++ p.left ≡ ts
atom_sound f ts p e = each_some (Spelt atom_tokens ts) (atom_spelt f ts) e

-- an atom has a token, so less is left after it
pub atom_some : (a : Atom) → 1 ≤ length (atom_tokens a)
atom_some (named x) = omega arith
atom_some (bracketed p) = omega arith

pub atom_shorter : (ts : List Token) (a : Parsed Atom Token) → Spelt atom_tokens ts a → length a.left < length ts
atom_shorter ts a e = omega (arith, atom_some a.value, length-append (atom_tokens a.value) a.left, ap length e)
