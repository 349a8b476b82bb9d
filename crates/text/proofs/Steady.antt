-- What the reading of tokens answers does not depend on how deep it may go, once that suffices.
use mathlib.Core.Path.{◌≡◌, refl, ap}
use mathlib.Core.List.{List, ◌∷◌}
use Prim.Native.Nat.{ℕ, zero, suc, ◌+◌, ◌*◌, ◌≤◌}
use native.Mathlib.Omega.{arith}
use lib.ListN.{length}
use Rattle.text.specs.Bytes.{lambda, dot, opening}
use Rattle.text.specs.Tokens.{Token, mark}
use Rattle.text.specs.Grammar.{atom_tokens}
use Rattle.text.specs.Parse.{after_mark, name_first, starts_atom, phrase_at, atoms_at, atom_at}
use Rattle.text.proofs.Each.{bind_same, bind_steady, bind_ap, if_same, choose_same}
use Rattle.text.proofs.Spelt.{Spelt, name_tokens, after_spelt, name_spelt, atom_spelt, atom_shorter}

mutual
  unfolding phrase_at atoms_at atom_at

  pub phrase_steady : (f g : ℕ) (ts : List Token) → 3 * length ts + 3 ≤ f → 3 * length ts + 3 ≤ g → phrase_at f ts ≡ phrase_at g ts
  phrase_steady zero g ts h i = absurd (omega arith)
  phrase_steady (suc f) zero ts h i = absurd (omega arith)
  phrase_steady (suc f) (suc g) ts h i =
      if_same (λ us. mark lambda ∷ us ≡ ts) (after_mark lambda ts) _ _ _ _ (after_spelt lambda ts)
      (λ us e. bind_same (Spelt name_tokens us) (name_first us) _ _ (name_spelt us)
      λ x ex. bind_same (λ vs. mark dot ∷ vs ≡ x.left) (after_mark dot x.left) _ _ (after_spelt dot x.left)
      λ vs ev. bind_ap (phrase_at f vs) (phrase_at g vs) _ (phrase_steady f g vs (omega (arith, ap length e, ap length ex, ap length ev)) (omega (arith, ap length e, ap length ex, ap length ev))))
      (bind_steady (Spelt atom_tokens ts) (atom_at f ts) (atom_at g ts) _ _ (atom_steady f g ts (omega arith) (omega arith)) (atom_spelt g ts)
      λ a ea. bind_ap (atoms_at f a.left) (atoms_at g a.left) _ (atoms_steady f g a.left (omega (arith, atom_shorter ts a ea)) (omega (arith, atom_shorter ts a ea))))

  pub atoms_steady : (f g : ℕ) (ts : List Token) → 3 * length ts + 2 ≤ f → 3 * length ts + 2 ≤ g → atoms_at f ts ≡ atoms_at g ts
  atoms_steady zero g ts h i = absurd (omega arith)
  atoms_steady (suc f) zero ts h i = absurd (omega arith)
  atoms_steady (suc f) (suc g) ts h i =
      choose_same (starts_atom ts) _ _ _ _
      (bind_steady (Spelt atom_tokens ts) (atom_at f ts) (atom_at g ts) _ _ (atom_steady f g ts (omega arith) (omega arith)) (atom_spelt g ts)
      λ a ea. bind_ap (atoms_at f a.left) (atoms_at g a.left) _ (atoms_steady f g a.left (omega (arith, atom_shorter ts a ea)) (omega (arith, atom_shorter ts a ea))))
      refl

  pub atom_steady : (f g : ℕ) (ts : List Token) → 3 * length ts + 1 ≤ f → 3 * length ts + 1 ≤ g → atom_at f ts ≡ atom_at g ts
  atom_steady zero g ts h i = absurd (omega arith)
  atom_steady (suc f) zero ts h i = absurd (omega arith)
  atom_steady (suc f) (suc g) ts h i =
      if_same (Spelt name_tokens ts) (name_first ts) _ _ _ _ (name_spelt ts) (λ x e. refl)
      (bind_same (λ us. mark opening ∷ us ≡ ts) (after_mark opening ts) _ _ (after_spelt opening ts)
      λ us eu. bind_ap (phrase_at f us) (phrase_at g us) _ (phrase_steady f g us (omega (arith, ap length eu)) (omega (arith, ap length eu))))
