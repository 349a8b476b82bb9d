-- Words stored past the end of a slice, and in a run, one run after another: for every crate that writes into a lent slice.
use Prim.Native.Nat.{ℕ, zero, suc, ◌+◌, ◌≤◌}
use native.Mathlib.Nat.{add-zero}
use native.Mathlib.Omega.{arith}
use mathlib.Core.Path.{◌≡◌, refl, sym, ap, ◌∙◌}
use mathlib.Core.List.{List, [], ◌∷◌, ◌++◌}
use lib.ListN.{length, set}
use lib.Seq.{sets}

-- a store past the end changes nothing
pub set_beyond : (o : List ℕ) (i x : ℕ) → length o ≤ i → set o i x ≡ o
set_beyond [] i x h = refl
set_beyond (w ∷ o) zero x h = absurd (omega arith)
set_beyond (w ∷ o) (suc i) x h = ap (λ (l : List ℕ). w ∷ l) (set_beyond o i x (omega arith))

pub sets_append : (o : List ℕ) (i : ℕ) (a b : List ℕ) → sets o i (a ++ b) ≡ sets (sets o i a) (i + length a) b
sets_append o i [] b = rw add-zero
sets_append o i (x ∷ a) b =
    let e : suc i + length a ≡ i + suc (length a) = omega arith in
    sets_append (set o i x) (suc i) a b ∙ ap (λ (k : ℕ). sets (sets (set o i x) (suc i) a) k b) e

-- one run after another
pub run_on : (o o₁ o₂ : List ℕ) (i m : ℕ) (a b : List ℕ) → o₁ ≡ sets o i a → m ≡ i + length a → o₂ ≡ sets o₁ m b → o₂ ≡ sets o i (a ++ b)
run_on o o₁ o₂ i m a b e l e' = e' ∙ rw (e, l) (sym (sets_append o i a b))
