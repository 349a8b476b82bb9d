-- What a kind, or that there is none, says of its word.
use mathlib.Core.Path.{◌≡◌, refl, sym, subst}
use Prim.Native.Nat.{ℕ, zero, suc}
use native.Mathlib.Omega.{arith}
use Rattle.term.specs.Table.{Table, Kind, variable, abstraction, application, nothing, kind_of, kind_at}
use Rattle.term.specs.Kinds.{kind_meant}

abbrev pub Says : Kind → ℕ → Type 0
Says nothing w = (w ≡ 3 → ⊥) × (w ≡ 2 → ⊥) × (w ≡ 1 → ⊥)
Says variable w = w ≡ 1
Says abstraction w = w ≡ 2
Says application w = w ≡ 3

says : (w : ℕ) → Says (kind_of w) w
unfolding kind_of
says zero = (λ e. omega arith, λ e. omega arith, λ e. omega arith)
says (suc zero) = refl
says (suc (suc zero)) = refl
says (suc (suc (suc zero))) = refl
says (suc (suc (suc (suc w)))) = (λ e. omega arith, λ e. omega arith, λ e. omega arith)

-- of a kind that the code found, under the name that it found
pub kind_says : (T : Table) (i : ℕ) {o k : _} → kind_meant o ≡ kind_at T i → o ≡ k → Says (kind_meant k) (T.kind i)
kind_says T i e f = subst (λ q. Says (kind_meant q) (T.kind i)) f (subst (λ q. Says q (T.kind i)) (sym e) (says (T.kind i)))
