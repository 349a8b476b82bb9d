-- Bytes put one after another, and bytes put into a slice that has room for all of them.
use mathlib.Core.Path.{◌≡◌, refl, sym, ap, ◌∙◌}
use mathlib.Core.List.{List, [], ◌∷◌, ◌++◌}
use Prim.Native.Nat.{ℕ, suc, ◌+◌, ◌≤◌}
use native.Mathlib.Nat.{zero-add}
use native.Mathlib.Omega.{arith}
use lib.ListN.{length, set, drop, length-append}
use lib.Seq.{sets, sets-eq}
use Rattle.decimal.specs.Decimal.{decimal, put_of}
use Rattle.term.proofs.Stores.{set_beyond, run_on}
use Rattle.writer.specs.Putting.{Put}

-- A byte, stored or left out.
pub byte_put : (o : List ℕ) (at b : ℕ) → Put o at (b ∷ []) (at + 1) (set o at b)
byte_put o at b = record { next = refl; wrote = refl }

pub byte_left_out : (o : List ℕ) (at b : ℕ) → length o ≤ at → Put o at (b ∷ []) (at + 1) o
byte_left_out o at b h = record { next = refl; wrote = sym (set_beyond o at b h) }

pub put_then : {o : List ℕ} {at : ℕ} {a b : List ℕ} {p r : ℕ} {o₁ o₂ : List ℕ} → Put o at a p o₁ → Put o₁ p b r o₂ → Put o at (a ++ b) r o₂
put_then {o} {at} {a} {b} {p} {r} {o₁} {o₂} x y = record {
  next = omega (arith, x.next, y.next, length-append a b);
  wrote = run_on o o₁ o₂ at p a b x.wrote x.next y.wrote;
}

-- Into no bytes: there are none after it either.
sets_nothing : (at : ℕ) (s : List ℕ) → sets [] at s ≡ []
sets_nothing at [] = refl
sets_nothing at (b ∷ s) = sets_nothing (suc at) s

pub put_nothing : {at : ℕ} {s : List ℕ} {r : ℕ} {o' : List ℕ} → Put [] at s r o' → o' ≡ []
put_nothing {at} {s} x = x.wrote ∙ sets_nothing at s

-- From the first byte on, into a slice that has room.
pub put_whole : (o s : List ℕ) (r : ℕ) (o' : List ℕ) → length s ≤ length o → Put o 0 s r o' → o' ≡ s ++ drop (length s) o
put_whole o s r o' room x = x.wrote ∙ sets-eq s o 0 (omega arith) ∙ simp zero-add

-- digits, of which `decimal::put` answers how many there are
pub digits_put : (o : List ℕ) (at n k : ℕ) (o' : List ℕ) → (k, o') ≡ put_of o at n → Put o at (decimal n) (at + k) o'
digits_put o at n k o' e = record { next = ap (λ x. at + x.0) e; wrote = ap (λ x. x.1) e }
