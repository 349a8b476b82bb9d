-- The digits of a number stored one after another, from those of its tenth.
use mathlib.Core.Path.{◌≡◌, ap, ap₂, ◌∙◌}
use mathlib.Core.List.{List, [], ◌∷◌, ◌++◌}
use Prim.Native.Nat.{ℕ, ◌+◌, ◌/◌, ◌%◌, ◌≤◌, ◌<◌}
use native.Mathlib.Nat.{add-zero}
use native.Mathlib.Omega.{arith}
use lib.ListN.{length, set, length-append}
use Rattle.term.proofs.Stores.{run_on}
use Rattle.decimal.specs.Decimal.{digit_byte, decimal, put_of}
use Rattle.decimal.proofs.Decimal.{decimal_small, decimal_more, decimal_few}

pub one_put : (o : List ℕ) (at n : ℕ) (o' : List ℕ) → n < 10 → o' ≡ set o (at + 0) (digit_byte n) → (1, o') ≡ put_of o at n
one_put o at n o' h e = rw (decimal_small n h) (ap (λ (l : List ℕ). (1, l)) (e ∙ ap (λ (k : ℕ). set o k (digit_byte n)) (add-zero at)))

pub more_put : (o : List ℕ) (at n k : ℕ) (o₁ o₂ : List ℕ) → 10 ≤ n → (k, o₁) ≡ put_of o at (n / 10) → o₂ ≡ set o₁ (at + k) (digit_byte (n % 10))
    → (k + 1, o₂) ≡ put_of o at n
more_put o at n k o₁ o₂ h p e =
    let s = decimal (n / 10) in
    let b = digit_byte (n % 10) in
    let count : k ≡ length s = ap (λ x. x.0) p in
    let more : k + 1 ≡ length (s ++ (b ∷ [])) = omega (arith, length-append s (b ∷ [])) in
    let l : at + k ≡ at + length s = omega arith in
    rw (decimal_more n h) (ap₂ (λ (j : ℕ) (o' : List ℕ). (j, o')) more (run_on o o₁ o₂ at (at + k) s (b ∷ []) (ap (λ x. x.1) p) l e))

-- A word has at most ten digits.
pub word_digits : (n : ℕ) → n < 4294967296 → length (decimal n) ≤ 10
word_digits n h = decimal_few 9 n (omega arith)
