-- The binary digits of a number: between which powers of two it lies, which settles how many there are, and that a word's leading zeros count the rest of its 32.
use mathlib.Core.Path.{◌≡◌, refl, sym, ap, ◌∙◌, subst}
use Prim.Native.Nat.{ℕ, zero, suc, ◌+◌, ◌-◌, ◌/◌, ◌^◌, ◌≤◌, ◌<◌}
use native.Mathlib.Nat.{le_antisymm, le_trans, lt_of_lt_of_le, lt_irrefl, zero-lt-suc, add-zero, add-suc}
use native.Mathlib.Decide.{dec_le}
use native.Mathlib.Omega.{arith}
use lib.Pow.{pow_mono, add-lt-pow, pow_pos}
use lib.Count.{count_leading_zeros, leading_of_zero, leading_top}
use Rattle.calls.specs.Digits.{digits_in, digits, HasDigits}

-- Of k digits some are leading zeros, and the others are counted.
zeros_and_digits : (k n : ℕ) → count_leading_zeros k n + digits_in k n ≡ k
unfolding count_leading_zeros digits_in
zeros_and_digits zero n = refl
zeros_and_digits (suc k) zero = add-zero (suc k)
zeros_and_digits (suc k) (suc n) = add-suc (count_leading_zeros k (suc n / 2)) (digits_in k (suc n / 2)) ∙ ap suc (zeros_and_digits k (suc n / 2))

below_power : (n : ℕ) → n < 2 ^ n
below_power zero = zero-lt-suc 0
below_power (suc n) = let h : n < 2 ^ n = below_power n in let k : 0 < 2 ^ n = pow_pos n in let d = add-lt-pow n h k in omega arith

-- k digits are enough for a number below 2 ^ k
in_range : (k n : ℕ) → 1 ≤ n → n < 2 ^ k → HasDigits n (digits_in k n)
in_range k n some below =
    let (j, whole, low, high) = leading_top k n some below in
    let all : count_leading_zeros k n + digits_in k n ≡ k = zeros_and_digits k n in
    let d : suc j ≡ digits_in k n = omega arith in
    let p : suc j - 1 ≡ j = omega arith in
    subst (HasDigits n) d (record { low = subst (λ e. 2 ^ e ≤ n) (sym p) low; high = high })

-- "The number of binary digits of n": 2 ^ (d - 1) ≤ n < 2 ^ d,
pub digits_are : (n : ℕ) → 1 ≤ n → HasDigits n (digits n)
unfolding digits
digits_are n some = in_range n n some (below_power n)

-- and there is no other such d.
pub digits_at_most : (n d k : ℕ) → HasDigits n d → n < 2 ^ k → d ≤ k
digits_at_most n d k h below = by_size (dec_le d k)
  where
    by_size : Dec (d ≤ k) → d ≤ k
    by_size (yes l) = l
    by_size (no f) =
        let under : k ≤ d - 1 = omega arith in
        absurd (lt_irrefl n (lt_of_lt_of_le below (le_trans (pow_mono under) h.low)))

pub digits_once : (n d e : ℕ) → HasDigits n d → HasDigits n e → d ≡ e
digits_once n d e h k = le_antisymm (digits_at_most n d e h k.high) (digits_at_most n e d k h.high)

-- A word has 32 digits, of which the leading zeros are none of the number's.
pub by_leading_zeros : (n : ℕ) → n < 2 ^ 32 → 32 - count_leading_zeros 32 n ≡ digits n
unfolding digits digits_in
by_leading_zeros zero below = rw (leading_of_zero 32) refl
by_leading_zeros (suc n) below =
    let all : count_leading_zeros 32 (suc n) + digits_in 32 (suc n) ≡ 32 = zeros_and_digits 32 (suc n) in
    let e : 32 - count_leading_zeros 32 (suc n) ≡ digits_in 32 (suc n) = omega arith in
    e ∙ digits_once (suc n) _ _ (in_range 32 (suc n) (zero-lt-suc n) below) (digits_are (suc n) (zero-lt-suc n))
