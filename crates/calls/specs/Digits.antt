-- Document 02, change 2: X, "the number of binary digits of n".
use Rattle.std.specs.Prelude.{ℕ, zero, suc, ◌-◌, ◌/◌, ◌^◌, ◌≤◌, ◌<◌}

-- How many binary digits a number has: 0 has none, and any other number has one more than its half. The first number is how many are looked for, at most.
unfoldable pub digits_in : ℕ → ℕ → ℕ
digits_in zero n = 0
digits_in (suc k) zero = 0
digits_in (suc k) (suc n) = suc (digits_in k (suc n / 2))

-- n has at most n digits, so that to look for n is enough.
unfoldable pub digits : ℕ → ℕ
digits n = digits_in n n

-- The same by powers of two, for a number that is not 0: its digits are so many, and no other number of digits fits (`digits_are`, `digits_once`, proofs/Digits.antt).
pub record HasDigits (n d : ℕ) : Type 0 where
  pub low : 2 ^ (d - 1) ≤ n
  pub high : n < 2 ^ d
