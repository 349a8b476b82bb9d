-- Decimal numbers: the bytes of a number's digits, the most significant first, with no zero in front; and what putting them into a slice answers and leaves.
use Rattle.std.specs.Prelude.{◌≡◌, List, [], ◌∷◌, ◌++◌, ℕ, zero, suc, ◌+◌, ◌-◌, ◌*◌, ◌/◌, ◌%◌, ◌≤◌, length, get_or, ltb}
use Rattle.std.proofs.lemmas.List.Edits.{sets}
use Rattle.term.specs.Choice.{choose}

-- `0` to `9`
abbrev pub digit_byte : ℕ → ℕ
digit_byte d = 48 + d

-- A number below 10 is its digit, and any other the digits of its tenth and then its last digit. The first number is how many are looked for, at most.
unfoldable pub decimal_in : ℕ → ℕ → List ℕ
decimal_in zero n = []
decimal_in (suc k) n = choose (ltb n 10) (λ _. digit_byte n ∷ []) (λ _. decimal_in k (n / 10) ++ (digit_byte (n % 10) ∷ []))

-- No number n has more than n + 1 digits.
unfoldable pub decimal : ℕ → List ℕ
decimal n = decimal_in (suc n) n

-- The same by what the bytes are, for the theorems `decimal_is` and `decimal_only` (proofs/Decimal.antt): one or more digits,
abbrev pub AllDigits : List ℕ → Type 0
AllDigits [] = Unit
AllDigits (b ∷ s) = (48 ≤ b) × (b ≤ 57) × AllDigits s

-- whose value, each ten times the next,
abbrev pub value_after : ℕ → List ℕ → ℕ
value_after v [] = v
value_after v (b ∷ s) = value_after (10 * v + (b - 48)) s

-- is the number, and of which the first is 0 only where it is alone.
pub record IsDecimal (s : List ℕ) (n : ℕ) : Type 0 where
  pub some_digit : 1 ≤ length s
  pub digits : AllDigits s
  pub value : value_after 0 s ≡ n
  pub no_zero : get_or s 0 0 ≡ digit_byte 0 → length s ≡ 1

-- What putting a number into a slice answers and leaves: how many digits there are, and the slice with these from index `at` on, as far as there is room.
abbrev pub put_of : List ℕ → ℕ → ℕ → ℕ × List ℕ
put_of out at n = (length (decimal n), sets out at (decimal n))
