-- The digits of a number are those that `IsDecimal` describes, and no others are; and how many there are at most.
use mathlib.Core.Path.{◌≡◌, refl, sym, ap, ◌∙◌, subst⁻¹}
use mathlib.Core.Bool.{Bool, true, false}
use mathlib.Core.List.{List, [], ◌∷◌, ◌++◌, append-nil, append_assoc}
use Prim.Native.Nat.{ℕ, zero, suc, ◌+◌, ◌-◌, ◌*◌, ◌/◌, ◌%◌, ◌^◌, ◌≤◌, ◌<◌}
use native.Mathlib.Nat.{div-add-mod, mod-lt, div-lt_self, div-lt_iff_lt-mul, div-eq_of_lt, mul-add-div, mul-add-mod_self_left, mod-eq_of_lt, pow-suc}
use native.Mathlib.Omega.{arith}
use lib.ListN.{length, get_or, length-append}
use lib.Dec.{ltb}
use borrow.Author.Tests.{ltb-true, ltb-false, lt-ltb, le-ltb}
use Rattle.term.specs.Choice.{choose}
use Rattle.decimal.specs.Decimal.{digit_byte, decimal_in, decimal, AllDigits, value_after, IsDecimal}

-- One digit, or the digits of the tenth and the last one.
in_step : (k n : ℕ) → decimal_in (suc k) n ≡ choose (ltb n 10) (λ _. digit_byte n ∷ []) (λ _. decimal_in k (n / 10) ++ (digit_byte (n % 10) ∷ []))
unfolding decimal_in
in_step k n = refl

in_small : (k n : ℕ) → n < 10 → decimal_in (suc k) n ≡ digit_byte n ∷ []
in_small k n h = in_step k n ∙ rw (lt-ltb n 10 h)

in_more : (k n : ℕ) → 10 ≤ n → decimal_in (suc k) n ≡ decimal_in k (n / 10) ++ (digit_byte (n % 10) ∷ [])
in_more k n h = in_step k n ∙ rw (le-ltb n 10 h)

tenth_less : (n : ℕ) → 10 ≤ n → n / 10 < n
tenth_less n h = div-lt_self {n = n} {k = 10} (omega arith) (omega arith)

-- A number is below 10, or it is not.
by_size : {A : Type 0} (n : ℕ) → (n < 10 → A) → (10 ≤ n → A) → A
by_size {A} n small more = by_test (ltb n 10) (ltb-true n 10) (ltb-false n 10)
  where
    by_test : (t : Bool) → (t ≡ true → n < 10) → (t ≡ false → 10 ≤ n) → A
    by_test true s m = small (s refl)
    by_test false s m = more (m refl)

-- What is found does not depend on how many are looked for, once these suffice.
steady : (j k n : ℕ) → n < j → n < k → decimal_in j n ≡ decimal_in k n
steady zero k n h i = absurd (omega arith)
steady (suc j) zero n h i = absurd (omega arith)
steady (suc j) (suc k) n h i =
    by_size n
    (λ l. in_small j n l ∙ sym (in_small k n l))
    (λ l.
    let t = tenth_less n l in
    in_more j n l
    ∙ ap (λ (s : List ℕ). s ++ (digit_byte (n % 10) ∷ [])) (steady j k (n / 10) (omega arith) (omega arith))
    ∙ sym (in_more k n l))

pub decimal_small : (n : ℕ) → n < 10 → decimal n ≡ digit_byte n ∷ []
unfolding decimal
decimal_small n h = in_small n n h

pub decimal_more : (n : ℕ) → 10 ≤ n → decimal n ≡ decimal (n / 10) ++ (digit_byte (n % 10) ∷ [])
unfolding decimal
decimal_more n h =
    in_more n n h
    ∙ ap (λ (s : List ℕ). s ++ (digit_byte (n % 10) ∷ [])) (steady n (suc (n / 10)) (n / 10) (tenth_less n h) (omega arith))

-- What holds of each digit, and of a number where it holds of its tenth, holds of every number.
up_to : (P : ℕ → Type 0) → ((n : ℕ) → n < 10 → P n) → ((n : ℕ) → 10 ≤ n → P (n / 10) → P n) → (k n : ℕ) → n < k → P n
up_to P small more zero n h = absurd (omega arith)
up_to P small more (suc k) n h =
    by_size n (small n) (λ l. more n l (up_to P small more k (n / 10) (let t = tenth_less n l in omega arith)))

by_tenths : (P : ℕ → Type 0) → ((n : ℕ) → n < 10 → P n) → ((n : ℕ) → 10 ≤ n → P (n / 10) → P n) → (n : ℕ) → P n
by_tenths P small more n = up_to P small more (suc n) n (omega arith)

-- digits, one more, and their value
all_snoc : (s : List ℕ) (b : ℕ) → AllDigits s → 48 ≤ b → b ≤ 57 → AllDigits (s ++ (b ∷ []))
all_snoc [] b h l u = (l, u, tt)
all_snoc (c ∷ s) b h l u = (h.0, h.1, all_snoc s b h.2 l u)

value_snoc : (v : ℕ) (s : List ℕ) (b : ℕ) → value_after v (s ++ (b ∷ [])) ≡ 10 * value_after v s + (b - 48)
value_snoc v [] b = refl
value_snoc v (c ∷ s) b = value_snoc (10 * v + (c - 48)) s b

first_snoc : (s : List ℕ) (b : ℕ) → 1 ≤ length s → get_or (s ++ (b ∷ [])) 0 0 ≡ get_or s 0 0
first_snoc [] b h = absurd (omega arith)
first_snoc (c ∷ s) b h = refl

-- The digits of a number are as described, and the first is no 0 but where the number is.
abbrev Spelt : ℕ → List ℕ → Type 0
Spelt n s = IsDecimal s n × (1 ≤ n → 48 < get_or s 0 0)

spelt_one : (n : ℕ) → n < 10 → Spelt n (digit_byte n ∷ [])
spelt_one n h = (record { some_digit = omega arith; digits = (omega arith, omega arith, tt); value = omega arith; no_zero = λ e. refl }, λ l. omega arith)

spelt_more : (n : ℕ) (s : List ℕ) → 10 ≤ n → Spelt (n / 10) s → Spelt n (s ++ (digit_byte (n % 10) ∷ []))
spelt_more n s h t =
    let d = div-add-mod n 10 in
    let m : n % 10 < 10 = mod-lt n {m = 10} (omega arith) in
    let b = digit_byte (n % 10) in
    let first : 48 < get_or (s ++ (b ∷ [])) 0 0 = rw (first_snoc s b t.0.some_digit) (t.1 (omega arith)) in (
      record {
        some_digit = omega (arith, length-append s (b ∷ []));
        digits = all_snoc s b t.0.digits (omega arith) (omega arith);
        value = value_snoc 0 s b ∙ omega (arith, t.0.value);
        no_zero = λ e. absurd (omega arith);
      },
      λ l. first,
    )

pub decimal_is : (n : ℕ) → IsDecimal (decimal n) n
decimal_is n =
    (by_tenths (λ m. Spelt m (decimal m))
    (λ m h. subst⁻¹ (Spelt m) (decimal_small m h) (spelt_one m h))
    (λ m h t. subst⁻¹ (Spelt m) (decimal_more m h) (spelt_more m (decimal (m / 10)) h t))
    n).0

-- No other bytes are.
after_digits : (v : ℕ) (s : List ℕ) → 1 ≤ v → AllDigits s → decimal (value_after v s) ≡ decimal v ++ s
after_digits v [] l h = sym (append-nil (decimal v))
after_digits v (b ∷ s) l h =
    let d : b - 48 < 10 = omega (arith, h.1) in
    let u = 10 * v + (b - 48) in
    let q : u / 10 ≡ v = mul-add-div {m = 10} (omega arith) v (b - 48) ∙ ap (λ (k : ℕ). v + k) (div-eq_of_lt d) ∙ omega arith in
    let r : u % 10 ≡ b - 48 = mul-add-mod_self_left 10 v (b - 48) ∙ mod-eq_of_lt d in
    let c : digit_byte (b - 48) ≡ b = omega (arith, h.0) in
    after_digits u s (omega arith) h.2
    ∙ ap (λ (x : List ℕ). x ++ s) (let e : decimal u ≡ decimal v ++ (b ∷ []) = decimal_more u (omega arith) ∙ rw (q, r, c) in e)
    ∙ append_assoc (decimal v) (b ∷ []) s

pub decimal_only : (s : List ℕ) (n : ℕ) → IsDecimal s n → s ≡ decimal n
decimal_only [] n h = absurd (omega (arith, h.some_digit))
decimal_only (b ∷ []) n h =
    let v : b - 48 ≡ n = omega (arith, h.value) in
    let c : b ≡ digit_byte n = omega (arith, h.digits.0) in
    ap (λ (x : ℕ). x ∷ []) c ∙ sym (decimal_small n (omega (arith, h.digits.1)))
decimal_only (b ∷ c ∷ s) n h =
    let d : b - 48 < 10 = omega (arith, h.digits.1) in
    let not_zero : b ≡ 48 → ⊥ = λ e. let alone = h.no_zero e in omega arith in
    let some : 1 ≤ b - 48 = omega (arith, h.digits.0) in
    let q : digit_byte (b - 48) ≡ b = omega (arith, h.digits.0) in
    let z : b - 48 ≡ 10 * 0 + (b - 48) = omega arith in
    let v : value_after (b - 48) (c ∷ s) ≡ n = ap (λ (k : ℕ). value_after k (c ∷ s)) z ∙ h.value in
    sym (ap decimal (sym v) ∙ after_digits (b - 48) (c ∷ s) some h.digits.2 ∙ rw (decimal_small (b - 48) d, q))

-- So no two numbers have the same digits.
pub decimal_apart : (m n : ℕ) → decimal m ≡ decimal n → m ≡ n
decimal_apart m n e = sym (decimal_is m).value ∙ ap (value_after 0) e ∙ (decimal_is n).value

-- A number below 10 ^ (k + 1) has at most k + 1 digits.
pub decimal_few : (k n : ℕ) → n < 10 ^ suc k → length (decimal n) ≤ suc k
decimal_few zero n h = omega (arith, ap length (decimal_small n (omega arith)))
decimal_few (suc k) n h =
    by_size n
    (λ l. omega (arith, ap length (decimal_small n l)))
    (λ l.
    let t : n / 10 < 10 ^ suc k = (div-lt_iff_lt-mul {k = 10} {x = n} {y = 10 ^ suc k} (omega arith)).1 (rw (pow-suc 10 (suc k)) at h) in
    omega (arith, decimal_few k (n / 10) t, ap length (decimal_more n l), length-append (decimal (n / 10)) (digit_byte (n % 10) ∷ [])))
