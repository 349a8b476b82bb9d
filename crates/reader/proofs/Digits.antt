-- The digits that stand at a place, and their value cut at a bound.
use mathlib.Core.Path.{◌≡◌, refl, sym, ap, ◌∙◌}
use mathlib.Core.Bool.{Bool, true, false, cond}
use mathlib.Core.List.{List, [], ◌∷◌}
use Prim.Native.Nat.{ℕ, suc, ◌+◌, ◌*◌, ◌-◌, min, ◌≤◌, ◌<◌}
use native.Mathlib.Numerals.{add-one}
use native.Mathlib.Omega.{arith}
use lib.ListN.{length, get_or, take, drop, length-append, length-drop}
use lib.Seq.{drop-drop, drop-cons}
use lib.Dec.{ltb}
use borrow.Author.Tests.{ltb-true, ltb-false, le-ltb}
use Rattle.decimal.specs.Decimal.{value_after}
use Rattle.std.specs.List.{take_while, prefix_len}
use Rattle.text.specs.Bytes.{class_of, is_digit}
use Rattle.text.specs.NumberParse.{digits_first}
use Rattle.text.proofs.NumberParse.{digits_then}
use Rattle.reader.specs.Numbers.{word_under}

pub digits_while : (s : List ℕ) → take_while (λ b. is_digit (class_of b)) s ≡ digits_first s
unfolding digits_first
digits_while [] = refl
digits_while (b ∷ s) = by_test (is_digit (class_of b)) (digits_while s)
  where
    many : ℕ
    many = prefix_len (λ c. is_digit (class_of c)) s

    by_test : (t : Bool) → take many s ≡ digits_first s → take (cond t (1 + many) 0) (b ∷ s) ≡ cond t (b ∷ digits_first s) []
    by_test true e = let n : 1 + many ≡ suc many = omega arith in rw n (ap (λ l. b ∷ l) e)
    by_test false e = refl

-- The digits at a place of a text end within it, and what is left after them.
module _ (text : List ℕ) (at end : ℕ) (within : at ≤ length text) (e : end ≡ at + length (digits_first (drop at text))) where
  pub digits_within : end ≤ length text
  digits_within =
      let ds = digits_first (drop at text) in
      omega (arith, e, ap length (digits_then (drop at text)), length-append ds (drop (length ds) (drop at text)), length-drop at text)

  pub digits_left : drop end text ≡ drop (length (digits_first (drop at text))) (drop at text)
  digits_left = ap (λ k. drop k text) e ∙ sym (drop-drop (length (digits_first (drop at text))) at text)

-- The value of digits, one by one: it grows with each.
pub value_grows : (s : List ℕ) (v : ℕ) → v ≤ value_after v s
value_grows [] v = omega arith
value_grows (b ∷ s) v = omega (arith, value_grows s (10 * v + (b - 48)))

-- It may be cut at a bound before the next digit, where what is left over the bound does not matter.
pub value_cut : (d v : ℕ) (s : List ℕ) → min d (value_after (min d v) s) ≡ min d (value_after v s)
value_cut d v s = by_order (ltb d v) refl
  where
    by_order : (t : Bool) → ltb d v ≡ t → min d (value_after (min d v) s) ≡ min d (value_after v s)
    by_order true e =
        let m : min d v ≡ d = omega (arith, ltb-true d v e) in
        rw m (omega (arith, ltb-true d v e, value_grows s d, value_grows s v))
    by_order false e = let m : min d v ≡ v = omega (arith, ltb-false d v e) in rw m

pub value_next : (d v : ℕ) (s : List ℕ) (i : ℕ) → i < length s
    → min d (value_after (min d (10 * v + (get_or s i 0 - 48))) (drop (i + 1) s)) ≡ min d (value_after v (drop i s))
value_next d v s i h = value_cut d (10 * v + (get_or s i 0 - 48)) (drop (i + 1) s) ∙ rw (drop-cons s i 0, add-one i)

-- The word of a number that reaches past the binders.
pub word_past : (d v : ℕ) → d ≤ v → word_under d v ≡ 0
word_past d v h = rw (le-ltb v d h)
