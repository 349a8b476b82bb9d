-- Words in a list's slice: where they lie, what is left when the top ones go, and how others come onto them.
use mathlib.Core.Path.{◌≡◌, sym, ap, ap₂, ◌∙◌}
use mathlib.Core.List.{List, [], ◌∷◌, ◌++◌, reverse, append_assoc, append-nil}
use Prim.Native.Nat.{ℕ, zero, suc, ◌+◌, ◌-◌, ◌≤◌, ◌<◌}
use native.Mathlib.Omega.{arith}
use lib.ListN.{length, take, drop, get_or, set, replicate, length-append, length-reverse, length-replicate, replicate-append-replicate, drop_of_length-le}
use lib.Seq.{take_at, drop_at, take_all, set_at, get_or_at}
use borrow.Rule.Slice.PartMut.{put_mid}
use Rattle.machine.specs.Slice.{slice}
use Rattle.machine.proofs.Load.{reverse_apart, words_above, slice_length, slice_front}

-- The words ws, from the top, below index n of a slice, and zeros above them.
pub record Lies (s : List ℕ) (n : ℕ) (ws : List ℕ) : Type 0 where
  pub fits : n ≤ length s
  pub many : n ≡ length ws
  pub words : s ≡ slice (length s) ws

-- The same with any words above them.
pub record Stacked (s : List ℕ) (n : ℕ) (ws above : List ℕ) : Type 0 where
  pub many : n ≡ length ws
  pub words : s ≡ reverse ws ++ above

-- A slice keeps its length.
pub lies_in : (room : ℕ) (ws ls : List ℕ) → length ws ≤ room → ls ≡ slice room ws → (length ls ≡ room) × (ls ≡ slice (length ls) ws)
lies_in room ws ls h lies =
    let same : length ls ≡ room = ap length lies ∙ slice_length room ws h in
    (same, lies ∙ ap (λ r. slice r ws) (sym same))

-- what lies above the top
above_top : (room : ℕ) (ws : List ℕ) → drop (length ws) (slice room ws) ≡ replicate (room - length ws) 0
unfolding slice
above_top room ws = drop_at (reverse ws) _ (length ws) (length-reverse ws)

zeros_less : (k n : ℕ) → drop {A = ℕ} k (replicate n 0) ≡ replicate (n - k) 0
zeros_less zero n = let e : n ≡ n - 0 = omega arith in ap (λ j. replicate {A = ℕ} j 0) e
zeros_less (suc k) zero = let e : 0 ≡ 0 - suc k = omega arith in ap (λ j. replicate {A = ℕ} j 0) e
zeros_less (suc k) (suc n) = let e : n - k ≡ suc n - suc k = omega arith in zeros_less k n ∙ ap (λ j. replicate {A = ℕ} j 0) e

pub zeros_all : (n : ℕ) → take {A = ℕ} n (replicate n 0) ≡ replicate n 0
zeros_all n = take_all n (replicate {A = ℕ} n 0) (omega (arith, length-replicate {A = ℕ} n 0))

zeros_none : (n : ℕ) → drop {A = ℕ} n (replicate n 0) ≡ []
zeros_none n = drop_of_length-le (replicate {A = ℕ} n 0) {i = n} (omega (arith, length-replicate {A = ℕ} n 0))

-- The words xs above the words ys, and others above stack_of.
module _ (xs ys above : List ℕ) where
  abbrev stack_of : List ℕ
  stack_of = reverse (xs ++ ys) ++ above

  under_xs : length (reverse ys) ≡ length (xs ++ ys) - length xs
  under_xs = simp (length-reverse, length-append) (omega arith)

  -- what is left where xs go and zeros come into their place
  pub taken_off : take (length (xs ++ ys) - length xs) stack_of ++ (replicate (length xs) 0 ++ drop (length (xs ++ ys)) stack_of) ≡ reverse ys ++ (replicate (length xs) 0 ++ above)
  taken_off =
      ap₂ (λ p q. p ++ (replicate (length xs) 0 ++ q))
      (ap (take (length (xs ++ ys) - length xs)) (reverse_apart xs ys above) ∙ take_at (reverse ys) _ (length (xs ++ ys) - length xs) under_xs)
      (drop_at (reverse (xs ++ ys)) above (length (xs ++ ys)) (length-reverse (xs ++ ys)))

  -- and what goes
  pub taken_words : take (length xs) (drop (length (xs ++ ys) - length xs) stack_of) ≡ reverse xs
  taken_words = ap (λ k. take (length xs) (drop k stack_of)) (sym under_xs ∙ length-reverse ys) ∙ words_above xs ys above

-- Zeros above the words ys make the slice in which they lie alone.
pub zeros_over : (room : ℕ) (ys : List ℕ) (i j : ℕ) → i + j ≡ room - length ys → reverse ys ++ (replicate i 0 ++ replicate j 0) ≡ slice room ys
unfolding slice
zeros_over room ys i j e = ap (λ q. reverse ys ++ q) (replicate-append-replicate i j 0 ∙ ap (λ j. replicate j 0) e)

-- The words xs come onto ys: the part above ys was lent, and came back with xs at its front.
pub put_on : (room : ℕ) (xs ys part : List ℕ) → length xs + length ys ≤ room
    → part ≡ reverse xs ++ drop (length xs) (take (room - length ys) (drop (length ys) (slice room ys)))
    → put_mid (length ys) (room - length ys) (slice room ys) part ≡ slice room (xs ++ ys)
unfolding slice
put_on room xs ys part h came =
    let gap : room - length ys - length xs ≡ room - length (xs ++ ys) = omega (arith, length-append xs ys) in
    let lent : part ≡ reverse xs ++ replicate (room - length (xs ++ ys)) 0 =
    came
    ∙ ap (λ q. reverse xs ++ drop (length xs) q) (ap (take (room - length ys)) (above_top room ys) ∙ zeros_all (room - length ys))
    ∙ ap (λ q. reverse xs ++ q) (zeros_less (length xs) (room - length ys) ∙ ap (λ j. replicate {A = ℕ} j 0) gap) in
    let none : drop (room - length ys) (drop (length ys) (slice room ys)) ≡ [] = ap (drop (room - length ys)) (above_top room ys) ∙ zeros_none (room - length ys) in
    ap₂ (λ p q. p ++ q) (slice_front room ys) (ap₂ (λ p q. p ++ q) lent none ∙ append-nil _) ∙ sym (reverse_apart xs ys _)

-- One word v above the words ws.
module _ (room v : ℕ) (ws : List ℕ) (h : length ws < room) where
  pub with_one : slice room (v ∷ ws) ≡ reverse ws ++ (v ∷ replicate (room - suc (length ws)) 0)
  unfolding slice
  with_one = reverse_apart (v ∷ []) ws (replicate (room - suc (length ws)) 0)

  without_one : slice room ws ≡ reverse ws ++ (0 ∷ replicate (room - suc (length ws)) 0)
  unfolding slice
  without_one = let gap : room - length ws ≡ suc (room - suc (length ws)) = omega arith in ap (λ j. reverse ws ++ replicate {A = ℕ} j 0) gap

  pub top_word : get_or (slice room (v ∷ ws)) (length ws) 0 ≡ v
  top_word = ap (λ q. get_or q (length ws) 0) with_one ∙ get_or_at (reverse ws) v _ 0 (length ws) (length-reverse ws)

-- The word 0 on top of the words ws is the word 0 above them.
pub zero_above : (room : ℕ) (ws : List ℕ) → length ws < room → slice room (0 ∷ ws) ≡ slice room ws
zero_above room ws h = with_one room 0 ws h ∙ sym (without_one room 0 ws h)

-- A word above zeros that are above ys, once it is made 0.
pub zeroed : (room v : ℕ) (ys : List ℕ) (i n j : ℕ) → n ≡ length ys + i → suc (i + j) ≡ room - length ys
    → set (reverse ys ++ (replicate i 0 ++ (v ∷ replicate j 0))) n 0 ≡ slice room ys
zeroed room v ys i n j at gap =
    let below : length (reverse ys ++ replicate {A = ℕ} i 0) ≡ n = simp (length-append, length-reverse, length-replicate) (omega arith) in
    let e : i + suc j ≡ room - length ys = omega arith in
    ap (λ q. set q n 0) (sym (append_assoc (reverse ys) (replicate i 0) (v ∷ replicate j 0)))
    ∙ set_at (reverse ys ++ replicate i 0) v (replicate j 0) 0 n below
    ∙ append_assoc (reverse ys) (replicate i 0) (0 ∷ replicate j 0)
    ∙ zeros_over room ys i (suc j) e
