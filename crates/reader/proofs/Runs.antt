-- A run: how many bytes of a kind a text begins with. How it goes on at a position, and where it ends.
use mathlib.Core.Path.{◌≡◌, refl, ap}
use mathlib.Core.Bool.{Bool, true, false, cond}
use mathlib.Core.List.{List, [], ◌∷◌}
use Prim.Native.Nat.{ℕ, suc, ◌+◌, ◌≤◌}
use native.Mathlib.Omega.{arith}
use lib.ListN.{length, drop}
use Rattle.std.specs.List.{prefix_len}
use Rattle.text.specs.Bytes.{Class, class_of}
use Rattle.reader.specs.Scanning.{run_of}

module _ (kind : Class → Bool) where
  abbrev run : List ℕ → ℕ
  run s = run_of kind s

  pub run_fits : (s : List ℕ) → run s ≤ length s
  unfolding run_of
  run_fits [] = omega arith
  run_fits (b ∷ s) = (by_test (kind (class_of b)) (run_fits s))
    where
      by_test : (t : Bool) → run s ≤ length s → cond t (suc (run s)) 0 ≤ suc (length s)
      by_test true h = omega arith
      by_test false h = omega arith

  pub run_first : (b : ℕ) (s : List ℕ) → kind (class_of b) ≡ true → run (b ∷ s) ≡ suc (run s)
  unfolding run_of
  run_first b s h = rw h

  pub run_none : (b : ℕ) (s : List ℕ) → kind (class_of b) ≡ false → run (b ∷ s) ≡ 0
  unfolding run_of
  run_none b s h = rw h

  pub run_prefix : (s : List ℕ) → prefix_len (λ b. kind (class_of b)) s ≡ run s
  unfolding run_of
  run_prefix [] = refl
  run_prefix (b ∷ s) = ap (λ n. cond (kind (class_of b)) n 0) (let e : ◌≡◌ {A = ℕ} (1 + prefix_len (λ c. kind (class_of c)) s) (suc (run s)) = omega (arith, run_prefix s) in e)

  pub run_done : (s : List ℕ) → run (drop (run s) s) ≡ 0
  unfolding run_of
  run_done [] = refl
  run_done (b ∷ s) = by_test (kind (class_of b)) refl (run_done s)
    where
      by_test : (t : Bool) → kind (class_of b) ≡ t → run (drop (run s) s) ≡ 0 → run (drop (run (b ∷ s)) (b ∷ s)) ≡ 0
      by_test true e ih = rw (run_first b s e) ih
      by_test false e ih = rw (run_none b s e) (run_none b s e)
