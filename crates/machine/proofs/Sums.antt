-- Sums of what the plain machine's steps carry: by the first step, by the last one, and between two positions.
use mathlib.Core.Path.{◌≡◌, refl, sym, ap₂, ◌∙◌}
use mathlib.Core.Option.{some}
use Prim.Native.Nat.{ℕ, zero, suc, ◌+◌}
use native.Mathlib.Omega.{arith}
use Rattle.term.specs.Table.{Table}
use Rattle.machine.specs.Machine.{State, after_from}
use Rattle.machine.specs.Carried.{carried, carried_after, carried_over, carried_between}

module _ (T : Table) (s₀ : State) where
  pub after_carries : (p : ℕ) {s : State} → after_from T s₀ p ≡ some s → carried_after T s₀ p ≡ carried T s
  unfolding carried_after
  after_carries p e = rw e

  pub over_none : (p : ℕ) → carried_over T s₀ 0 p ≡ 0
  unfolding carried_over
  over_none p = refl

  pub over_first : (k p : ℕ) → carried_over T s₀ (suc k) p ≡ carried_after T s₀ p + carried_over T s₀ k (suc p)
  unfolding carried_over
  over_first k p = refl

  pub over_last : (k p q : ℕ) → p + k ≡ q → carried_over T s₀ (suc k) p ≡ carried_after T s₀ q + carried_over T s₀ k p
  over_last zero p q e =
      over_first 0 p ∙ ap₂ (λ i x. carried_after T s₀ i + x) (omega arith) (over_none (suc p) ∙ sym (over_none p))
  over_last (suc k) p q e =
      let more : carried_over T s₀ (suc k) (suc p) ≡ carried_after T s₀ q + carried_over T s₀ k (suc p) = over_last k (suc p) q (omega arith) in
      let first : carried_over T s₀ (suc k) p ≡ carried_after T s₀ p + carried_over T s₀ k (suc p) = over_first k p in
      over_first (suc k) p ∙ omega arith

  -- k steps on from p, and k steps back from it to q
  pub between_up : (k p : ℕ) → carried_over T s₀ k p ≡ carried_between T s₀ p (p + k)
  between_up k p = ap₂ (carried_over T s₀) (omega arith) (omega arith)

  pub between_down : (k p q : ℕ) → q + k ≡ p → carried_over T s₀ k q ≡ carried_between T s₀ p q
  between_down k p q e = ap₂ (carried_over T s₀) (omega arith) (omega arith)
