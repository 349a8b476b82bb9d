-- Visits on the plain machine: the tests of positions find the last one before a position, and the first one after it.
use mathlib.Core.Path.{◌≡◌, refl, sym, ap, ◌∙◌, subst}
use mathlib.Core.Bool.{Bool, true, false}
use mathlib.Core.Option.{Option, none, some, some-injective}
use Prim.Native.Nat.{ℕ, zero, suc, ◌+◌, ◌≤◌, ◌<◌}
use native.Mathlib.Decide.{dec_le}
use native.Mathlib.Omega.{arith}
use Rattle.term.specs.Table.{Table}
use Rattle.machine.specs.Machine.{State, after_from}
use Rattle.calls.specs.Visits.{Spot, StandsOn, is_on}
use Rattle.calls.specs.Visited.{VisitedAt, visited_at, last_visit, next_visit, LastBefore, FirstAfter}
use Rattle.calls.proofs.Visits.{on_spot, is_on_lem}

module _ (T : Table) (s₀ : State) (v : Spot) where
  -- the state after q steps, and whether it is a visit
  module _ (q : ℕ) {s : State} (a : after_from T s₀ q ≡ some s) where
    pub stood_on : StandsOn v s → VisitedAt T s₀ v q
    stood_on h = (s, a, h)

    pub stands_on : VisitedAt T s₀ v q → StandsOn v s
    stands_on h = subst (StandsOn v) (some-injective h.0 s (sym h.1 ∙ a)) h.2

  seen : (q : ℕ) → VisitedAt T s₀ v q → visited_at T s₀ v q ≡ true
  seen q h = rw h.1 (is_on_lem v h.0 h.2)

  unseen : (q : ℕ) → (VisitedAt T s₀ v q → ⊥) → visited_at T s₀ v q ≡ false
  unseen q away = by_state (after_from T s₀ q) refl
    where
      by_spot : (s : State) → after_from T s₀ q ≡ some s → (b : Bool) → is_on v s ≡ b → visited_at T s₀ v q ≡ false
      by_spot s a true h = absurd (away (s, a, on_spot v s h))
      by_spot s a false h = rw (a, h)

      by_state : (o : Option State) → after_from T s₀ q ≡ o → visited_at T s₀ v q ≡ false
      by_state none a = rw a
      by_state (some s) a = by_spot s a (is_on v s) refl

  -- before p
  pub last_found : (p q : ℕ) → LastBefore T s₀ v p q → last_visit T s₀ v p ≡ some q
  unfolding last_visit
  last_found zero q h = let l = h.earlier in absurd (omega arith)
  last_found (suc p) q h = by_place (last_found p q) (dec_le p q)
    where
      by_place : (LastBefore T s₀ v p q → last_visit T s₀ v p ≡ some q) → Dec (p ≤ q) → last_visit T s₀ v (suc p) ≡ some q
      by_place more (yes l) = let e : q ≡ p = (let k = h.earlier in omega arith) in rw (seen _ (subst (VisitedAt T s₀ v) e h.visited)) (ap some (sym e))
      by_place more (no l) =
          let before : q < p = omega arith in
          rw (unseen _ (h.last p before (omega arith))) (more (record { earlier = before; visited = h.visited; last = λ i a b. h.last i a (omega arith) }))

  pub last_none : (p : ℕ) → ((i : ℕ) → i < p → VisitedAt T s₀ v i → ⊥) → last_visit T s₀ v p ≡ none
  unfolding last_visit
  last_none zero away = refl
  last_none (suc p) away = rw (unseen _ (away p (omega arith))) (last_none p (λ i l. away i (omega arith)))

  -- after p
  pub next_found : (k p q : ℕ) → FirstAfter T s₀ v p (p + k) q → next_visit T s₀ v k p ≡ some q
  unfolding next_visit
  next_found zero p q h = let l = h.later in let g = h.within in absurd (omega arith)
  next_found (suc k) p q h = by_place (next_found k (suc p) q) (dec_le q (suc p))
    where
      by_place : (FirstAfter T s₀ v (suc p) (suc p + k) q → next_visit T s₀ v k (suc p) ≡ some q) → Dec (q ≤ suc p) → next_visit T s₀ v (suc k) p ≡ some q
      by_place more (yes l) = let e : q ≡ suc p = (let g = h.later in omega arith) in rw (seen _ (subst (VisitedAt T s₀ v) e h.visited)) (ap some (sym e))
      by_place more (no l) =
          let after : suc p < q = omega arith in
          let g : q ≤ p + suc k = h.within in
          rw (unseen _ (h.first (suc p) (omega arith) after)) (more (record { later = after; within = omega arith; visited = h.visited; first = λ i a b. h.first i (omega arith) b }))

  pub next_none : (k p : ℕ) → ((i : ℕ) → p < i → i ≤ p + k → VisitedAt T s₀ v i → ⊥) → next_visit T s₀ v k p ≡ none
  unfolding next_visit
  next_none zero p away = refl
  next_none (suc k) p away = rw (unseen _ (away (suc p) (omega arith) (omega arith))) (next_none k (suc p) (λ i a b. away i (omega arith) (omega arith)))
