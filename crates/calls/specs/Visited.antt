-- The visits of a spot on the plain machine alone (document 02, change 5): the last one before a position, and the first one after it.
use Rattle.std.specs.Prelude.{◌≡◌, Bool, false, ℕ, zero, suc, ◌≤◌, ◌<◌}
use Rattle.std.proofs.Math.Option.{Option, none, some}
use Rattle.term.specs.Choice.{if_some, choose}
use Rattle.term.specs.Table.{Table}
use Rattle.machine.specs.Machine.{State, after_from}
use Rattle.calls.specs.Visits.{Spot, StandsOn, is_on}

-- On the table T, from a state s₀ at position 0.
module _ (T : Table) (s₀ : State) where
  -- The token stands on the spot after q steps: in words, and as a test.
  abbrev pub VisitedAt : Spot → ℕ → Type 0
  VisitedAt v q = (s : State) × (after_from T s₀ q ≡ some s) × StandsOn v s

  abbrev pub visited_at : Spot → ℕ → Bool
  visited_at v q = if_some (after_from T s₀ q) (λ s. is_on v s) (λ _. false)

  -- "the last earlier position at which the token stood on a chosen node in a chosen direction": of those from 0 to p - 1,
  unfoldable pub last_visit : Spot → ℕ → Option ℕ
  last_visit v zero = none
  last_visit v (suc p) = choose (visited_at v p) (λ _. some p) (λ _. last_visit v p)

  -- "and the next later one": of the k positions after p.
  unfoldable pub next_visit : Spot → ℕ → ℕ → Option ℕ
  next_visit v zero p = none
  next_visit v (suc k) p = choose (visited_at v (suc p)) (λ _. some (suc p)) (λ _. next_visit v k (suc p))

  -- The same in words, which these find (`last_found`, `last_none`, `next_found` and `next_none`, proofs/Visited.antt): q is the last visit before p,
  pub record LastBefore (v : Spot) (p q : ℕ) : Type 0 where
    pub earlier : q < p
    pub visited : VisitedAt v q
    pub last : (i : ℕ) → q < i → i < p → VisitedAt v i → ⊥

  -- or the first after p, and not after the position `most`.
  pub record FirstAfter (v : Spot) (p most q : ℕ) : Type 0 where
    pub later : p < q
    pub within : q ≤ most
    pub visited : VisitedAt v q
    pub first : (i : ℕ) → p < i → i < q → VisitedAt v i → ⊥
