-- What a look tells in a list of the third demand: the steps, the stop, the peak and the sum of forward by its count from a position (document 02, change 10), on the plain machine alone.
use Rattle.std.specs.Prelude.{◌≡◌, ℕ, zero, suc, ◌+◌, ◌-◌, ◌≤◌, max}
use Rattle.std.proofs.Math.Option.{some}
use Rattle.term.specs.Choice.{if_some}
use Rattle.term.specs.Table.{Table}
use Rattle.machine.specs.Machine.{State, after_from}
use Rattle.machine.specs.Carried.{carried_between}
use Rattle.calls.specs.Session.{refused}
use Rattle.calls.specs.Stops.{Room}
use Rattle.calls.specs.Weight.{weight}
use Rattle.calls.specs.Allowed.{stop_after, allowed}
use Rattle.calls.specs.Looks.{Look}

-- On the table T, from a state s₀ at position 0.
module _ (T : Table) (s₀ : State) where
  -- what the state after p steps weighs
  abbrev pub weight_after : ℕ → ℕ
  weight_after p = if_some (after_from T s₀ p) (λ s. weight T s) (λ _. 0)

  -- "The peak is the greatest such weight" (document 02, change 2), "first and last included": of the states after p steps, and after each of the k steps that follow.
  unfoldable pub peak_from : ℕ → ℕ → ℕ
  peak_from zero p = weight_after p
  peak_from (suc k) p = max (weight_after p) (peak_from k (suc p))

  -- The same in words (`peak_from_greatest`, proofs/Foretold.antt): none of these states weighs more than x, and one of them weighs x.
  pub record GreatestFrom (k p x : ℕ) : Type 0 where
    pub covered : (j : ℕ) → j ≤ k → weight_after (p + j) ≤ x
    pub reached : (j : ℕ) × (j ≤ k) × (weight_after (p + j) ≡ x)

-- The same with slices of the lengths in r.
module _ (T : Table) (s₀ : State) (r : Room) where
  -- A look by c at p: as many steps as the stops allow, the stop that then comes, with what is left of the count, the peak over the states from p to there and the words that the steps between carry. No step is made,
  -- and "the position and the count it looked from" are p and c.
  pub record Foretells (c p : ℕ) (l : Look) : Type 0 where
    pub steps_are : l.steps ≡ allowed T s₀ r c p
    pub stop_is : stop_after T s₀ r (c - allowed T s₀ r c p) (p + allowed T s₀ r c p) ≡ some l.stop
    pub peak_is : l.peak ≡ peak_from T s₀ (allowed T s₀ r c p) p
    pub carried_is : l.carried ≡ carried_between T s₀ p (p + allowed T s₀ r c p)
    pub unrefused : (k : ℕ) → l.stop ≡ refused k → ⊥
    pub position_is : l.position ≡ p
    pub count_is : l.count ≡ c
