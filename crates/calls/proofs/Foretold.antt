-- A look in a list of the third demand tells what forward by its count comes to on the plain machine.
use mathlib.Core.Path.{◌≡◌, refl, ap, ap₂, ◌∙◌}
use Prim.Native.Nat.{ℕ, zero, suc, ◌+◌, ◌≤◌, max, zero-le}
use native.Mathlib.Nat.{add-zero, le_of_suc-le-suc}
use native.Mathlib.Decide.{dec_le}
use native.Mathlib.Omega.{arith}
use Rattle.term.specs.Table.{Table}
use Rattle.machine.specs.Machine.{State}
use Rattle.calls.specs.Session.{Given}
use Rattle.calls.specs.Stops.{forward, Moment, beginning, moment_after, Room}
use Rattle.calls.specs.Weight.{weight}
use Rattle.calls.specs.Winding.{wind}
use Rattle.calls.specs.Calls.{wound}
use Rattle.calls.specs.Looks.{looked}
use Rattle.calls.specs.Foretold.{weight_after, peak_from, GreatestFrom, Foretells}
use Rattle.calls.proofs.Winds.{each_run}
use Rattle.calls.proofs.Visits.{wind_unrefused}
use Rattle.calls.proofs.Runs.{Trail, trail_after, trail_on}
use Rattle.calls.proofs.MoveLaws.{Stood}
use Rattle.calls.proofs.Counts.{counted, stops_there, forward_arrives}

-- The peak over the states from a position on is the greatest of their weights.
module _ (T : Table) (s₀ : State) where
  -- one state more, before the others
  module _ (k p : ℕ) (h : GreatestFrom T s₀ k (suc p) (peak_from T s₀ k (suc p))) where
    further : (j : ℕ) → weight_after T s₀ (p + suc j) ≡ weight_after T s₀ (suc p + j)
    further j = let e : p + suc j ≡ suc p + j = omega arith in ap (weight_after T s₀) e

    covered_before : (j : ℕ) → j ≤ suc k → weight_after T s₀ (p + j) ≤ max (weight_after T s₀ p) (peak_from T s₀ k (suc p))
    covered_before zero l = let e : weight_after T s₀ (p + 0) ≡ weight_after T s₀ p = ap (weight_after T s₀) (add-zero p) in omega arith
    covered_before (suc j) l = omega (arith, further j, h.covered j (le_of_suc-le-suc l))

    reached_before : Dec (peak_from T s₀ k (suc p) ≤ weight_after T s₀ p)
        → (j : ℕ) × (j ≤ suc k) × (weight_after T s₀ (p + j) ≡ max (weight_after T s₀ p) (peak_from T s₀ k (suc p)))
    reached_before (yes first) = (0, zero-le, ap (weight_after T s₀) (add-zero p) ∙ omega arith)
    reached_before (no first) =
        let (j, within, is) = h.reached in
        (suc j, omega arith, further j ∙ is ∙ omega arith)

  pub peak_from_greatest : (k p : ℕ) → GreatestFrom T s₀ k p (peak_from T s₀ k p)
  unfolding peak_from
  peak_from_greatest zero p = record { covered = alone; reached = (0, zero-le, ap (weight_after T s₀) (add-zero p)) }
    where
      alone : (j : ℕ) → j ≤ 0 → weight_after T s₀ (p + j) ≤ weight_after T s₀ p
      alone zero l = let e : weight_after T s₀ (p + 0) ≡ weight_after T s₀ p = ap (weight_after T s₀) (add-zero p) in omega arith
      alone (suc j) l = absurd (omega arith)
  peak_from_greatest (suc k) p =
      let h = peak_from_greatest k (suc p) in
      record { covered = covered_before k p h; reached = reached_before k p h (dec_le (peak_from T s₀ k (suc p)) (weight_after T s₀ p)) }

module _ (T : Table) (r : Room) (s₀ : State) where
  weighs_so : (m : Moment) (p : ℕ) → Trail T r (beginning s₀) p m → weight T m.state ≡ weight_after T s₀ p
  weighs_so m p t = rw (trail_after T r (beginning s₀) t)

  -- The peak of a run forward is over the plain machine's states.
  forward_peaks : (c : ℕ) (m : Moment) (p : ℕ) → Trail T r (beginning s₀) p m → (wind forward T r c m).peak ≡ peak_from T s₀ (wind forward T r c m).steps p
  unfolding peak_from
  forward_peaks =
      each_run forward T r (λ c m run. (p : ℕ) → Trail T r (beginning s₀) p m → run.peak ≡ peak_from T s₀ run.steps p)
      (λ m p t. weighs_so m p t)
      (λ c m x e p t. weighs_so m p t)
      (λ c m u run e n more p t. ap₂ max (weighs_so m p t) (more (suc p) (trail_on T r (beginning s₀) c m u e n t)))

  pub foretells : (p : ℕ) (s : State) → Stood T r s₀ p (moment_after T s₀ p s) → (c : ℕ) (g : Given) → g.session.position ≡ p
      → Foretells T s₀ r c p (looked g c (wound r (wind forward T r c (moment_after T s₀ p s))))
  foretells p s h c g at = record {
    steps_are = counted T r s₀ p s h c;
    stop_is = stops_there T r s₀ p s h c;
    peak_is = forward_peaks c (moment_after T s₀ p s) p h.trail ∙ ap (λ k. peak_from T s₀ k p) (counted T r s₀ p s h c);
    carried_is = (forward_arrives T r s₀ p s h c).carried_is;
    unrefused = wind_unrefused forward T r c (moment_after T s₀ p s);
    position_is = at;
    count_is = refl;
  }
