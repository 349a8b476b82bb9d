-- What a run answers of its walk: the moment after its steps, and the greatest weight over the states stood in, first and last included.
use mathlib.Core.Path.{◌≡◌, refl, sym, ap, ◌∙◌}
use mathlib.Core.Option.{some, some-injective}
use Prim.Native.Nat.{ℕ, zero, suc, ◌≤◌, max, zero-le}
use native.Mathlib.Nat.{le_of_suc-le-suc}
use native.Mathlib.Decide.{dec_le}
use native.Mathlib.Omega.{arith}
use Rattle.term.specs.Table.{Table}
use Rattle.calls.specs.Session.{Stop, spent}
use Rattle.calls.specs.Stops.{Way, Moment, Room, next_by}
use Rattle.calls.specs.Weight.{weight}
use Rattle.calls.specs.Winding.{Run, ended, longer, wind}
use Rattle.calls.specs.Walks.{along, Highest, Walked}
use Rattle.calls.proofs.Winds.{each_run}

module _ (way : Way) (T : Table) where
  same_weight : (m u : Moment) → some m ≡ some u → weight T u.state ≡ weight T m.state
  same_weight m u e = ap (λ x. weight T x.state) (sym (some-injective m u e))

  pub walked_nowhere : (m : Moment) (x : Stop) → Walked way T m (ended T m x)
  walked_nowhere m x = record { last_is = refl; covered = covered; highest = record { steps = 0; within = zero-le; moment = m; stood = refl; weight_is = refl } }
    where
      covered : (j : ℕ) (u : Moment) → j ≤ 0 → along way T j m ≡ some u → weight T u.state ≤ weight T m.state
      covered zero u l e = omega (arith, same_weight m u e)
      covered (suc j) u l e = absurd (omega arith)

  module _ (m v : Moment) (run : Run) (n : next_by way T m ≡ some v) (w : Walked way T v run) where
    covered_longer : (j : ℕ) (u : Moment) → j ≤ suc run.steps → along way T j m ≡ some u → weight T u.state ≤ max (weight T m.state) run.peak
    covered_longer zero u l e = omega (arith, same_weight m u e)
    covered_longer (suc j) u l e = omega (arith, w.covered j u (le_of_suc-le-suc l) (rw n at e))

    highest_longer : Dec (run.peak ≤ weight T m.state) → Highest way T m (longer way T m run)
    highest_longer (yes h) = record { steps = 0; within = zero-le; moment = m; stood = refl; weight_is = omega arith }
    highest_longer (no h) = record {
      steps = suc w.highest.steps;
      within = (let h : w.highest.steps ≤ run.steps = w.highest.within in omega arith);
      moment = w.highest.moment;
      stood = rw n w.highest.stood;
      weight_is = w.highest.weight_is ∙ omega arith;
    }

    walked_longer : Walked way T m (longer way T m run)
    walked_longer = record { last_is = rw n w.last_is; covered = covered_longer; highest = highest_longer (dec_le run.peak (weight T m.state)) }

  pub walked : (r : Room) (c : ℕ) (m : Moment) → Walked way T m (wind way T r c m)
  walked r =
      each_run way T r (λ c m run. Walked way T m run) (λ m. walked_nowhere m spent) (λ c m x e. walked_nowhere m x) (λ c m u run e n w. walked_longer m u run n w)
