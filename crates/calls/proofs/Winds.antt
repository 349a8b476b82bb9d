-- A run from its end: stopped, or one step before a run that has the property. What holds of every run is shown by it.
use mathlib.Core.Path.{◌≡◌, refl, sym, ◌∙◌}
use mathlib.Core.Option.{Option, none, some, some-ne-none}
use Prim.Native.Nat.{ℕ, zero, suc}
use native.Mathlib.Omega.{arith}
use Rattle.term.specs.Table.{Table}
use Rattle.calls.specs.Session.{Stop, spent, jam, start}
use Rattle.calls.specs.Stops.{Way, forward, back, Moment, Room, next_by, halt_before, stop_before}
use Rattle.calls.specs.Winding.{Run, ended, longer, wind}
use Rattle.calls.proofs.Stops.{start_before_jam, jam_before_full_back, halt_before_full, IsStop, stop_is_stop, goes}

-- where no stop comes there is a step
pub has_next : (way : Way) (T : Table) (r : Room) (c : ℕ) (m : Moment) → stop_before way T r (suc c) m ≡ none → (u : Moment) × (next_by way T m ≡ some u)
has_next forward T r c m e = let g = goes T r c m e in (g.next, g.steps)
has_next back T r c m e = by_position m.position refl
  where
    halts : (x : Stop) → halt_before back T (suc c) m ≡ some x → ⊥
    halts x h = some-ne-none x (sym (halt_before_full back T r (suc c) m x h) ∙ e)

    by_step : (m.position ≡ 0 → ⊥) → (o : Option Moment) → next_by back T m ≡ o → (u : Moment) × (next_by back T m ≡ some u)
    by_step past none n = absurd (halts jam (jam_before_full_back T c m past n))
    by_step past (some u) n = (u, n)

    by_position : (p : ℕ) → m.position ≡ p → (u : Moment) × (next_by back T m ≡ some u)
    by_position zero p = absurd (halts start (start_before_jam T c m p))
    by_position (suc q) p = by_step (λ z. omega arith) (next_by back T m) refl

module _ (way : Way) (T : Table) (r : Room) (P : ℕ → Moment → Run → Type 0)
    (none_left : (m : Moment) → P 0 m (ended T m spent))
    (stops : (c : ℕ) (m : Moment) (x : Stop) → stop_before way T r (suc c) m ≡ some x → P (suc c) m (ended T m x))
    (steps : (c : ℕ) (m u : Moment) (run : Run) → stop_before way T r (suc c) m ≡ none → next_by way T m ≡ some u → P c u run → P (suc c) m (longer way T m run)) where
  pub each_run : (c : ℕ) (m : Moment) → P c m (wind way T r c m)
  unfolding wind
  each_run zero m = none_left m
  each_run (suc c) m = by_stop (λ u. each_run c u) (stop_before way T r (suc c) m) refl
    where
      by_stop : ((u : Moment) → P c u (wind way T r c u)) → (o : Option Stop) → stop_before way T r (suc c) m ≡ o → P (suc c) m (wind way T r (suc c) m)
      by_stop more (some x) e = rw e (stops c m x e)
      by_stop more none e = let (u, n) = has_next way T r c m e in rw (e, n) (steps c m u (wind way T r c u) e n (more u))

-- A run's stop is no refusal.
pub wind_is_stop : (way : Way) (T : Table) (r : Room) (c : ℕ) (m : Moment) → IsStop (wind way T r c m).stop
wind_is_stop way T r =
    each_run way T r (λ c m run. IsStop run.stop) (λ m. tt) (λ c m x e. stop_is_stop way T r (suc c) m x e) (λ c m u run e n more. more)
