-- Winding along a trail of the plain machine: a run forward goes on from its end, a run back takes its last steps off again; and what either carries.
use mathlib.Core.Path.{◌≡◌, refl, sym, ap, ap₂, ◌∙◌, subst}
use mathlib.Core.Option.{none, some}
use Prim.Native.Nat.{ℕ, zero, suc, ◌+◌, ◌-◌, ◌≤◌, ◌<◌, min}
use native.Mathlib.Nat.{zero-add, add-zero, sub-zero}
use native.Mathlib.Omega.{arith}
use Rattle.term.specs.Table.{Table}
use Rattle.term.specs.Facts.{Facts}
use Rattle.machine.specs.Machine.{State, after_from}
use Rattle.machine.specs.Good.{Good}
use Rattle.machine.specs.Carried.{carried_back, carried_after, carried_over}
use Rattle.machine.specs.Turns.{turns_after}
use Rattle.machine.proofs.Reverse.{keeps_good}
use Rattle.machine.proofs.Carried.{back_carries}
use Rattle.machine.proofs.Sums.{after_carries, over_none, over_first, over_last}
use Rattle.machine.proofs.Turns.{turns_none, turns_next}
use Rattle.calls.specs.Session.{Stop, spent, jam, far, log_full, tape_full, found, answer, refused}
use Rattle.calls.specs.Stops.{forward, back, Moment, moment, beginning, moment_after, turn_to, Room, greatest, next_by, stop_before}
use Rattle.calls.specs.Winding.{Run, ended, longer, wind}
use Rattle.calls.specs.Allowed.{stop_after, allowed}
use Rattle.calls.proofs.Stops.{Fits, spent_first, start_before_jam, no_halt_back, halt_before_full, no_stop_next, fits_next, goes}
use Rattle.calls.proofs.Winds.{each_run}
use Rattle.calls.proofs.Moments.{FewTurns, next_forward, next_back, next_few, next_undone}

-- "Position is 0 to 4,294,967,295": no run forward passes its greatest.
pub forward_near : (T : Table) (r : Room) (c : ℕ) (m : Moment) → m.position ≤ greatest → (wind forward T r c m).last.position ≤ greatest
forward_near T r =
    each_run forward T r (λ c m run. m.position ≤ greatest → run.last.position ≤ greatest) (λ m h. h) (λ c m x e h. h)
    (λ c m u run e n more h.
    more (let near : ¬ (m.position ≡ greatest) = (goes T r c m e).near in
    let at : u.position ≡ suc m.position = ap (λ x. x.position) (next_forward T m u n).1 in
    omega arith))

-- stops that are no jam, no full slice and no refusal
abbrev pub Unhindered : Stop → Type 0
Unhindered spent = Unit
Unhindered jam = ⊥
Unhindered far = Unit
Unhindered Stop.start = Unit
Unhindered log_full = ⊥
Unhindered tape_full = ⊥
Unhindered found = Unit
Unhindered Stop.none = Unit
Unhindered (answer i) = Unit
Unhindered (refused k) = ⊥

-- The machine comes from the moment m₀ to m in k steps, and each state that it comes to fits the slices.
pub data Trail (T : Table) (r : Room) (m₀ : Moment) : ℕ → Moment → Type 0 where
  begun : Trail T r m₀ 0 m₀
  then : {k : ℕ} {u m : Moment} → Trail T r m₀ k u → next_by forward T u ≡ some m → Fits r m.state → Trail T r m₀ (suc k) m

module _ (T : Table) (r : Room) (m₀ : Moment) where
  pub trail_none : {m : Moment} → Trail T r m₀ 0 m → m₀ ≡ m
  trail_none begun = refl

  pub trail_after : {k : ℕ} {m : Moment} → Trail T r m₀ k m → after_from T m₀.state k ≡ some m.state
  unfolding after_from
  trail_after begun = refl
  trail_after (then {u = u} {m = m} t e f) = rw (trail_after t) (next_forward T u m e).0

  pub trail_position : {k : ℕ} {m : Moment} → Trail T r m₀ k m → m.position ≡ m₀.position + k
  trail_position begun = sym (add-zero m₀.position)
  trail_position (then {u = u} {m = m} t e f) =
      let before : u.position ≡ m₀.position + _ = trail_position t in
      let at : m.position ≡ suc u.position = ap (λ x. x.position) (next_forward T u m e).1 in
      omega arith

  pub trail_turns : {k : ℕ} {m : Moment} → Trail T r m₀ k m → m.turns ≡ m₀.turns + turns_after T m₀.state k
  trail_turns begun = sym (ap (λ k. m₀.turns + k) (turns_none T m₀.state) ∙ add-zero m₀.turns)
  trail_turns (then {k = k} {u = u} {m = m} t e f) =
      let before : u.turns ≡ m₀.turns + turns_after T m₀.state k = trail_turns t in
      let at : m.turns ≡ u.turns + turn_to u m.state = ap (λ x. x.turns) (next_forward T u m e).1 in
      omega (arith, turns_next T m₀.state k (trail_after t) (trail_after (then t e f)))

  pub trail_few : FewTurns m₀ → {k : ℕ} {m : Moment} → Trail T r m₀ k m → FewTurns m
  trail_few few begun = few
  trail_few few (then {u = u} {m = m} t e f) = next_few T u m forward (trail_few few t) e

  pub trail_fits : Fits r m₀.state → {k : ℕ} {m : Moment} → Trail T r m₀ k m → Fits r m.state
  trail_fits f₀ begun = f₀
  trail_fits f₀ (then t e f) = f

  pub trail_good : Facts T → Good T m₀.state → {k : ℕ} {m : Moment} → Trail T r m₀ k m → Good T m.state
  trail_good F g begun = g
  trail_good F g (then {u = u} {m = m} t e f) = keeps_good T F u.state m.state (trail_good F g t) (next_forward T u m e).0

  -- one step further, where no stop comes
  pub trail_on : (c : ℕ) (m u : Moment) → stop_before forward T r (suc c) m ≡ none → next_by forward T m ≡ some u → {k : ℕ} → Trail T r m₀ k m → Trail T r m₀ (suc k) u
  trail_on c m u e n t = then t n (fits_next forward T r (suc c) m e u n)

  -- A run forward from the end of k steps.
  pub record On (k : ℕ) (run : Run) : Type 0 where
    pub trail : Trail T r m₀ (k + run.steps) run.last
    pub carried_is : run.carried ≡ carried_over T m₀.state run.steps k

  on_here : (k : ℕ) (m : Moment) (x : Stop) → Trail T r m₀ k m → On k (ended T m x)
  on_here k m x t = record { trail = subst (λ j. Trail T r m₀ j m) (sym (add-zero k)) t; carried_is = sym (over_none T m₀.state k) }

  on_longer : (k : ℕ) (m : Moment) (run : Run) → Trail T r m₀ k m → On (suc k) run → On k (longer forward T m run)
  on_longer k m run t o = record {
    trail = subst (λ j. Trail T r m₀ j run.last) (omega arith) o.trail;
    carried_is = ap₂ ◌+◌ (sym (after_carries T m₀.state k (trail_after t))) o.carried_is ∙ sym (over_first T m₀.state run.steps k);
  }

  pub forward_on : (c : ℕ) (m : Moment) (k : ℕ) → Trail T r m₀ k m → On k (wind forward T r c m)
  forward_on =
      each_run forward T r (λ c m run. (k : ℕ) → Trail T r m₀ k m → On k run)
      (λ m k t. on_here k m spent t)
      (λ c m x e k t. on_here k m x t)
      (λ c m u run e n more k t. on_longer k m run t (more (suc k) (trail_on c m u e n t)))

  -- A run back by c from the end of k steps.
  pub record Off (c k : ℕ) (run : Run) : Type 0 where
    pub steps_are : run.steps ≡ min c k
    pub trail : Trail T r m₀ (k - min c k) run.last
    pub carried_is : run.carried ≡ carried_over T m₀.state (min c k) (k - min c k)
    pub unhindered : Unhindered run.stop

  off_here : (c k : ℕ) (m : Moment) (x : Stop) → min c k ≡ 0 → Unhindered x → Trail T r m₀ k m → Off c k (ended T m x)
  off_here c k m x e h t = record {
    steps_are = sym e;
    trail = subst (λ j. Trail T r m₀ j m) (omega arith) t;
    carried_is = sym (over_none T m₀.state (k - min c k)) ∙ ap (λ j. carried_over T m₀.state j (k - min c k)) (sym e);
    unhindered = h;
  }

  off_longer : (c k : ℕ) (m : Moment) (run : Run) → carried_back T m.state ≡ carried_after T m₀.state k → Off c k run → Off (suc c) (suc k) (longer back T m run)
  off_longer c k m run h o = record {
    steps_are = (let e : run.steps ≡ min c k = o.steps_are in omega arith);
    trail = subst (λ j. Trail T r m₀ j run.last) (omega arith) o.trail;
    carried_is = ap₂ ◌+◌ h o.carried_is ∙ sym (over_last T m₀.state (min c k) (k - min c k) k (omega arith)) ∙ ap₂ (carried_over T m₀.state) (omega arith) (omega arith);
    unhindered = o.unhindered;
  }

  module _ (F : Facts T) (good : Good T m₀.state) (fits : Fits r m₀.state) (few : FewTurns m₀) where
    -- It meets the start only where the trail began at position 0.
    pub back_off : (c : ℕ) {k : ℕ} {m : Moment} → Trail T r m₀ k m → (k < c → m₀.position ≡ 0) → Off c k (wind back T r c m)
    unfolding wind
    back_off zero {k} {m} t h = off_here 0 k m spent (omega arith) tt t
    back_off (suc c) begun h =
        rw (halt_before_full back T r (suc c) m₀ Stop.start (start_before_jam T c m₀ (h (omega arith)))) (off_here (suc c) 0 m₀ Stop.start (omega arith) tt begun)
    back_off (suc c) (then {k = k} {u = u} {m = m} t e f) h =
        rw (passes, undone) (off_longer c k m (wind back T r c u) carries (back_off c t (λ l. h (omega arith))))
      where
        good_there : Good T u.state
        good_there = trail_good F good t

        undone : next_by back T m ≡ some u
        undone = next_undone T u m F good_there (trail_few few t) e

        carries : carried_back T m.state ≡ carried_after T m₀.state k
        carries =
            back_carries T F m.state u.state (trail_good F good (then t e f)) (next_back T m u undone).0
            ∙ sym (after_carries T m₀.state k (trail_after t))

        past : m.position ≡ 0 → ⊥
        past z = let at : m.position ≡ suc u.position = ap (λ x. x.position) (next_forward T u m e).1 in omega arith

        passes : stop_before back T r (suc c) m ≡ none
        passes = no_stop_next back T r (suc c) m (no_halt_back T c m past u undone) u undone (trail_fits fits t)

-- From a state at position 0.
module _ (T : Table) (r : Room) (s₀ : State) where
  -- where the trail has come to after p steps
  pub trail_moment : (p : ℕ) {m : Moment} → Trail T r (beginning s₀) p m → m ≡ moment_after T s₀ p m.state
  trail_moment p {m} t =
      let at : m.position ≡ p = trail_position T r (beginning s₀) t ∙ zero-add p in
      let turns : m.turns ≡ turns_after T s₀ p = trail_turns T r (beginning s₀) t ∙ zero-add (turns_after T s₀ p) in
      λ i. moment m.state (at i) (turns i)

  -- what the plain machine's tests say there
  trail_stops : (c p : ℕ) {m : Moment} → Trail T r (beginning s₀) p m → stop_after T s₀ r c p ≡ stop_before forward T r c m
  trail_stops c p {m} t = rw (trail_after T r (beginning s₀) t) (ap (stop_before forward T r c) (sym (trail_moment p t)))

  -- The steps of a run forward are those that the stops allow on the plain machine.
  pub forward_counted : (c : ℕ) (m : Moment) (p : ℕ) → Trail T r (beginning s₀) p m → (wind forward T r c m).steps ≡ allowed T s₀ r c p
  unfolding allowed
  forward_counted =
      each_run forward T r (λ c m run. (p : ℕ) → Trail T r (beginning s₀) p m → run.steps ≡ allowed T s₀ r c p)
      (λ m p t. refl)
      (λ c m x e p t. rw (trail_stops (suc c) p t ∙ e))
      (λ c m u run e n more p t. rw (trail_stops (suc c) p t ∙ e) (ap suc (more (suc p) (trail_on T r (beginning s₀) c m u e n t))))

  -- And its stop is the first of the tests that applies after them.
  pub forward_stops : (c : ℕ) (m : Moment) (p : ℕ) → Trail T r (beginning s₀) p m
      → stop_after T s₀ r (c - (wind forward T r c m).steps) (p + (wind forward T r c m).steps) ≡ some (wind forward T r c m).stop
  forward_stops =
      each_run forward T r (λ c m run. (p : ℕ) → Trail T r (beginning s₀) p m → stop_after T s₀ r (c - run.steps) (p + run.steps) ≡ some run.stop)
      (λ m p t. ap (stop_after T s₀ r 0) (add-zero p) ∙ trail_stops 0 p t ∙ halt_before_full forward T r 0 m spent (spent_first T forward m))
      (λ c m x e p t. ap₂ (stop_after T s₀ r) (sub-zero (suc c)) (add-zero p) ∙ trail_stops (suc c) p t ∙ e)
      (λ c m u run e n more p t.
      let k : p + suc run.steps ≡ suc p + run.steps = omega arith in
      let j : suc c - suc run.steps ≡ c - run.steps = omega arith in
      ap₂ (stop_after T s₀ r) j k ∙ more (suc p) (trail_on T r (beginning s₀) c m u e n t))
