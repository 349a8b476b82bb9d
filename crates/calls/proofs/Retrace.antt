-- Back, and forward again by the steps made: each step taken back is made again and carries what it carried, and the walk ends as spent where it began.
use mathlib.Core.Path.{◌≡◌, refl, sym, ap, ap₂, ◌∙◌}
use mathlib.Core.Bool.{Bool, true, false, false≢true}
use mathlib.Core.Option.{none, some, some-ne-none}
use mathlib.Core.List.{[], ◌∷◌}
use Prim.Native.Nat.{ℕ, zero, suc, ◌+◌, ◌≤◌}
use native.Mathlib.Nat.{zero-add}
use native.Mathlib.Omega.{arith}
use Rattle.term.specs.Table.{Table, Kind, variable, abstraction, application, nothing, kind_at}
use Rattle.term.specs.Facts.{Facts}
use Rattle.machine.specs.Entries.{Log, Tape}
use Rattle.machine.specs.Machine.{Dir, down, up, State, go_down, step_by, step, step_back}
use Rattle.machine.specs.Good.{Good}
use Rattle.machine.specs.Carried.{carried_back, carried_over}
use Rattle.machine.proofs.Reverse.{back_keeps_good}
use Rattle.machine.proofs.Carried.{back_carries}
use Rattle.machine.proofs.Sums.{after_carries, over_none, over_last}
use Rattle.calls.specs.Session.{Stop, spent}
use Rattle.calls.specs.Stops.{forward, back, Moment, Room, greatest, next_by, is_answer_by, is_answer, stop_before}
use Rattle.calls.specs.Winding.{Run, ended, wind}
use Rattle.calls.proofs.Stops.{Fits, no_halt_forward, start_before_jam, halt_before_full, no_stop_next, fits_next}
use Rattle.calls.proofs.Winds.{each_run}
use Rattle.calls.proofs.Moments.{FewTurns, next_forward, next_back, next_few, next_redone}
use Rattle.calls.proofs.Runs.{Trail, begun, then, trail_none, trail_after, trail_position, forward_on}
use Rattle.calls.proofs.Visits.{wind_none, wind_goes_on}

-- A state with a step is no answer.
stuck : (T : Table) (i : ℕ) (k : Kind) (d : Dir) (L : Log) (t : Tape) → kind_at T i ≡ k → is_answer_by k d t ≡ true → step_by T i d L t ≡ none
unfolding step_by go_down
stuck T i abstraction down L [] e h = rw e
stuck T i abstraction down L (x ∷ t) e h = absurd (false≢true h)
stuck T i abstraction up L t e h = absurd (false≢true h)
stuck T i variable d L t e h = absurd (false≢true h)
stuck T i application d L t e h = absurd (false≢true h)
stuck T i nothing d L t e h = absurd (false≢true h)

unanswered : (T : Table) (s u : State) → step T s ≡ some u → is_answer T s ≡ false
unanswered T s u e = by_test (is_answer T s) refl
  where
    by_test : (b : Bool) → is_answer T s ≡ b → is_answer T s ≡ false
    by_test false h = h
    by_test true h = absurd (some-ne-none u (sym e ∙ stuck T s.node (kind_at T s.node) s.dir s.log s.tape refl h))

module _ (T : Table) (r : Room) where
  -- a trail by its first step
  record First (m₀ : Moment) (k : ℕ) (m : Moment) : Type 0 where
    next : Moment
    steps : next_by forward T m₀ ≡ some next
    fits : Fits r next.state
    trail : Trail T r next k m

  trail_first : {m₀ : Moment} (k : ℕ) {m : Moment} → Trail T r m₀ (suc k) m → First m₀ k m
  trail_first zero (then {m = m} begun e f) = record { next = m; steps = e; fits = f; trail = begun }
  trail_first (suc k) (then t e f) = let h = trail_first k t in record { next = h.next; steps = h.steps; fits = h.fits; trail = then h.trail e f }

  -- A run to the end of a trail, as many steps as it has.
  record Along (k : ℕ) (m : Moment) (run : Run) : Type 0 where
    last_is : run.last ≡ m
    steps_are : run.steps ≡ k
    spent_is : run.stop ≡ spent

  along : (k : ℕ) {m₀ m : Moment} → Trail T r m₀ k m → m₀.position + k ≤ greatest → Along k m (wind forward T r k m₀)
  along zero {m₀} t l = rw (wind_none forward T r m₀) (record { last_is = trail_none T r m₀ t; steps_are = refl; spent_is = refl })
  along (suc k) {m₀} {m} t l =
      let f : First m₀ k m = trail_first k t in
      let u : Moment = f.next in
      let (came, is) = next_forward T m₀ u f.steps in
      let at : u.position ≡ suc m₀.position = ap (λ x. x.position) is in
      let near : m₀.position ≡ greatest → ⊥ = (λ e. omega arith) in
      let free : stop_before forward T r (suc k) m₀ ≡ none =
      no_stop_next forward T r (suc k) m₀ (no_halt_forward T k m₀ (unanswered T m₀.state u.state came) u.state came near) u f.steps f.fits in
      let h : Along k m (wind forward T r k u) = along k f.trail (omega arith) in
      rw (wind_goes_on forward T r k m₀ u free f.steps k) (record { last_is = h.last_is; steps_are = ap suc h.steps_are; spent_is = h.spent_is })

  -- A run back leaves the trail on which the machine comes forward again.
  pub record Backed (m : Moment) (run : Run) : Type 0 where
    pub trail : Trail T r run.last run.steps m
    pub good : Good T run.last.state
    pub fits : Fits r run.last.state
    pub few : FewTurns run.last
    pub carried_is : run.carried ≡ carried_over T run.last.state run.steps 0

  module _ (F : Facts T) where
    backed_nowhere : (m : Moment) (x : Stop) → Good T m.state → Fits r m.state → FewTurns m → Backed m (ended T m x)
    backed_nowhere m x g f k = record { trail = begun; good = g; fits = f; few = k; carried_is = sym (over_none T m.state 0) }

    past_start : (c : ℕ) (m : Moment) → stop_before back T r (suc c) m ≡ none → m.position ≡ 0 → ⊥
    past_start c m e z = some-ne-none Stop.start (sym (halt_before_full back T r (suc c) m Stop.start (start_before_jam T c m z)) ∙ e)

    -- The step back from m carries what the last step of the trail does.
    sums : (m u : Moment) (run : Run) → Good T m.state → step_back T m.state ≡ some u.state → Backed u run
        → carried_back T m.state + run.carried ≡ carried_over T run.last.state (suc run.steps) 0
    sums m u run g came h =
        ap₂ ◌+◌ (back_carries T F m.state u.state g came ∙ sym (after_carries T run.last.state run.steps (trail_after T r run.last h.trail))) h.carried_is
        ∙ sym (over_last T run.last.state run.steps 0 run.steps (zero-add run.steps))

    pub backed : (c : ℕ) (m : Moment) → Good T m.state → Fits r m.state → FewTurns m → Backed m (wind back T r c m)
    backed =
        each_run back T r (λ c m run. Good T m.state → Fits r m.state → FewTurns m → Backed m run) (λ m. backed_nowhere m spent) (λ c m x e. backed_nowhere m x)
        (λ c m u run e n more g f k.
        let came : step_back T m.state ≡ some u.state = (next_back T m u n).0 in
        let h : Backed u run = more (back_keeps_good T F u.state m.state g came) (fits_next back T r (suc c) m e u n) (next_few T m u back k n) in
        record {
          trail = then h.trail (next_redone T m u F g (past_start c m e) n) f;
          good = h.good;
          fits = h.fits;
          few = h.few;
          carried_is = sums m u run g came h;
        })

    -- So forward by its steps comes back, and is spent.
    pub record Again (m : Moment) (out home : Run) : Type 0 where
      pub last_is : home.last ≡ m
      pub steps_are : home.steps ≡ out.steps
      pub spent_is : home.stop ≡ spent
      pub carried_is : home.carried ≡ out.carried

    pub again : (c : ℕ) (m : Moment) → Good T m.state → Fits r m.state → FewTurns m → m.position ≤ greatest
        → Again m (wind back T r c m) (wind forward T r (wind back T r c m).steps (wind back T r c m).last)
    again c m g f k l =
        let out : Run = wind back T r c m in
        let h : Backed m out = backed c m g f k in
        let at : m.position ≡ out.last.position + out.steps = trail_position T r out.last h.trail in
        let a = along out.steps h.trail (omega arith) in
        record {
          last_is = a.last_is;
          steps_are = a.steps_are;
          spent_is = a.spent_is;
          carried_is =
              (forward_on T r out.last out.steps out.last 0 begun).carried_is
              ∙ ap (λ k. carried_over T out.last.state k 0) a.steps_are
              ∙ sym h.carried_is;
        }
