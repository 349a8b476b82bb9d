-- The stops in their order: each comes before those after it, whatever these would say, and no stop means that there is a step and that it fits.
use mathlib.Core.Path.{◌≡◌, refl, sym, ap, ◌∙◌}
use mathlib.Core.Bool.{Bool, true, false}
use mathlib.Core.Option.{Option, none, some, some-ne-none}
use mathlib.Core.List.{◌++◌}
use Prim.Native.Nat.{ℕ, suc, ◌<◌, ◌≤◌}
use native.Mathlib.Omega.{arith}
use lib.Dec.{eqb-suc-zero}
use borrow.Author.Tests.{eq-eqb, ne_eqb, lt-ltb, le-ltb}
use Rattle.term.specs.Choice.{first, if_some}
use Rattle.term.specs.Table.{Table}
use Rattle.machine.specs.Machine.{State, step}
use Rattle.calls.specs.Session.{Stop, spent, jam, far, start, log_full, tape_full, found, answer, refused}
use Rattle.calls.proofs.Order.{first_of_both, first_names}
use Rattle.calls.specs.Stops.{Way, forward, back, Moment, onward, Room, greatest, log_size, tape_size, next_by, is_answer, halt_tests, halt_before, full_tests, stop_before}

-- a state's lists are no longer than the slices
pub record Fits (r : Room) (s : State) : Type 0 where
  pub log_fits : log_size s ≤ r.log
  pub tape_fits : tape_size s ≤ r.tape

-- before a step forward
module _ (T : Table) where
  pub spent_first : (way : Way) (m : Moment) → halt_before way T 0 m ≡ some spent
  spent_first forward m = refl
  spent_first back m = refl

  module _ (c : ℕ) (m : Moment) where
    pub answer_before_jam : is_answer T m.state ≡ true → halt_before forward T (suc c) m ≡ some (answer m.state.node)
    answer_before_jam e = rw (eqb-suc-zero c, e)

    module _ (unanswered : is_answer T m.state ≡ false) where
      pub jam_before_far : step T m.state ≡ none → halt_before forward T (suc c) m ≡ some jam
      jam_before_far e = rw (eqb-suc-zero c, unanswered, e)

      module _ (u : State) (steps : step T m.state ≡ some u) where
        pub far_before_full : m.position ≡ greatest → halt_before forward T (suc c) m ≡ some far
        far_before_full e = rw (eqb-suc-zero c, unanswered, steps, eq-eqb m.position greatest e)

        pub no_halt_forward : (m.position ≡ greatest → ⊥) → halt_before forward T (suc c) m ≡ none
        no_halt_forward near = rw (eqb-suc-zero c, unanswered, steps, ne_eqb m.position greatest near)

    -- before a step back
    pub start_before_jam : m.position ≡ 0 → halt_before back T (suc c) m ≡ some start
    start_before_jam e = rw (eqb-suc-zero c, eq-eqb m.position 0 e)

    module _ (past : m.position ≡ 0 → ⊥) where
      pub jam_before_full_back : next_by back T m ≡ none → halt_before back T (suc c) m ≡ some jam
      jam_before_full_back e = rw (eqb-suc-zero c, ne_eqb m.position 0 past, e)

      pub no_halt_back : (u : Moment) → next_by back T m ≡ some u → halt_before back T (suc c) m ≡ none
      no_halt_back u e = rw (eqb-suc-zero c, ne_eqb m.position 0 past, e)

-- either way, full slices last
module _ (way : Way) (T : Table) (r : Room) (count : ℕ) (m : Moment) where
  stop_by : stop_before way T r count m ≡ if_some (halt_before way T count m) (λ x. some x) (λ _. first (full_tests r (next_by way T m)))
  unfolding stop_before
  stop_by = first_of_both (halt_tests way T count m) (full_tests r (next_by way T m))

  pub halt_before_full : (x : Stop) → halt_before way T count m ≡ some x → stop_before way T r count m ≡ some x
  halt_before_full x e = stop_by ∙ ap (λ o. if_some o (λ x. some x) (λ _. first (full_tests r (next_by way T m)))) e

  module _ (free : halt_before way T count m ≡ none) (u : Moment) (next : next_by way T m ≡ some u) where
    full_by : stop_before way T r count m ≡ first (full_tests r (some u))
    full_by =
        stop_by
        ∙ ap (λ o. if_some o (λ x. some x) (λ _. first (full_tests r (next_by way T m)))) free
        ∙ ap (λ o. first (full_tests r o)) next

    pub log_full_next : r.log < log_size u.state → stop_before way T r count m ≡ some log_full
    log_full_next h = full_by ∙ rw (lt-ltb r.log (log_size u.state) h)

    pub tape_full_next : log_size u.state ≤ r.log → r.tape < tape_size u.state → stop_before way T r count m ≡ some tape_full
    tape_full_next g h = full_by ∙ rw (le-ltb r.log (log_size u.state) g, lt-ltb r.tape (tape_size u.state) h)

    pub no_stop_next : Fits r u.state → stop_before way T r count m ≡ none
    no_stop_next f = full_by ∙ rw (le-ltb r.log (log_size u.state) f.log_fits, le-ltb r.tape (tape_size u.state) f.tape_fits)

  -- no stop means that the next state fits
  module _ (free : stop_before way T r count m ≡ none) where
    clash : (x : Stop) → stop_before way T r count m ≡ some x → ⊥
    clash x h = some-ne-none x (sym h ∙ free)

    unhalted : (o : Option Stop) → halt_before way T count m ≡ o → halt_before way T count m ≡ none
    unhalted none e = e
    unhalted (some x) e = absurd (clash x (halt_before_full x e))

    pub fits_next : (u : Moment) → next_by way T m ≡ some u → Fits r u.state
    fits_next u next =
        let on : halt_before way T count m ≡ none = unhalted (halt_before way T count m) refl in
        let l : ¬ (r.log < log_size u.state) = λ h. clash log_full (log_full_next on u next h) in
        let log_fits : log_size u.state ≤ r.log = omega arith in
        let t : ¬ (r.tape < tape_size u.state) = λ h. clash tape_full (tape_full_next on u next log_fits h) in
        record { log_fits = log_fits; tape_fits = omega arith }

-- What ends a walk by a count is no refusal, and neither found nor none, which the calls to a spot alone say.
abbrev pub IsStop : Stop → Type 0
IsStop spent = Unit
IsStop jam = Unit
IsStop far = Unit
IsStop start = Unit
IsStop log_full = Unit
IsStop tape_full = Unit
IsStop found = ⊥
IsStop Stop.none = ⊥
IsStop (answer i) = Unit
IsStop (refused k) = ⊥

pub stop_is_stop : (way : Way) (T : Table) (r : Room) (count : ℕ) (m : Moment) (x : Stop) → stop_before way T r count m ≡ some x → IsStop x
unfolding stop_before
stop_is_stop forward T r count m =
    first_names IsStop (halt_tests forward T count m ++ full_tests r (next_by forward T m)) (tt, (tt, (tt, (tt, (tt, (tt, tt))))))
stop_is_stop back T r count m = first_names IsStop (halt_tests back T count m ++ full_tests r (next_by back T m)) (tt, (tt, (tt, (tt, (tt, tt)))))

-- what no stop before a step forward says
module _ (T : Table) (r : Room) where
  pub record Goes (m : Moment) : Type 0 where
    pub next : Moment
    pub steps : next_by forward T m ≡ some next
    pub fits : Fits r next.state
    pub near : m.position ≡ greatest → ⊥

  pub goes : (c : ℕ) (m : Moment) → stop_before forward T r (suc c) m ≡ none → Goes m
  goes c m e = by_answer (is_answer T m.state) refl
    where
      halts : (x : Stop) → halt_before forward T (suc c) m ≡ some x → ⊥
      halts x h = some-ne-none x (sym (halt_before_full forward T r (suc c) m x h) ∙ e)

      by_step : is_answer T m.state ≡ false → (o : Option State) → step T m.state ≡ o → Goes m
      by_step a none n = absurd (halts jam (jam_before_far T c m a n))
      by_step a (some u) n = record {
        next = onward m u;
        steps = rw n;
        fits = fits_next forward T r (suc c) m e (onward m u) (rw n);
        near = λ h. halts far (far_before_full T c m a u n h);
      }

      by_answer : (b : Bool) → is_answer T m.state ≡ b → Goes m
      by_answer true a = absurd (halts (answer m.state.node) (answer_before_jam T c m a))
      by_answer false a = by_step a (step T m.state) refl
