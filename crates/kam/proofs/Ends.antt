-- A run stands where the machine does after as many steps, ends there because a test applies, and made each step because none did.
use mathlib.Core.Path.{◌≡◌, refl, sym, ap, ◌∙◌, subst}
use mathlib.Core.Option.{Option, none, some, some-injective}
use mathlib.Core.List.{List}
use Prim.Native.Nat.{ℕ, zero, suc, ◌+◌, ◌-◌, ◌≤◌, ◌<◌}
use native.Mathlib.Omega.{arith}
use Rattle.term.specs.Choice.{◌>>=◌}
use Rattle.term.specs.Table.{Table, table_in}
use Rattle.term.proofs.Accepted.{accepts_all}
use Rattle.kam.specs.Runs.{Halt, spent, Ran, Moment, moment, start_moment, next_moment, moment_after, halt_before, ended, longer, run_from}
use Rattle.kam.specs.Records.{laid}
use Rattle.kam.specs.Lies.{Ends, RunEnds}
use Rattle.kam.proofs.Scope.{SoundState, start_sound}
use Rattle.kam.proofs.Halting.{spent_first, tests_fail, Steps, steps, room}
use Rattle.kam.proofs.Lies.{Reached, reached_start, reached_next, lies_tied}
use Rattle.kam.proofs.Numbers.{run_unrefused}

module _ (T : Table) (lent : List ℕ) where
  -- The same of a run by c from the moment after q steps.
  record EndsFrom (q c : ℕ) (r : Ran) : Type 0 where
    last : Moment
    reached : moment_after T lent (q + r.steps) ≡ some last
    node_is : r.node ≡ last.state.node
    records_are : r.records ≡ last.records.words
    within : r.steps ≤ c
    halts : halt_before T (c - r.steps) last ≡ some r.halt
    not_before : (k : ℕ) (x : Moment) → k < r.steps → moment_after T lent (q + k) ≡ some x → halt_before T (c - k) x ≡ none
    always_reached : (k : ℕ) (x : Moment) → k ≤ r.steps → moment_after T lent (q + k) ≡ some x → Reached T lent (q + k) x

  -- the moment after no further step
  at_once : (q : ℕ) (m x : Moment) → Reached T lent q m → moment_after T lent q ≡ some m → moment_after T lent (q + 0) ≡ some x → Reached T lent (q + 0) x
  at_once q m x t a g =
      let z : q ≡ q + 0 = omega arith in
      let is : m ≡ x = some-injective m x (sym a ∙ ap (moment_after T lent) z ∙ g) in
      subst (λ k. Reached T lent k x) z (subst (Reached T lent q) is t)

  ends_here : (q c : ℕ) (m : Moment) (h : Halt) → Reached T lent q m → moment_after T lent q ≡ some m → halt_before T c m ≡ some h → EndsFrom q c (ended m h)
  ends_here q c m h t a e = record {
    last = m;
    reached = let z : q + 0 ≡ q = omega arith in ap (moment_after T lent) z ∙ a;
    node_is = refl;
    records_are = refl;
    within = omega arith;
    halts = let z : c - 0 ≡ c = omega arith in ap (λ k. halt_before T k m) z ∙ e;
    not_before = λ k x l g. absurd (omega arith);
    always_reached = only;
  }
    where
      only : (k : ℕ) (x : Moment) → k ≤ 0 → moment_after T lent (q + k) ≡ some x → Reached T lent (q + k) x
      only zero x l g = at_once q m x t a g
      only (suc k) x l g = absurd (omega arith)

  ends_later : (q c : ℕ) (m : Moment) (r : Ran) → Reached T lent q m → moment_after T lent q ≡ some m → halt_before T (suc c) m ≡ none → EndsFrom (suc q) c r → EndsFrom q (suc c) (longer r)
  ends_later q c m r t a e f = record {
    last = f.last;
    reached = let z : q + suc r.steps ≡ suc q + r.steps = omega arith in ap (moment_after T lent) z ∙ f.reached;
    node_is = f.node_is;
    records_are = f.records_are;
    within = omega (arith, f.within);
    halts = let z : suc c - suc r.steps ≡ c - r.steps = omega arith in ap (λ k. halt_before T k f.last) z ∙ f.halts;
    not_before = before;
    always_reached = always;
  }
    where
      always : (k : ℕ) (x : Moment) → k ≤ suc r.steps → moment_after T lent (q + k) ≡ some x → Reached T lent (q + k) x
      always zero x l g = at_once q m x t a g
      always (suc k) x l g =
          let z : q + suc k ≡ suc q + k = omega arith in
          subst (λ j. Reached T lent j x) (sym z) (f.always_reached k x (omega arith) (ap (moment_after T lent) (sym z) ∙ g))

      before : (k : ℕ) (x : Moment) → k < suc r.steps → moment_after T lent (q + k) ≡ some x → halt_before T (suc c - k) x ≡ none
      before zero x l g =
          let z : q + 0 ≡ q = omega arith in
          let at : m ≡ x = some-injective m x (sym a ∙ ap (moment_after T lent) (sym z) ∙ g) in
          let y : suc c - 0 ≡ suc c = omega arith in
          ap (λ i. halt_before T i x) y ∙ subst (λ u. halt_before T (suc c) u ≡ none) at e
      before (suc k) x l g =
          let z : q + suc k ≡ suc q + k = omega arith in
          let y : suc c - suc k ≡ c - k = omega arith in
          ap (λ i. halt_before T i x) y ∙ f.not_before k x (omega arith) (ap (moment_after T lent) (sym z) ∙ g)

  after_next : (q : ℕ) (m u : Moment) → moment_after T lent q ≡ some m → next_moment T m ≡ some u → moment_after T lent (suc q) ≡ some u
  unfolding moment_after
  after_next q m u a e = ap (λ o. o >>= λ x. next_moment T x) a ∙ e

  pub run_halts : (c : ℕ) (m : Moment) (h : Halt) → halt_before T (suc c) m ≡ some h → run_from T (suc c) m ≡ ended m h
  unfolding run_from
  run_halts c m h e = rw e

  pub run_goes : (c : ℕ) (m u : Moment) → halt_before T (suc c) m ≡ none → next_moment T m ≡ some u → run_from T (suc c) m ≡ longer (run_from T c u)
  unfolding run_from
  run_goes c m u e f = rw (e, f)

  -- by what the tests say, where the rest of the run ends as it should
  ends_by : (c q : ℕ) (m : Moment) → SoundState T m.state → Reached T lent q m → moment_after T lent q ≡ some m
      → ((u : Moment) → SoundState T u.state → Reached T lent (suc q) u → moment_after T lent (suc q) ≡ some u → EndsFrom (suc q) c (run_from T c u))
      → (o : Option Halt) → halt_before T (suc c) m ≡ o → EndsFrom q (suc c) (run_from T (suc c) m)
  ends_by c q m h t a rest (some k) e = subst (EndsFrom q (suc c)) (sym (run_halts c m k e)) (ends_here q (suc c) m k t a e)
  ends_by c q m h t a rest none e =
      let tests = tests_fail T (suc c) m e in
      let s : Steps T m.state = steps T m.state h tests.0 in
      let u : Moment = moment s.to (laid T m.state.node m.records) in
      let n : next_moment T m ≡ some u = ap (λ o. o >>= λ x. some (moment x (laid T m.state.node m.records))) s.made in
      subst (EndsFrom q (suc c)) (sym (run_goes c m u e n)) (ends_later q c m (run_from T c u) t a e (rest u s.sound (reached_next T lent q m s.to t s.made (omega (arith, room T m t.tied.fit tests.1, t.tied.past.as_long))) (after_next q m u a n)))

  ends_from : (c q : ℕ) (m : Moment) → SoundState T m.state → Reached T lent q m → moment_after T lent q ≡ some m → EndsFrom q c (run_from T c m)
  unfolding run_from
  ends_from zero q m h t a = ends_here q 0 m spent t a (spent_first T m)
  ends_from (suc c) q m h t a = ends_by c q m h t a (λ u s k e. ends_from c (suc q) u s k e) (halt_before T (suc c) m) refl

  from_start : (count : ℕ) (r : Ran) → EndsFrom 0 count r → Ends T lent count r
  from_start count r f = record {
    last = f.last;
    reached = let z : 0 + r.steps ≡ r.steps = omega arith in ap (moment_after T lent) (sym z) ∙ f.reached;
    node_is = f.node_is;
    records_are = f.records_are;
    within = f.within;
    halts = f.halts;
    not_before = λ k x l g. let z : 0 + k ≡ k = omega arith in f.not_before k x l (ap (moment_after T lent) z ∙ g);
    always_lie = λ k x l g.
        let z : 0 + k ≡ k = omega arith in
        lies_tied T lent k x (subst (λ j. Reached T lent j x) z (f.always_reached k x l (ap (moment_after T lent) z ∙ g)));
  }

  at_start : moment_after T lent 0 ≡ some (start_moment lent)
  unfolding moment_after
  at_start = refl

pub run_ends : RunEnds
run_ends w n A lent l count =
    let T = table_in w n in
    subst (Ends T lent count) (run_unrefused w n lent count (accepts_all w n A) l)
    (from_start T lent count (run_from T count (start_moment lent)) (ends_from T lent count 0 (start_moment lent) (start_sound w n A) (reached_start T lent) (at_start T lent)))
