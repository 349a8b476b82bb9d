-- At every step the chains from the two tops are the machine's environment and stack, and each record holds the closure that its application step made.
use mathlib.Core.Path.{◌≡◌, refl, sym, ap, ◌∙◌, subst}
use mathlib.Core.Logic.{◌↔◌}
use mathlib.Core.Bool.{Bool, true, false}
use mathlib.Core.Option.{some, some-injective}
use mathlib.Core.List.{List, [], ◌∷◌, ◌++◌}
use Prim.Native.Nat.{ℕ, zero, suc, ◌*◌, ◌≤◌}
use native.Mathlib.Omega.{arith}
use native.Mathlib.Nat.{le_refl}
use native.Mathlib.Decide.{dec_le}
use lib.ListN.{length}
use borrow.Author.Tests.{lt-ltb, ltb-true, ltb-false}
use Rattle.term.specs.Choice.{◌>>=◌, if_some}
use Rattle.term.specs.Table.{Table, Kind, variable, abstraction, application, nothing, kind_at}
use Rattle.term.proofs.Choice.{chained}
use Rattle.kam.specs.Krivine.{Closure, closure, Closures, ∅, ◌▹◌, State, step, after, new_by, made_after}
use Rattle.kam.specs.Records.{environment_in, next_in, Records, laid_by, laid}
use Rattle.kam.specs.Runs.{Moment, moment, start_moment, next_moment, moment_after, Fit, AsManyAsFit, none_free}
use Rattle.kam.specs.Lies.{IsTaken, Holds, Chain, HoldEach, Lies, AlwaysLies}
use Rattle.kam.proofs.Chains.{MovedHolds, MovedChain, StackChain, MovedEach}
use Rattle.kam.proofs.Tied.{Tied, tied_start, tied_next}

-- Records that have moved are taken, so that their chains are among the taken ones; and so is the stack's.
module _ (w : List ℕ) (k : ℕ) (M : ℕ → Bool) (taken : (r : ℕ) → M r ≡ true → IsTaken k r) where
  mutual
    unfolding Holds Chain

    holds : (c : Closure) (r : ℕ) → MovedHolds w M r c → Holds w k r c
    holds (closure i E) r h = (h.0, chain E (environment_in w r) h.1)

    chain : (C : Closures) (r : ℕ) → MovedChain w M r C → Chain w k r C
    chain ∅ r h = h
    chain (c ▹ C) r h = (taken r h.0, holds c r h.1, chain C (next_in w r) h.2)

  stack_chain : (C : Closures) (b r : ℕ) → b ≤ suc k → StackChain w M C b r → Chain w k r C
  unfolding Holds Chain
  stack_chain ∅ b r l h = h
  stack_chain (c ▹ C) b r l h = (record { from_one = h.0; to_last = omega (arith, h.1) }, holds c r h.3, stack_chain C r (next_in w r) (omega (arith, h.1)) h.4)

  hold_each : (cs : List Closure) (r : ℕ) → MovedEach w M r cs → HoldEach w k r cs
  unfolding HoldEach
  hold_each [] r h = tt
  hold_each (c ∷ cs) r h = (holds c r h.0, hold_each cs (suc r) h.1)

-- No step gives a record back.
taken_grows : (k : Kind) (T : Table) (i : ℕ) (R : Records) → R.taken ≤ (laid_by k T i R).taken
unfolding laid_by
taken_grows application T i R = omega arith
taken_grows abstraction T i R = omega arith
taken_grows variable T i R = omega arith
taken_grows nothing T i R = omega arith

-- After q steps the moment is the machine's, and tied to the closures made.
pub record Reached (T : Table) (lent : List ℕ) (q : ℕ) (m : Moment) : Type 0 where
  pub state_is : after T q ≡ some m.state
  pub tied : Tied lent (made_after T q) m.state m.records

module _ (T : Table) (lent : List ℕ) where
  pub reached_start : Reached T lent 0 (start_moment lent)
  unfolding after made_after
  reached_start = record { state_is = refl; tied = tied_start lent }

  pub reached_next : (q : ℕ) (m : Moment) (u : State) → Reached T lent q m → step T m.state ≡ some u → Fit (laid T m.state.node m.records).taken lent
      → Reached T lent (suc q) (moment u (laid T m.state.node m.records))
  unfolding after made_after
  reached_next q m u h e l = record {
    state_is = ap (λ o. o >>= λ s. step T s) h.state_is ∙ e;
    tied = subst (λ o. Tied lent (made_after T q ++ if_some o (λ s. new_by (kind_at T s.node) T s) (λ _. [])) u (laid T m.state.node m.records)) (sym h.state_is)
        (tied_next lent (made_after T q) T m.state m.records h.tied (omega (arith, h.tied.past.as_long)) u e).tied;
  }

  reached : (q : ℕ) (m : Moment) → moment_after T lent q ≡ some m → Fit m.records.taken lent → Reached T lent q m
  unfolding moment_after
  reached zero m e l = subst (Reached T lent 0) (some-injective (start_moment lent) m e) reached_start
  reached (suc q) m e l =
      let b = chained (moment_after T lent q) (λ x. next_moment T x) m e in
      let a = b.0 in
      let c = chained (step T a.state) (λ s. some (moment s (laid T a.state.node a.records))) m b.2 in
      let is : moment c.0 (laid T a.state.node a.records) ≡ m = some-injective _ m c.2 in
      let fits : Fit (laid T a.state.node a.records).taken lent = subst (λ x. Fit x.records.taken lent) (sym is) l in
      let fewer : Fit a.records.taken lent = omega (arith, taken_grows (kind_at T a.state.node) T a.state.node a.records) in
      subst (Reached T lent (suc q)) is (reached_next q a c.0 (reached q a b.1 fewer) c.1 fits)

pub lies_tied : (T : Table) (lent : List ℕ) (q : ℕ) (m : Moment) → Reached T lent q m → Lies T lent q m
lies_tied T lent q m h =
    let t = h.tied in
    let w = m.records.words in
    let k = m.records.taken in
    record {
      state_is = h.state_is;
      environment_lies = chain w k t.M t.moved_taken m.state.environment m.records.environment t.environment;
      stack_lies = stack_chain w k t.M t.moved_taken m.state.stack (suc k) m.records.stack (le_refl (suc k)) t.stack;
      records_hold = hold_each w k t.M t.moved_taken (made_after T q) 1 t.each;
      taken_is = t.taken_is;
      fit = t.fit;
      as_long = t.past.as_long;
      past_kept = t.past.kept;
    }

pub lies : AlwaysLies
lies T lent q m e l = lies_tied T lent q m (reached T lent q m e l)

-- The test of a free record says what the words do.
pub full_exactly : (R : Records) → Fit R.taken R.words → (none_free R ≡ true) ↔ AsManyAsFit R
full_exactly R l = (
  λ e. record { fit = l; no_more = λ k f. let z = ltb-true (length R.words) (3 * suc R.taken) e in omega arith },
  λ h. lt-ltb (length R.words) (3 * suc R.taken) (not_more h),
)
  where
    not_more : AsManyAsFit R → suc (length R.words) ≤ 3 * suc R.taken
    not_more h = elim (dec_le (3 * suc R.taken) (length R.words)) [
      | yes f ↦ absurd (omega (arith, h.no_more (suc R.taken) f))
      | no f ↦ omega arith
    ]

pub one_more_fits : (R : Records) → none_free R ≡ false → Fit (suc R.taken) R.words
one_more_fits R e = ltb-false (length R.words) (3 * suc R.taken) e
