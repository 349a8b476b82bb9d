-- The loop of a run: what is left to run from where it stands, with the steps made, is the whole run.
use mathlib.Core.Path.{◌≡◌, refl, sym, ap, ◌∙◌, subst, subst⁻¹}
use mathlib.Core.Bool.{Bool, false, ◌&&◌, false≢true}
use mathlib.Core.Option.{Option, none, some, none-ne-some}
use mathlib.Core.List.{List, [], ◌∷◌, ◌++◌}
use Prim.Native.Nat.{ℕ, suc, ◌+◌, ◌-◌, ◌≤◌, ◌<◌}
use native.Mathlib.Omega.{arith}
use lib.ListN.{length}
use borrow.Author.Tests.{eq-eqb, ne_eqb}
use Rattle.term.specs.Choice.{◌⇒◌, first, if_some, ◌>>=◌}
use Rattle.term.specs.Table.{Table, Kind, variable, abstraction, application, nothing, kind_at}
use Rattle.kam.specs.Krivine.{Closure, Closures, ∅, ◌▹◌, State, start_state, step_by, step, new_by}
use Rattle.kam.specs.Records.{Records, no_records, laid}
use Rattle.kam.specs.Runs.{Halt, spent, answer, full, Ran, Moment, moment, start_moment, is_answer_by, is_answer, is_application, none_free, is_full, halt_before, ended, longer, run_from, most_words}
use Rattle.krivine.specs.Standing.{Stood, stood, stepped_by, halt_by, Passed, on, halted, pass_of, Steady}
use Rattle.kam.proofs.Chains.{StackChain}
use Rattle.kam.proofs.Scope.{SoundState, Onward, onward}
use Rattle.kam.proofs.Ends.{run_halts, run_goes}
use Rattle.kam.proofs.Halting.{room, tests_fail, Steps, steps as steps_from}
use Rattle.kam.proofs.Tied.{Tied, tied_start, Stepped, tied_next}

-- what a pass says
halt_of : Passed → Option Halt
halt_of (on y) = none
halt_of (halted h w) = some h

words_of : Passed → List ℕ
words_of (on y) = y.records.words
words_of (halted h w) = w

stands_on : Passed → Stood → Stood
stands_on (on y) z = y
stands_on (halted h w) z = z

module _ (o : Option Halt) (w : List ℕ) (y : Stood) where
  abbrev pass : Passed
  pass = if_some o (λ h. halted h w) (λ _. on y)

pass_halt : (o : Option Halt) (w : List ℕ) (y : Stood) → halt_of (pass o w y) ≡ o
unfolding halt_of
pass_halt none w y = refl
pass_halt (some h) w y = refl

-- a pass that halted, and one that went on
halted_pass : (o : Option Halt) (w : List ℕ) (y : Stood) (h : Halt) (w' : List ℕ) → halted h w' ≡ pass o w y → (o ≡ some h) × (w' ≡ w)
unfolding halt_of words_of
halted_pass none w y h w' e = absurd (none-ne-some h (sym (ap halt_of e)))
halted_pass (some k) w y h w' e = (sym (ap halt_of e), ap words_of e)

on_pass : (o : Option Halt) (w : List ℕ) (y z : Stood) → on z ≡ pass o w y → (o ≡ none) × (z ≡ y)
unfolding halt_of stands_on
on_pass none w y z e = (refl, ap (λ p. stands_on p z) e)
on_pass (some k) w y z e = absurd (none-ne-some k (ap halt_of e))

-- The record on top of the stack is 0 exactly where the stack is empty.
abbrev TopOf : Closures → ℕ → Type 0
TopOf ∅ r = r ≡ 0
TopOf (c ▹ S) r = 1 ≤ r

top_of : (w : List ℕ) (M : ℕ → Bool) (S : Closures) (b r : ℕ) → StackChain w M S b r → TopOf S r
top_of w M ∅ b r h = h
top_of w M (c ▹ S) b r h = h.0

-- So the tests say of the records what they say of the machine.
same_tests : (k : Kind) (S : Closures) (R : Records) → TopOf S R.stack
    → first ((is_answer_by k S ⇒ answer) ∷ (is_application k && none_free R ⇒ full) ∷ []) ≡ halt_by k R
same_tests abstraction ∅ R h = rw (eq-eqb R.stack 0 h)
same_tests abstraction (c ▹ S) R h = rw (ne_eqb R.stack 0 (λ z. omega (arith, h)))
same_tests application S R h = refl
same_tests variable S R h = refl
same_tests nothing S R h = refl

-- Steps before a run.
abbrev further : ℕ → Ran → Ran
further k r = record { node = r.node; steps = k + r.steps; halt = r.halt; records = r.records }

pub record Going (T : Table) (lent : List ℕ) (count : ℕ) (x : Stood) (steps : ℕ) : Type 0 where
  pub state : State
  pub made : List Closure
  pub tied : Tied lent made state x.records
  pub node_is : x.node ≡ state.node
  pub sound : SoundState T state
  pub within : steps ≤ count
  pub whole : further steps (run_from T (count - steps) (moment state x.records)) ≡ run_from T count (start_moment lent)

module _ (T : Table) (lent : List ℕ) (count : ℕ) where
  pub going_start : SoundState T start_state → Going T lent count (stood 1 (no_records lent)) 0
  going_start h = record {
    state = start_state;
    made = [];
    tied = tied_start lent;
    node_is = refl;
    sound = h;
    within = omega arith;
    whole =
        let e : count - 0 ≡ count = omega arith in
        let r = run_from T (count - 0) (start_moment lent) in
        let z : 0 + r.steps ≡ r.steps = omega arith in
        (λ i. record { node = r.node; steps = z i; halt = r.halt; records = r.records }) ∙ ap (λ c. run_from T c (start_moment lent)) e;
  }

  module _ (x : Stood) (steps : ℕ) (g : Going T lent count x steps) where
    abbrev s : State
    s = g.state

    abbrev R : Records
    R = x.records

    abbrev m : Moment
    m = moment s R

    top : TopOf s.stack R.stack
    top = top_of R.words g.tied.M s.stack (suc R.taken) R.stack g.tied.stack

    top_few : (S : Closures) → StackChain R.words g.tied.M S (suc R.taken) R.stack → R.stack ≤ R.taken
    top_few ∅ h = omega (arith, h)
    top_few (c ▹ S) h = omega (arith, h.1)

    node_there : kind_at T s.node ≡ nothing → ⊥
    unfolding step_by
    node_there z =
        let h : Onward T s none = subst (λ k. Onward T s (step_by k T s.node s.environment s.stack)) z (onward T s g.sound) in
        false≢true (sym (ap (λ k. is_answer_by k s.stack) z) ∙ h)

    pub going_steady : length lent ≤ most_words → Steady T x
    going_steady l = record {
      few_words = omega (arith, g.tied.past.as_long);
      fit = g.tied.fit;
      top_taken = top_few s.stack g.tied.stack;
      there = λ z. node_there (ap (kind_at T) (sym g.node_is) ∙ z);
    }

    -- the tests before the next step, the count not used up
    abbrev o : Option Halt
    o = halt_by (kind_at T x.node) R

    tests_are : (c : ℕ) → halt_before T (suc c) m ≡ o
    unfolding halt_before
    tests_are c =
        ap (λ b. first ((b ⇒ spent) ∷ (is_answer T s ⇒ answer) ∷ (is_application (kind_at T s.node) && none_free R ⇒ full) ∷ [])) (ne_eqb (suc c) 0 (λ z. omega arith))
        ∙ same_tests (kind_at T s.node) s.stack R top
        ∙ ap (λ i. halt_by (kind_at T i) R) (sym g.node_is)

    -- a run that goes no further
    stands : (h : Halt) (r : Ran) → r ≡ ended m h → record { node = x.node; steps = steps; halt = h; records = R.words } ≡ further steps r
    stands h r e =
        let z : steps ≡ steps + 0 = omega arith in
        (λ i. record { node = g.node_is i; steps = z i; halt = h; records = R.words }) ∙ ap (further steps) (sym e)

    run_halted : (c : ℕ) (h : Halt) → o ≡ some h → run_from T (suc c) m ≡ ended m h
    run_halted c h e = run_halts T lent c m h (tests_are c ∙ e)

    pub going_spent : count ≤ steps → record { node = x.node; steps = count; halt = spent; records = R.words } ≡ run_from T count (start_moment lent)
    unfolding run_from
    going_spent l =
        let all : count ≡ steps = omega (arith, g.within) in
        let none_left : count - steps ≡ 0 = omega arith in
        (λ i. record { node = x.node; steps = all i; halt = spent; records = R.words })
        ∙ stands spent (run_from T (count - steps) m) (ap (λ c. run_from T c m) none_left)
        ∙ g.whole

    module _ (less : steps < count) where
      abbrev left : ℕ
      left = count - suc steps

      one_left : count - steps ≡ suc left
      one_left = omega arith

      pub going_halted : (h : Halt) (w : List ℕ) → halted h w ≡ pass_of T x → record { node = x.node; steps = steps; halt = h; records = w } ≡ run_from T count (start_moment lent)
      going_halted h w e =
          let p = halted_pass o R.words (stepped_by (kind_at T x.node) T x) h w e in
          (λ i. record { node = x.node; steps = steps; halt = h; records = p.1 i })
          ∙ stands h (run_from T (count - steps) m) (ap (λ c. run_from T c m) one_left ∙ run_halted left h p.0)
          ∙ g.whole

      one_more : (r : Ran) → further (steps + 1) r ≡ further steps (longer r)
      one_more r = let z : steps + 1 + r.steps ≡ steps + suc r.steps = omega arith in λ i. record { node = r.node; steps = z i; halt = r.halt; records = r.records }

      run_on : (c : ℕ) (u : State) → o ≡ none → step T s ≡ some u → run_from T (suc c) m ≡ longer (run_from T c (moment u (laid T s.node R)))
      run_on c u e f = run_goes T lent c m (moment u (laid T s.node R)) (tests_are c ∙ e) (ap (λ q. q >>= λ x. some (moment x (laid T s.node R))) f)

      pub going_on : (y : Stood) → on y ≡ pass_of T x → Going T lent count y (steps + 1)
      going_on y e = subst⁻¹ (λ z. Going T lent count z (steps + 1)) to_is record {
        state = u;
        made = g.made ++ new_by (kind_at T s.node) T s;
        tied = after.tied;
        node_is = after.node_is;
        sound = made.sound;
        within = omega arith;
        whole = whole;
      }
        where
          p : (o ≡ none) × (y ≡ stepped_by (kind_at T x.node) T x)
          p = on_pass o R.words (stepped_by (kind_at T x.node) T x) y e

          tests : (is_answer T s ≡ false) × (is_full T m ≡ false)
          tests = tests_fail T (suc left) m (tests_are left ∙ p.0)

          made : Steps T s
          made = steps_from T s g.sound tests.0

          u : State
          u = made.to

          after : Stepped lent (g.made ++ new_by (kind_at T s.node) T s) T (kind_at T s.node) s.node R u
          after = tied_next lent g.made T s R g.tied (room T m g.tied.fit tests.1) u made.made

          to_is : y ≡ stepped_by (kind_at T s.node) T (stood s.node R)
          to_is = p.1 ∙ ap (λ i. stepped_by (kind_at T i) T (stood i R)) g.node_is

          whole : further (steps + 1) (run_from T (count - (steps + 1)) (moment u (laid T s.node R))) ≡ run_from T count (start_moment lent)
          whole =
              ap (λ c. further (steps + 1) (run_from T c (moment u (laid T s.node R)))) (let z : count - (steps + 1) ≡ left = omega arith in z)
              ∙ one_more (run_from T left (moment u (laid T s.node R)))
              ∙ ap (further steps) (sym (run_on left u p.0 made.made))
              ∙ ap (λ c. further steps (run_from T c m)) (sym one_left)
              ∙ g.whole
