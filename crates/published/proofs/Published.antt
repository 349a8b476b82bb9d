-- The plain machine of document 01 and the published machine of document 003 make the same runs: each step is a transition, and each step back one taken back.
use mathlib.Core.Path.{◌≡◌, refl, sym, ap, ◌∙◌, subst}
use mathlib.Core.Logic.{◌↔◌}
use mathlib.Core.Option.{none, some, some-injective, none-ne-some}
use mathlib.Core.List.{List}
use Prim.Native.Nat.{ℕ, zero, suc}
use Rattle.term.specs.Choice.{◌>>=◌}
use Rattle.term.specs.Term.{Term}
use Rattle.term.specs.Table.{Table, table_in}
use Rattle.term.specs.Accepted.{Accepted}
use Rattle.term.proofs.Choice.{chained, never}
use Rattle.machine.specs.Machine as Machine
use Rattle.machine.specs.Machine.{start_state, turned, step, step_back, after_from, after}
use Rattle.machine.specs.Rule.{rule_at}
use Rattle.machine.specs.Good.{Good}
use Rattle.machine.proofs.Reverse as Reverse
use Rattle.machine.proofs.Bound.{step_bound, back_bound}
use Rattle.machine.proofs.After.{start_good}
use Rattle.machine.proofs.Origins.{Kept}
use Rattle.machine.proofs.Kept.{start_kept, after_bound}
use Rattle.published.specs.Figure.{level, State, initial, Transition, Final, Run, more}
use Rattle.published.specs.Represents.{nothing_on, Represents, rule}
use Rattle.published.proofs.Positions.{IsTable, accepted_table}
use Rattle.published.proofs.Backward.{turn, turn_twice, turned_back}
use Rattle.published.proofs.Steps.{Leads, leads, same_next}
use Rattle.published.proofs.Moves.{moves}
use Rattle.published.proofs.OneState.{one_state, a_state, level_many}

-- The start state stands for the initial state.
pub start_initial : (t : Term) → Represents t start_state (initial t)
start_initial t = record { position = record { whole = refl; number = refl }; same_dir = refl; same_log = tt; same_tape = nothing_on }

represents_turned : (t : Term) (s : Machine.State) (P : State) → Represents t s P → Represents t (Machine.turn s) (turn P)
represents_turned t s P r = record { position = r.position; same_dir = ap turned r.same_dir; same_log = r.same_log; same_tape = r.same_tape }

-- On the table of a closed term:
module _ (w : List ℕ) (n : ℕ) (A : Accepted w n) where
  abbrev T : Table
  T = table_in w n

  abbrev t : Term
  t = A.term

  lies : IsTable T t
  lies = accepted_table w n A

  -- Every good state, as each session has that is not refused, stands for one state of the published machine, whose log is as long as its context's level.
  pub good_published : (s : Machine.State) → Good T s → (P : State) × Represents t s P × ((Q : State) → Represents t s Q → P ≡ Q) × (P.length ≡ level P.context)
  good_published s g =
      let a = a_state T t lies s g in
      (a.0, a.1, (λ Q r. one_state t s a.0 Q a.1 r), level_many T t lies s a.0 g a.1)

  -- Each step is a transition, the one of the step's rule, between the states stood for.
  pub published : (s u : Machine.State) (P : State) → Represents t s P → step T s ≡ some u
      → (Q : State) × (x : Transition P Q) × (rule x ≡ rule_at T s) × Represents t u Q
  published s u P r e =
      let m = moves T t lies s u P r e in
      let l : Leads T t s (rule m.1) m.0 = leads T t lies s P m.0 r (step_bound T s u e) m.1 in
      (m.0, m.1, l.by_rule, same_next T t lies l e)

  -- Each step back, from u to s, is a transition taken back: it leads to u's state, and is the one of the rule that leads from s.
  pub published_back : (s u : Machine.State) (Q : State) → Represents t u Q → step_back T u ≡ some s
      → (P : State) × (x : Transition P Q) × (rule x ≡ rule_at T s) × Represents t s P
  published_back s u Q r e =
      let q = published (Machine.turn u) (Machine.turn s) (turn Q) (represents_turned t u Q r) (Reverse.step_turned T lies.facts s u e) in
      let P : State = turn q.0 in
      let x : Transition P Q = subst (Transition P) (turn_twice Q) (turned_back q.1) in
      let p : Represents t s P = subst (λ z. Represents t z P) (Reverse.turn_twice s) (represents_turned t (Machine.turn s) q.0 q.3) in
      (P, x, (leads T t lies s P Q p (back_bound T lies.facts s u e) x).by_rule, p)

  -- From a state s₀ at position 0 that stands for P₀: p steps are a run of p transitions.
  module _ (s₀ : Machine.State) (P₀ : State) (r₀ : Represents t s₀ P₀) where
    pub published_from : (p : ℕ) (u : Machine.State) → after_from T s₀ p ≡ some u → (Q : State) × Run P₀ p Q × Represents t u Q
    unfolding after_from
    published_from zero u e = (P₀, Run.none, subst (λ z. Represents t z P₀) (some-injective s₀ u e) r₀)
    published_from (suc p) u e =
        let c = chained (after_from T s₀ p) (λ z. step T z) u e in
        let h = published_from p c.0 c.1 in
        let q = published c.0 u h.0 h.2 c.2 in
        (q.0, more h.1 q.1, q.3)

    -- The converse, at every state that the plain machine comes to, where s₀ is good and has kept where its entries come from. There each transition is a step, by the rule of its number;
    module _ (good : Good T s₀) (kept : Kept T s₀) where
      only_from : (p : ℕ) (s : Machine.State) (P Q : State) → after_from T s₀ p ≡ some s → Represents t s P → (x : Transition P Q)
          → (u : Machine.State) × (step T s ≡ some u) × (rule x ≡ rule_at T s) × Represents t u Q
      only_from p s P Q e r x =
          let l : Leads T t s (rule x) Q = leads T t lies s P Q r (after_bound w n A s₀ good kept p s e) x in
          (l.to, l.steps, l.by_rule, l.represents)

      -- each run of p transitions ends in what the state after p steps stands for;
      run_from : (p : ℕ) (P : State) → Run P₀ p P → (s : Machine.State) × (after_from T s₀ p ≡ some s) × Represents t s P
      unfolding after_from
      run_from p P Run.none = (s₀, refl, r₀)
      run_from p P (more {p = k} {Q = Q} r x) =
          let h = run_from k Q r in
          let q = only_from k h.0 Q P h.1 h.2 x in
          (q.0, ap (λ o. o >>= λ u. step T u) h.1 ∙ q.1, q.3)

      -- and the one has no rule exactly where the other is final.
      final_from : (p : ℕ) (s : Machine.State) (P : State) → after_from T s₀ p ≡ some s → Represents t s P → (step T s ≡ none) ↔ Final P
      final_from p s P e r = (
        (λ z Q x. let q = only_from p s P Q e r x in none-ne-some q.0 (sym z ∙ q.1)),
        (λ f. never (step T s) (λ u z. let q = published s u P r z in f q.0 q.1)),
      )

  -- So it is from the start state and the initial state.
  pub published_run : (p : ℕ) (s : Machine.State) → after T p ≡ some s → (P : State) × Run (initial t) p P × Represents t s P
  published_run = published_from start_state (initial t) (start_initial t)

  pub published_only : (p : ℕ) (s : Machine.State) (P Q : State) → after T p ≡ some s → Represents t s P → (x : Transition P Q)
      → (u : Machine.State) × (step T s ≡ some u) × (rule x ≡ rule_at T s) × Represents t u Q
  published_only = only_from start_state (initial t) (start_initial t) (start_good w n A) (start_kept T lies.facts)

  pub run_published : (p : ℕ) (P : State) → Run (initial t) p P → (s : Machine.State) × (after T p ≡ some s) × Represents t s P
  run_published = run_from start_state (initial t) (start_initial t) (start_good w n A) (start_kept T lies.facts)

  pub final : (p : ℕ) (s : Machine.State) (P : State) → after T p ≡ some s → Represents t s P → (step T s ≡ none) ↔ Final P
  final = final_from start_state (initial t) (start_initial t) (start_good w n A) (start_kept T lies.facts)
