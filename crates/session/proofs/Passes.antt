-- A pass of the winding loop: each way out of the code is one law.
use mathlib.Core.Path.{◌≡◌, refl, sym, ap, ◌∙◌, subst, subst₂}
use mathlib.Core.Bool.{Bool, true, false, ◌&&◌, cond, false≢true}
use mathlib.Core.Option.{none, some, some-injective}
use mathlib.Core.List.{List}
use Prim.Native.Nat.{ℕ, suc, ◌+◌, ◌-◌, ◌≤◌, ◌<◌}
use native.Mathlib.Decide.{dec_le}
use native.Mathlib.Omega.{arith}
use lib.ListN.{length}
use lib.Dec.{leb, ltb}
use borrow.Author.Tests.{eqb-true, eqb-false, le-leb, lt-leb, lt-ltb, le-ltb}
use Rattle.term.specs.Table.{Table, table_in}
use Rattle.machine.specs.Machine.{State, turned, turn, step}
use Rattle.machine.specs.Turns.{turn_between}
use Rattle.calls.specs.Session.{answer}
use Rattle.calls.specs.Stops.{Way, forward, back, Moment, moment, moment_of, room, greatest, log_size, tape_size, next_by}
use Rattle.term.proofs.Facts.{accepted_facts}
use Rattle.machine.proofs.Turns.{turn_turned}
use Rattle.calls.proofs.Held.{held_once}
use Rattle.calls.proofs.Moments.{next_few}
use Rattle.calls.proofs.Stops.{Fits, answer_before_jam, jam_before_far, far_before_full, no_halt_forward, start_before_jam, jam_before_full_back, no_halt_back, halt_before_full, log_full_next, tape_full_next, no_stop_next}
use Rattle.session.specs.Types.{session_meant, stop_meant}
use Rattle.session.specs.Steps.{TokenAt, arrived_at, StepIs}
use Rattle.session.specs.Rules.{RuleIs, Fitting, full_stop}
use Rattle.session.specs.Passes.{facing, position_after, session_after, is_end, end_stop, is_far, rule_dir, turns_left, BeforeIs, PassIs}
use Rattle.session.specs.declared.Session as Declared
use Rattle.session.specs.declared.Stop as DeclaredStop
use Rattle.session.specs.declared.Stop.TheVariants.{Jam, Far}
use Rattle.session.specs.declared.choice.Rule.{Rule}
use Rattle.session.specs.declared.choice.Rule.TheVariants.{One, Two, Three, Four, Five, Six, Seven, Eight}
use Rattle.session.specs.declared.rules.Arrival as Arrived
use Rattle.session.specs.declared.rules.Full.{Full}
use Rattle.session.specs.declared.rules.Full.TheVariants as IsFull
use Rattle.std.specs.Prelude.{Result, Ok, Err}
use Rattle.session.proofs.Arrivals.{fits_within}
use Rattle.session.proofs.Facing.{token_after, log_facing, tape_facing, next_onward, next_backward, carried_facing}

-- every rule makes a step
abbrev pub rule_steps : (T : Table) (s : State) (r : Rule) → RuleIs T s r → (u : State) × (step T s ≡ some u)
rule_steps T s (One j) f = (_, f)
rule_steps T s (Two j) f = (_, f.2)
rule_steps T s (Three j) f = (_, f.1)
rule_steps T s (Four j) f = (_, f.3)
rule_steps T s (Five j) f = (_, f.2)
rule_steps T s (Six j) f = (_, f.3)
rule_steps T s (Seven j) f = (_, f)
rule_steps T s (Eight j) f = (_, f.3)

-- and leads in its direction
rule_leads : (T : Table) (s : State) (r : Rule) → RuleIs T s r → (u : State) → step T s ≡ some u → u.dir ≡ rule_dir r
rule_leads T s r f u e = let (v, steps) = rule_steps T s r f in ap (λ x. x.dir) (some-injective u v (sym e ∙ steps)) ∙ leads r f
  where
    leads : (r : Rule) (f : RuleIs T s r) → (rule_steps T s r f).0.dir ≡ rule_dir r
    leads (One j) f = refl
    leads (Two j) f = refl
    leads (Three j) f = refl
    leads (Four j) f = refl
    leads (Five j) f = refl
    leads (Six j) f = refl
    leads (Seven j) f = refl
    leads (Eight j) f = refl

-- a rule with the turns after it, where there are such
abbrev pub by_rule : Rule → Result ℕ DeclaredStop.Stop → Result (Rule × ℕ) DeclaredStop.Stop
by_rule r (Ok k) = Ok (r, k)
by_rule r (Err x) = Err x

-- below a position that is not 0
below : (a b : ℕ) → (b ≡ 0 → ⊥) → ltb a b ≡ leb a (b - 1)
below a b z = by_order (dec_le b a)
  where
    by_order : Dec (b ≤ a) → ltb a b ≡ leb a (b - 1)
    by_order (yes h) = le-ltb a b h ∙ sym (lt-leb a (b - 1) (omega (arith, z)))
    by_order (no h) = lt-ltb a b (omega arith) ∙ sym (le-leb a (b - 1) (omega arith))

module _ {w : List ℕ} {n : ℕ} {se : Declared.Session} {ls ts : List ℕ} {s : State} (h : TokenAt w n se ls ts s) where
  abbrev T : Table
  T = table_in w n

  abbrev here : Moment
  here = moment_of (session_meant se) s

  -- before a step, either way
  pub ends : (way : Way) → is_end way T here ≡ true → BeforeIs w n se way s (Err (end_stop way se))
  ends forward e = λ c. answer_before_jam T c here e ∙ ap (λ i. some (answer i)) (sym h.enters.holds.node_is)
  ends back e = λ c. start_before_jam T c here (eqb-true se.position 0 e)

  pub jams : (way : Way) → is_end way T here ≡ false → step T (facing way s) ≡ none → BeforeIs w n se way s (Err Jam)
  jams forward unanswered e = λ c. jam_before_far T c here unanswered e
  jams back past e = λ c. jam_before_full_back T c here (eqb-false se.position 0 past) (rw e refl)

  pub ends_far : (way : Way) → is_end way T here ≡ false → (r : Rule) → RuleIs T (facing way s) r → is_far way se.position ≡ true → BeforeIs w n se way s (Err Far)
  ends_far forward on r f e = let (u, steps) = rule_steps T s r f in λ c. far_before_full T c here on u steps (eqb-true se.position greatest e)
  ends_far back on r f e = absurd (false≢true e)

  -- A step back by a rule, with the turns that it leaves, or a jam.
  module _ (past : se.position ≡ 0 → ⊥) (r : Rule) (f : RuleIs T (turn s) r) where
    abbrev taken : ℕ
    taken = turn_between (turned s.dir) (rule_dir r)

    -- the moment that a step leads back to
    back_next : (u : State) → step T (turn s) ≡ some u → next_by back T here ≡ cond (leb taken se.turns && ltb (se.turns - taken) se.position) (some (moment (turn u) (se.position - 1) (se.turns - taken))) none
    back_next u e =
        next_backward T s u (session_meant se) e
        ∙ ap (λ k. cond (leb k se.turns && leb (se.turns - k) (se.position - 1)) (some (moment (turn u) (se.position - 1) (se.turns - k))) none)
        (sym (turn_turned s.dir u.dir) ∙ ap (turn_between (turned s.dir)) (rule_leads T (turn s) r f u e))
        ∙ ap (λ b. cond (leb taken se.turns && b) (some (moment (turn u) (se.position - 1) (se.turns - taken))) none) (sym (below (se.turns - taken) se.position past))

    back_turns : (b : Bool) → leb taken se.turns && ltb (se.turns - taken) se.position ≡ b → BeforeIs w n se back s (by_rule r (cond b (Ok (se.turns - taken)) (Err Jam)))
    back_turns true e =
        let (u, steps) = rule_steps T (turn s) r f in
        (λ c. no_halt_back T c here past (moment (turn u) (se.position - 1) (se.turns - taken)) (back_next u steps ∙ rw e refl), omega (arith, past), f, λ v i. back_next v i ∙ rw e refl)
    back_turns false e = let (u, steps) = rule_steps T (turn s) r f in λ c. jam_before_full_back T c here past (back_next u steps ∙ rw e refl)

  makes_by : (way : Way) → is_end way T here ≡ false → (r : Rule) → RuleIs T (facing way s) r → is_far way se.position ≡ false → se.position ≤ greatest
      → BeforeIs w n se way s (by_rule r (turns_left way se (turn_between (facing way s).dir (rule_dir r))))
  makes_by forward on r f e word =
      let (u, steps) = rule_steps T s r f in
      let near = eqb-false se.position greatest e in (
        λ c. no_halt_forward T c here on u steps near,
        omega (arith, near),
        f,
        λ v i. next_onward T s v (session_meant se) i ∙ ap (λ d. some (moment v (se.position + 1) (se.turns + turn_between s.dir d))) (rule_leads T s r f v i),
      )
  makes_by back on r f e word = back_turns (eqb-false se.position 0 on) r f _ refl

  pub makes : (way : Way) → is_end way T here ≡ false → (r : Rule) → RuleIs T (facing way s) r → is_far way se.position ≡ false → se.position ≤ greatest
      → (k : ℕ) → k ≡ turn_between (facing way s).dir (rule_dir r) → BeforeIs w n se way s (by_rule r (turns_left way se k))
  makes way on r f e word k k_is = subst (λ j. BeforeIs w n se way s (by_rule r (turns_left way se j))) (sym k_is) (makes_by way on r f e word)

  -- the pass
  module _ (way : Way) where
    pub halts : (x : DeclaredStop.Stop) → BeforeIs w n se way s (Err x) → PassIs w n se ls ts way s (Err x) ls ts
    halts x b = (λ c. halt_before_full way T (room ls ts) (suc c) here (stop_meant x) (b c), refl, refl)

    -- The rule fits every state that the session turned about holds: there is only one.
    pub fits_facing : (r : Rule) (k : ℕ) → BeforeIs w n se way s (Ok (r, k)) → (about : Declared.Session) → TokenAt w n about ls ts (facing way s) → Fitting w n about ls ts r
    fits_facing r t b about k = record {
      ready = record { state = facing way s; token = k };
      fits = λ u j.
          subst (λ x. RuleIs T x r)
          (held_once T (accepted_facts w n h.enters.accepted_table) (session_meant about) ls ts (facing way s) u k.enters.holds j.enters.holds) b.2;
    }

    module _ (r : Rule) (k : ℕ) (b : BeforeIs w n se way s (Ok (r, k))) (about : Declared.Session) (ls' ts' : List ℕ) where
      pub fills : (f : Full) → StepIs w n about ls ts (facing way s) (Err f) ls' ts' → PassIs w n se ls ts way s (Err (full_stop f)) ls' ts'
      fills IsFull.Log i =
          let (u, e, l, el, et) = i in
          let over : length ls < log_size (facing way u) = omega (arith, log_facing way u) in
          (λ c. log_full_next way T (room ls ts) (suc c) here (b.0 c) _ (b.3 u e) over, el, et)
      fills IsFull.Tape i =
          let (u, e, g, l, el, et) = i in
          let fits : log_size (facing way u) ≤ length ls = omega (arith, log_facing way u) in
          let over : length ts < tape_size (facing way u) = omega (arith, tape_facing way u) in
          (λ c. tape_full_next way T (room ls ts) (suc c) here (b.0 c) _ (b.3 u e) fits over, el, et)

      pub goes_on : length ls' ≡ length ls → length ts' ≡ length ts → (to : Arrived.Arrival) (next : Declared.Session)
          → StepIs w n about ls ts (facing way s) (Ok to) ls' ts' → about.position ≡ se.position → about.turns ≡ se.turns
          → session_meant next ≡ session_after way k (session_meant (arrived_at se.position se.turns to)) → PassIs w n se ls ts way s (Ok (record { session = next; rule = r; carried = to.carried })) ls' ts'
      goes_on el et to next i same same_turns a =
          let (u, e, token, words) = i in
          let came : next_by way T here ≡ some (moment_of (session_meant next) (facing way u)) = b.3 u e ∙ ap (λ x. some (moment_of x (facing way u))) (sym a) in
          let few : k ≤ position_after way se.position = next_few T here _ way h.enters.holds.turns_fit (b.3 u e) in
          let there : TokenAt w n next ls' ts' (facing way u) = token_after (subst₂ (λ p q. TokenAt w n (arrived_at p q to) ls' ts' u) same same_turns token) way k few a in
          let fits : Fits (room ls ts) (facing way u) = fits_within there (λ i. record { log = el i; tape = et i }) in
          (facing way u, b.2, came, λ c. no_stop_next way T (room ls ts) (suc c) here (b.0 c) _ came fits, there, el, et, words ∙ carried_facing way T s)
