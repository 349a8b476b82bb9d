-- The winding loop: what is left to run from here is the whole run.
use mathlib.Core.Path.{◌≡◌, refl, sym, ap, ap₂, ◌∙◌, subst}
use mathlib.Core.Bool.{true, false, ◌&&◌}
use mathlib.Core.Option.{Option, none, some}
use mathlib.Core.List.{List}
use Prim.Native.Nat.{ℕ, suc, ◌+◌, ◌-◌, ◌*◌, ◌≤◌, ◌<◌, max, zero-le}
use native.Mathlib.Omega.{arith}
use lib.ListN.{length}
use lib.Dec.{eqb}
use Rattle.term.specs.Table.{Table, table_in}
use Rattle.machine.specs.Machine.{State}
use Rattle.calls.specs.Session.{Stop, spent, found}
use Rattle.calls.specs.Stops.{Way, Moment, moment_of, Room, room, next_by, stop_before}
use Rattle.calls.specs.Weight.{bullets, weight}
use Rattle.calls.specs.Winding.{Run, carried_by, ended, longer, wind}
use Rattle.calls.specs.Calls.{longest, wound}
use Rattle.calls.specs.Visits.{Spot, same_dir, is_on, seek}
use Rattle.calls.proofs.Peaks.{walked}
use Rattle.calls.proofs.Carried.{step_carries_few}
use Rattle.calls.proofs.Visits.{seek_none, seek_stops, seek_arrives, seek_goes_on, each_sought, sought}
use Rattle.session.specs.Types.{dir_meant, session_meant, stop_meant, walk_meant}
use Rattle.session.specs.Steps.{TokenAt, Ready}
use Rattle.session.specs.Weight.{weight_of, Weighable, bullets_after, HasCount}
use Rattle.session.specs.Passes.{PassIs, begun_at, lengthened_to, halted_by}
use Rattle.session.specs.declared.Session as Declared
use Rattle.session.specs.declared.Outcome as Came
use Rattle.session.specs.declared.Stop as DeclaredStop
use Rattle.session.specs.declared.Stop.TheVariants.{Spent, Found}
use Rattle.session.specs.declared.winding.Passed.{Passed}
use Rattle.std.specs.Prelude.{Ok, Err}
use Rattle.session.proofs.Arrivals.{fits_within}
use Rattle.session.proofs.Weighing.{few_bullets, pass_counted, pass_countable, weighs, weighable}

-- a run with k steps before it, which carried z words, and the peak q over the states up to its first
abbrev preceded_by : ℕ → ℕ → ℕ → Run → Run
preceded_by k q z r = record { last = r.last; steps = k + r.steps; stop = r.stop; peak = max q r.peak; carried = z + r.carried }

-- a run that ends at m after k steps
abbrev ended_after : ℕ → ℕ → ℕ → Moment → Stop → Run
ended_after k q z m x = record { last = m; steps = k; stop = x; peak = q; carried = z }

module _ (way : Way) (T : Table) (r : Room) (v : Spot) where
  first_weight : (c : ℕ) (m : Moment) → weight T m.state ≤ (seek way T r v c m).peak
  first_weight c m = each_sought (λ x. weight T m.state ≤ x.peak) (λ k f. begins_high k) (begins_high c) (sought way T r v c m)
    where
      begins_high : (k : ℕ) → weight T m.state ≤ (wind way T r k m).peak
      begins_high k = (walked way T r k m).covered 0 m zero-le refl

  none_before : (c q : ℕ) (m : Moment) → q ≡ weight T m.state → preceded_by 0 q 0 (seek way T r v c m) ≡ seek way T r v c m
  none_before c q m e =
      let run : Run = seek way T r v c m in
      let h : weight T m.state ≤ run.peak = first_weight c m in
      let k : 0 + run.steps ≡ run.steps = omega arith in
      let p : max q run.peak ≡ run.peak = omega arith in
      let y : 0 + run.carried ≡ run.carried = omega arith in
      λ i. record { last = run.last; steps = k i; stop = run.stop; peak = p i; carried = y i }

  module _ (k q z : ℕ) (m : Moment) (high : weight T m.state ≤ q) where
    ended_here : (x : Stop) → preceded_by k q z (ended T m x) ≡ ended_after k q z m x
    ended_here x =
        let j : k + 0 ≡ k = omega arith in
        let p : max q (weight T m.state) ≡ q = omega arith in
        let y : z + 0 ≡ z = omega arith in
        λ i. ended_after (j i) (p i) (y i) m x

    spent_here : preceded_by k q z (seek way T r v 0 m) ≡ ended_after k q z m spent
    spent_here = ap (preceded_by k q z) (seek_none way T r v m) ∙ ended_here spent

    halted_here : (c : ℕ) (x : Stop) → stop_before way T r (suc c) m ≡ some x → preceded_by k q z (seek way T r v (suc c) m) ≡ ended_after k q z m x
    halted_here c x e = ap (preceded_by k q z) (seek_stops way T r v c m x e) ∙ ended_here x

    -- a step, and the run from where it leads
    one_longer : (u : Moment) (run : Run) → weight T u.state ≤ run.peak → preceded_by k q z (longer way T m run) ≡ preceded_by (k + 1) (max q (weight T u.state)) (z + carried_by way T m.state) run
    one_longer u run h =
        let j : k + suc run.steps ≡ k + 1 + run.steps = omega arith in
        let p : max q (max (weight T m.state) run.peak) ≡ max (max q (weight T u.state)) run.peak = omega arith in
        let y : z + (carried_by way T m.state + run.carried) ≡ z + carried_by way T m.state + run.carried = omega arith in
        λ i. record { last = run.last; steps = j i; stop = run.stop; peak = p i; carried = y i }

    module _ (c : ℕ) (u : Moment) (e : stop_before way T r (suc c) m ≡ none) (n : next_by way T m ≡ some u) where
      one_more : is_on v u.state ≡ false → preceded_by k q z (seek way T r v (suc c) m) ≡ preceded_by (k + 1) (max q (weight T u.state)) (z + carried_by way T m.state) (seek way T r v c u)
      one_more a = ap (preceded_by k q z) (seek_goes_on way T r v c m u e n a) ∙ one_longer u (seek way T r v c u) (first_weight c u)

      found_there : is_on v u.state ≡ true → preceded_by k q z (seek way T r v (suc c) m) ≡ ended_after (k + 1) (max q (weight T u.state)) (z + carried_by way T m.state) u found
      found_there a =
          ap (preceded_by k q z) (seek_arrives way T r v c m u e n a)
          ∙ one_longer u (ended T u found) (omega arith)
          ∙ (let j : k + 1 + 0 ≡ k + 1 = omega arith in
          let p : max (max q (weight T u.state)) (weight T u.state) ≡ max q (weight T u.state) = omega arith in
          let y : z + carried_by way T m.state + 0 ≡ z + carried_by way T m.state = omega arith in
          λ i. ended_after (j i) (p i) (y i) u found)

-- The outcome of a session that holds the state where the whole run ends.
module _ (o : Came.Outcome) {w : List ℕ} {n : ℕ} {ls ts : List ℕ} {s : State} (t : TokenAt w n o.session ls ts s) (r : Room) (same_room : room ls ts ≡ r) where
  comes_out : (run : Run) (x : DeclaredStop.Stop) → run ≡ ended_after o.steps o.peak o.carried (moment_of (session_meant o.session) s) (stop_meant x) → walk_meant (halted_by o x) ls ts ≡ wound r run
  comes_out run x f =
      let h = t.enters.holds in
      (λ i. record {
        session = record { node = h.node_is i; dir = h.dir_is i; position = o.session.position; log_length = h.log_length_is i; tape_length = h.tape_length_is i; turns = o.session.turns };
        steps = o.steps;
        stop = stop_meant x;
        peak = o.peak;
        carried = o.carried;
        log = h.log_lies i;
        tape = h.tape_lies i;
      })
      ∙ ap (λ q. wound q (ended_after o.steps o.peak o.carried (moment_of (session_meant o.session) s) (stop_meant x))) same_room
      ∙ ap (wound r) (sym f)

-- The loop of a call with its running outcome o and its count of bullets b, over slices of the lengths in r: what it still has to run is what is left of the whole run.
pub record Loop (way : Way) (w : List ℕ) (n : ℕ) (r : Room) (v : Spot) (run : Run) (count : ℕ) (o : Came.Outcome) (b : ℕ) (ls ts : List ℕ) : Type 0 where
  pub state : State
  pub token : TokenAt w n o.session ls ts state
  pub unhalted : o.stop ≡ Spent
  pub same_log : length ls ≡ r.log
  pub same_tape : length ts ≡ r.tape
  pub counted : b ≡ bullets state.tape
  pub high : weight (table_in w n) state ≤ o.peak
  pub few_carried : o.carried ≤ longest * o.steps
  pub left : preceded_by o.steps o.peak o.carried (seek way (table_in w n) r v (count - o.steps) (moment_of (session_meant o.session) state)) ≡ run

-- the loop of the call that is given state s₀
abbrev pub LoopOf : Way → List ℕ → ℕ → Spot → ℕ → Declared.Session → List ℕ → List ℕ → State → Came.Outcome → ℕ → List ℕ → List ℕ → Type 0
LoopOf way w n v count se₀ ls₀ ts₀ s₀ o b ls ts =
    Loop way w n (room ls₀ ts₀) v (seek way (table_in w n) (room ls₀ ts₀) v count (moment_of (session_meant se₀) s₀)) count o b ls ts

module _ {w : List ℕ} {n : ℕ} {se : Declared.Session} {ls ts : List ℕ} {s : State} (h : TokenAt w n se ls ts s) where
  pub loop_begins : (way : Way) (v : Spot) (count b : ℕ) → b ≡ bullets s.tape → LoopOf way w n v count se ls ts s (begun_at n se b) b ls ts
  loop_begins way v count b k =
      let m : Moment = moment_of (session_meant se) s in
      let e : count - 0 ≡ count = omega arith in
      record {
        state = s;
        token = h;
        unhalted = refl;
        same_log = refl;
        same_tape = refl;
        counted = k;
        high = omega (arith, weighs h k);
        few_carried = zero-le;
        left = ap (λ c. preceded_by 0 (weight_of n se b) 0 (seek way (table_in w n) (room ls ts) v c m)) e ∙ none_before way (table_in w n) (room ls ts) v count (weight_of n se b) m (weighs h k);
      }

module _ {way : Way} {w : List ℕ} {n : ℕ} {r : Room} {v : Spot} {run : Run} {count : ℕ} {o : Came.Outcome} {b : ℕ} {ls ts : List ℕ} (l : Loop way w n r v run count o b ls ts) where
  pub ready : Ready w n o.session ls ts
  ready = record { state = l.state; token = l.token }

  abbrev standing : Moment
  standing = moment_of (session_meant o.session) l.state

  same_room : room ls ts ≡ r
  same_room = λ i. record { log = l.same_log i; tape = l.same_tape i }

  -- what is left, for a count of steps left
  left_by : (c : ℕ) → count - o.steps ≡ c → run ≡ preceded_by o.steps o.peak o.carried (seek way (table_in w n) r v c standing)
  left_by c e = sym l.left ∙ ap (λ j. preceded_by o.steps o.peak o.carried (seek way (table_in w n) r v j standing)) e

  pub loop_spent : count ≤ o.steps → walk_meant o ls ts ≡ wound r run
  loop_spent d =
      let e : count - o.steps ≡ 0 = omega arith in
      (λ i. walk_meant (record { session = o.session; steps = o.steps; stop = l.unhalted i; peak = o.peak; carried = o.carried }) ls ts)
      ∙ comes_out o l.token r same_room run Spent (left_by 0 e ∙ spent_here way (table_in w n) r v o.steps o.peak o.carried standing l.high)

  module _ (d : o.steps < count) where
    -- the steps left after this one
    abbrev still : ℕ
    still = count - (o.steps + 1)

    one_left : count - o.steps ≡ suc still
    one_left = omega arith

    stop_here : (q : Option Stop) → ((c : ℕ) → stop_before way (table_in w n) (room ls ts) (suc c) standing ≡ q) → stop_before way (table_in w n) r (suc still) standing ≡ q
    stop_here q stops = subst (λ x. stop_before way (table_in w n) x (suc still) standing ≡ q) same_room (stops still)

    pub loop_halted : {ls' ts' : List ℕ} (x : DeclaredStop.Stop) → PassIs w n o.session ls ts way l.state (Err x) ls' ts' → walk_meant (halted_by o x) ls' ts' ≡ wound r run
    loop_halted x p =
        let (stops, el, et) = p in
        (λ i. walk_meant (halted_by o x) (el i) (et i))
        ∙ comes_out o l.token r same_room run x (left_by (suc still) one_left ∙ halted_here way (table_in w n) r v o.steps o.peak o.carried standing l.high still (stop_meant x) (stop_here (some (stop_meant x)) stops))

    module _ {ls' ts' : List ℕ} (x : Passed) (p : PassIs w n o.session ls ts way l.state (Ok x) ls' ts') where
      -- the bullets after the step, and that there is such a number
      still_counted : bullets_after x.rule b ≡ bullets p.0.tape
      still_counted = ap (bullets_after x.rule) l.counted ∙ sym (pass_counted way (table_in w n) l.state x.rule p.1 (session_meant o.session) (moment_of (session_meant x.session) p.0) p.2)

      pub loop_countable : HasCount x.rule b
      loop_countable = subst (HasCount x.rule) (sym l.counted) (pass_countable way (table_in w n) l.state x.rule p.1 (few_bullets l.token))

      pub loop_weighable : Weighable n x.session (bullets_after x.rule b)
      loop_weighable = weighable p.4 still_counted

      -- the slices are as long as they were
      room_there : room ls' ts' ≡ r
      room_there = let (u, by_rule, e, stops, h, el, et, words) = p in λ i. record { log = (el ∙ l.same_log) i; tape = (et ∙ l.same_tape) i }

      -- the step carries no more than a slice holds
      pub loop_carries_few : x.carried ≤ longest
      loop_carries_few =
          let (u, by_rule, e, stops, h, el, et, words) = p in
          omega (
            arith,
            step_carries_few way (table_in w n) r (subst (λ q. q.log ≤ longest) same_room l.token.enters.short_log) standing (moment_of (session_meant x.session) u) e
                (fits_within l.token same_room) (fits_within h room_there),
          )

      pub loop_goes_on : is_on v p.0 ≡ false → Loop way w n r v run count (lengthened_to o n x.session (bullets_after x.rule b) x.carried) (bullets_after x.rule b) ls' ts'
      loop_goes_on away =
          let (u, by_rule, e, stops, h, el, et, words) = p in
          let m : Moment = moment_of (session_meant x.session) u in
          record {
            state = u;
            token = h;
            unhalted = refl;
            same_log = el ∙ l.same_log;
            same_tape = et ∙ l.same_tape;
            counted = still_counted;
            high = omega (arith, weighs h still_counted);
            few_carried = (let few : x.carried ≤ longest = loop_carries_few in let before : o.carried ≤ longest * o.steps = l.few_carried in omega arith);
            left =
                ap₂ (λ q z. preceded_by (o.steps + 1) (max o.peak q) (o.carried + z) (seek way (table_in w n) r v still m)) (weighs h still_counted) words
                ∙ sym (left_by (suc still) one_left ∙ one_more way (table_in w n) r v o.steps o.peak o.carried standing l.high still m (stop_here none stops) e away);
          }

      -- A step to a visit ends the run there.
      pub loop_found : is_on v p.0 ≡ true → walk_meant (halted_by (lengthened_to o n x.session (bullets_after x.rule b) x.carried) Found) ls' ts' ≡ wound r run
      loop_found there =
          let (u, by_rule, e, stops, h, el, et, words) = p in
          let m : Moment = moment_of (session_meant x.session) u in
          comes_out (lengthened_to o n x.session (bullets_after x.rule b) x.carried) h r room_there run Found
          (left_by (suc still) one_left
          ∙ found_there way (table_in w n) r v o.steps o.peak o.carried standing l.high still m (stop_here none stops) e there
          ∙ ap₂ (λ q z. ended_after (o.steps + 1) (max o.peak q) (o.carried + z) m found) (sym (weighs h still_counted)) (sym words))

-- Whether the token stands on a spot, by its session.
pub token_on : {w : List ℕ} {n : ℕ} {se : Declared.Session} {ls ts : List ℕ} {s : State} → TokenAt w n se ls ts s → (v : Spot)
    → is_on v s ≡ eqb se.node v.node && same_dir (dir_meant se.dir) v.dir
token_on h v = ap₂ (λ i d. eqb i v.node && same_dir d v.dir) (sym h.enters.holds.node_is) (sym h.enters.holds.dir_is)
