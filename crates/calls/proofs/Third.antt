-- The third demand: what stands after each call of a list is the plain machine's, and what the call answered. No kind of move is named here but forward by a count, which a look tells of.
use mathlib.Core.Path.{◌≡◌, refl, sym, ap, subst}
use mathlib.Core.Option.{Option, none, some}
use mathlib.Core.List.{List, [], ◌∷◌}
use Prim.Native.Nat.{ℕ, ◌*◌, ◌≤◌, zero-le}
use lib.ListN.{length, take}
use Rattle.term.specs.Table.{Table, table_in}
use Rattle.term.specs.Facts.{Facts}
use Rattle.term.specs.Accepted.{Accepted}
use Rattle.term.proofs.Table.{ignored, accepted_ignores}
use Rattle.term.proofs.Accepted.{accepts_all}
use Rattle.term.proofs.Facts.{accepted_facts}
use Rattle.machine.specs.Machine.{State, start_state}
use Rattle.machine.specs.Good.{Good}
use Rattle.machine.proofs.After.{start_good}
use Rattle.machine.proofs.Turns.{turns_at_most}
use Rattle.calls.specs.Session.{Outcome, Given}
use Rattle.calls.specs.Stops.{forward, Moment, beginning, start_moment, moment_after, Room, room}
use Rattle.calls.specs.Winding.{Run}
use Rattle.calls.specs.Calls.{longest, open_number, wound, open_of}
use Rattle.calls.specs.Looks.{look_of}
use Rattle.calls.specs.Foretold.{Foretells}
use Rattle.calls.specs.Moves.{Move, by, outcome_of, own_number, way_of, run_of, course}
use Rattle.calls.specs.Demand.{Call, own, other, look, other_look, AllPermitted, Standing, left_by_open, left_by, left_by_look, given_to, position_by, AsPlain, AsOwn, Demanded, ThirdDemand}
use Rattle.calls.proofs.Unrefused.{lent_unrefused}
use Rattle.calls.proofs.Stops.{Fits}
use Rattle.calls.proofs.Moments.{FewTurns}
use Rattle.calls.proofs.Runs.{Unhindered, Trail, begun, trail_after, trail_fits, trail_good, trail_moment}
use Rattle.calls.proofs.Visits.{Unrefused}
use Rattle.calls.proofs.Entering.{enters_unrefused, laid_down, laid_enters}
use Rattle.calls.proofs.MoveLaws.{Takes}
use Rattle.calls.proofs.EachMove.{laws}
use Rattle.calls.proofs.Answers.{as_given, run_unrefused, refused_unchanged, laid_moved, laid_refused}
use Rattle.calls.proofs.Looks.{look_tells, look_leaves, nothing_told, left_by_look_lem}
use Rattle.calls.proofs.Foretold.{foretells}

-- A list of calls may begin with a good state that fits the slices.
pub record Begins (w : List ℕ) (n : ℕ) (s₀ : State) (r : Room) : Type 0 where
  pub accepted_table : Accepted w n
  pub good : Good (table_in w n) s₀
  pub fits : Fits r s₀
  pub short_log : r.log ≤ longest
  pub short_tape : r.tape ≤ longest

module _ (w : List ℕ) (n : ℕ) (s₀ : State) (r : Room) where
  abbrev T : Table
  T = table_in w n

  nodes_are : T.nodes ≡ n
  unfolding table_in
  nodes_are = refl

  -- what stands is the plain machine's after p steps, all within the slices
  pub record OnTrail (p : ℕ) (st : Standing) : Type 0 where
    pub state : State
    pub trail : Trail T r (beginning s₀) p (moment_after T s₀ p state)
    pub laid : st ≡ laid_down r (moment_after T s₀ p state)

  on_trail : (p : ℕ) (m : Moment) → Trail T r (beginning s₀) p m → OnTrail p (laid_down r m)
  on_trail p m t = let is : m ≡ moment_after T s₀ p m.state = trail_moment T r s₀ p t in record { state = m.state; trail = subst (λ x. Trail T r (beginning s₀) p x) is t; laid = ap (laid_down r) is }

  as_plain : (p : ℕ) (st : Standing) → OnTrail p st → AsPlain T s₀ r p st
  as_plain p st h = record {
    state = h.state;
    after_is = trail_after T r (beginning s₀) h.trail;
    session_is = ap (λ x. x.session) h.laid;
    log_is = ap (λ x. x.log) h.laid;
    tape_is = ap (λ x. x.tape) h.laid;
  }

  -- A call of the list's own is as demanded, and leaves what is the plain machine's again.
  pub record Owned (o : Option ℕ) (m : Move) (p q : ℕ) (g : Given) (x : Outcome) : Type 0 where
    pub as_own : AsOwn T s₀ r o m p g x
    pub stands : OnTrail q (left_by x)

  -- A walk along the course of its call, with every end but a refusal.
  wound_own : (m : Move) (p : ℕ) (g : Given) (run : Run) → Takes T r s₀ (way_of m p) p (course T s₀ r m p) run → Unrefused run.stop → Owned none m p (course T s₀ r m p).to g (wound r run)
  wound_own m p g run h unrefused = record {
    as_own = record {
      steps_are = h.arrives.steps_are;
      unrefused = unrefused;
      back_unjammed = λ b e. subst Unhindered e (h.unhindered b);
      back_log_fits = λ b e. subst Unhindered e (h.unhindered b);
      back_tape_fits = λ b e. subst Unhindered e (h.unhindered b);
      stop_says = h.stop_says;
      carried_is = h.arrives.carried_is;
    };
    stands = on_trail (course T s₀ r m p).to run.last h.arrives.trail;
  }

  module _ (b : Begins w n s₀ r) where
    facts : Facts T
    facts = accepted_facts w n b.accepted_table

    -- A call on what stands after p steps, with a slice that has the opened table.
    module _ (u : List ℕ) (same : take (5 * n) u ≡ take (5 * n) w) (p : ℕ) (s : State) (t : Trail T r (beginning s₀) p (moment_after T s₀ p s)) where
      abbrev now : Moment
      now = moment_after T s₀ p s

      abbrev given : Given
      given = given_to u n (laid_down r now)

      fits_now : Fits r s
      fits_now = trail_fits T r (beginning s₀) b.fits t

      accepted_now : Accepted u n
      accepted_now = accepted_ignores w u n (sym same) b.accepted_table

      good_now : Good (table_in u n) s
      good_now = subst (λ S. Good S s) (sym (ignored u w n same)) (trail_good T r (beginning s₀) facts b.good t)

      few_now : FewTurns now
      few_now = turns_at_most T s₀ p

      by_own : (m : Move) (o : Option ℕ) → own_number m T.nodes p ≡ o → Owned o m p (position_by T s₀ r m p) given (outcome_of m given)
      by_own m none e =
          rw (laid_moved m r now fits_now u n accepted_now good_now few_now b.short_log b.short_tape (rw nodes_are at e), ignored u w n same, e)
          (wound_own m p given (run_of m T r now) ((laws m).takes T r s₀ p s (record { facts = facts; good = b.good; fits = b.fits; trail = t })) (run_unrefused m T r now))
      by_own m (some k) e =
          rw (laid_refused m r now fits_now u n accepted_now good_now few_now b.short_log b.short_tape k (rw nodes_are at e), e)
          (record { as_own = (refl, as_given k given); stands = record { state = s; trail = t; laid = refl } })

      -- a look there
      looks : (c : ℕ) → Foretells T s₀ r c p (look_of given c)
      looks c =
          rw (
            look_tells given c (enters_unrefused given s (laid_enters r now fits_now u n accepted_now good_now few_now b.short_log b.short_tape)),
            laid_moved (by forward c) r now fits_now u n accepted_now good_now few_now b.short_log b.short_tape refl,
            ignored u w n same,
          )
          (foretells T r s₀ p s (record { facts = facts; good = b.good; fits = b.fits; trail = t }) c given refl)

    owned : (m : Move) (u : List ℕ) → take (5 * n) u ≡ take (5 * n) w → (p : ℕ) (st : Standing) → OnTrail p st
        → Owned (own_number m T.nodes p) m p (position_by T s₀ r m p) (given_to u n st) (outcome_of m (given_to u n st))
    owned m u same p st h =
        subst (λ x. Owned (own_number m T.nodes p) m p (position_by T s₀ r m p) (given_to u n x) (outcome_of m (given_to u n x))) (sym h.laid)
        (by_own u same p h.state h.trail m (own_number m T.nodes p) refl)

    pub demanded : (cs : List Call) (p : ℕ) (st : Standing) → OnTrail p st → AllPermitted w n cs → Demanded T s₀ r n cs p st
    unfolding Demanded
    demanded [] p st h a = as_plain p st h
    demanded (own m u ∷ cs) p st h a =
        let o = owned m u a.0 p st h in
        (as_plain p st h, o.as_own, demanded cs (position_by T s₀ r m p) (left_by (outcome_of m (given_to u n st))) o.stands a.1)
    demanded (other m g ∷ cs) p st h a = (as_plain p st h, refused_unchanged m g a.0.0 a.0.1, demanded cs p st h a.1)
    demanded (look c u ∷ cs) p st h a =
        let same : left_by_look st (look_of (given_to u n st) c) ≡ st = left_by_look_lem st (look_of (given_to u n st) c) (look_leaves (given_to u n st) c) in (
          as_plain p st h,
          subst (λ x. Foretells T s₀ r c p (look_of (given_to u n x) c)) (sym h.laid) (looks u a.0 p h.state h.trail c),
          demanded cs p (left_by_look st (look_of (given_to u n st) c)) (subst (λ x. OnTrail p x) (sym same) h) a.1,
        )
    demanded (other_look c g ∷ cs) p st h a = (as_plain p st h, nothing_told g c a.0.0 a.0.1, demanded cs p st h a.1)

-- The list begins with what open left.
module _ (w : List ℕ) (n : ℕ) (ls ts : List ℕ) (A : Accepted w n) (h : length ls ≤ longest) (k : length ts ≤ longest) where
  opened : open_number w n ls ts ≡ none
  opened = lent_unrefused w n ls ts (accepts_all w n A) h k

  start_begins : Begins w n start_state (room ls ts)
  start_begins = record { accepted_table = A; good = start_good w n A; fits = record { log_fits = zero-le; tape_fits = zero-le }; short_log = h; short_tape = k }

  open_stands : OnTrail w n start_state (room ls ts) 0 (left_by_open (open_of w n ls ts))
  unfolding open_of
  open_stands = rw opened (on_trail w n start_state (room ls ts) 0 start_moment begun)

  unrefused : (open_of w n ls ts).refusal ≡ 0
  unfolding open_of
  unrefused = rw opened

pub third_demand : ThirdDemand
third_demand w n ls ts A h k =
    (unrefused w n ls ts A h k, λ cs a. demanded w n start_state (room ls ts) (start_begins w n ls ts A h k) cs 0 (left_by_open (open_of w n ls ts)) (open_stands w n ls ts A h k) a)
