-- The third demand of document 01, with the calls that document 02, changes 5 and 10, add to its list, the sums of its change 6 and the turns of its change 9, as one statement over lists of calls. The theorem is `third_demand` (proofs/Third.antt).
use Rattle.std.specs.Prelude.{◌≡◌, List, [], ◌∷◌, ℕ, ◌+◌, ◌-◌, ◌*◌, ◌≤◌, length, take}
use Rattle.std.proofs.Math.Option.{Option, none, some}
use Rattle.term.specs.Choice.{if_some}
use Rattle.term.specs.Table.{Table, table_in}
use Rattle.term.specs.Accepted.{Accepted}
use Rattle.machine.specs.Machine.{State, start_state, after_from}
use Rattle.machine.specs.Carried.{carried_between}
use Rattle.calls.specs.Session.{Session, jam, log_full, tape_full, refused, Outcome, Opening, Given}
use Rattle.calls.specs.Stops.{back, moment_after, Room, room}
use Rattle.calls.specs.Calls.{longest, session_at, log_slice, tape_slice, open_of}
use Rattle.calls.specs.Looks.{Look, look_of}
use Rattle.calls.specs.Foretold.{Foretells}
use Rattle.calls.specs.Moves.{Move, outcome_of, own_number, way_of, course}

-- A call of the list: its own gets the session and slices that stand, and brings a slice that has the opened table;
-- another's gets whatever it is given. "Winding lists may hold both calls" of document 02, change 10: go is a move, and a look is by a count.
pub data Call : Type 0 where
  own : Move → List ℕ → Call
  other : Move → Given → Call
  look : ℕ → List ℕ → Call
  other_look : ℕ → Given → Call

-- "A call given another table, another n, another session or other slices stands there only as a refused one".
abbrev pub Permitted : List ℕ → ℕ → Call → Type 0
Permitted w n (own m u) = take (5 * n) u ≡ take (5 * n) w
Permitted w n (other m g) = (k : ℕ) × ((outcome_of m g).stop ≡ refused k)
Permitted w n (look c u) = take (5 * n) u ≡ take (5 * n) w
Permitted w n (other_look c g) = (k : ℕ) × ((look_of g c).stop ≡ refused k)

abbrev pub AllPermitted : List ℕ → ℕ → List Call → Type 0
AllPermitted w n [] = Unit
AllPermitted w n (c ∷ cs) = Permitted w n c × AllPermitted w n cs

-- the session and the slices as they stand between two calls
pub record Standing : Type 0 where
  pub session : Session
  pub log : List ℕ
  pub tape : List ℕ

abbrev pub left_by_open : Opening → Standing
left_by_open o = record { session = o.session; log = o.log; tape = o.tape }

abbrev pub left_by : Outcome → Standing
left_by o = record { session = o.session; log = o.log; tape = o.tape }

-- a look is handed the session by value and answers none; the slices are as it leaves them
abbrev pub left_by_look : Standing → Look → Standing
left_by_look st l = record { session = st.session; log = l.log; tape = l.tape }

abbrev pub given_to : List ℕ → ℕ → Standing → Given
given_to u n st = record { table = u; n = n; session = st.session; log = st.log; tape = st.tape }

-- "the list goes on with what stood before" a refused call, and with what each of its own left.
abbrev pub standing_after : ℕ → Standing → Call → Standing
standing_after n st (own m u) = left_by (outcome_of m (given_to u n st))
standing_after n st (other m g) = st
standing_after n st (look c u) = left_by_look st (look_of (given_to u n st) c)
standing_after n st (other_look c g) = st

-- A refused call gives back the session and both slices that it was given, word for word, makes no step, has no peak and carries nothing.
pub record RefusedCall (g : Given) (o : Outcome) : Type 0 where
  pub session_is : o.session ≡ g.session
  pub log_is : o.log ≡ g.log
  pub tape_is : o.tape ≡ g.tape
  pub no_steps : o.steps ≡ 0
  pub no_peak : o.peak ≡ 0
  pub nothing_carried : o.carried ≡ 0

-- A refused look gives back both slices, word for word, and tells and hands out nothing.
pub record NothingTold (g : Given) (l : Look) : Type 0 where
  pub log_is : l.log ≡ g.log
  pub tape_is : l.tape ≡ g.tape
  pub no_steps : l.steps ≡ 0
  pub no_peak : l.peak ≡ 0
  pub nothing_carried : l.carried ≡ 0
  pub no_position : l.position ≡ 0
  pub no_count : l.count ≡ 0

-- On the table T, from a state s₀ at position 0, which is `start_state` below, with slices of the lengths in r.
module _ (T : Table) (s₀ : State) (r : Room) where
  -- A call of the list's own takes p along its course; one that its own number refuses leaves p as it was.
  abbrev pub position_by : Move → ℕ → ℕ
  position_by m p = if_some (own_number m T.nodes p) (λ k. p) (λ _. (course T s₀ r m p).to)

  -- "a look adds nothing to p"
  abbrev pub position_after : ℕ → Call → ℕ
  position_after p (own m u) = position_by m p
  position_after p (other m g) = p
  position_after p (look c u) = p
  position_after p (other_look c g) = p

  -- The session, its turns too, and every word of both slices are those of the plain machine after p steps.
  pub record AsPlain (p : ℕ) (st : Standing) : Type 0 where
    pub state : State
    pub after_is : after_from T s₀ p ≡ some state
    pub session_is : st.session ≡ session_at (moment_after T s₀ p state)
    pub log_is : st.log ≡ log_slice r (moment_after T s₀ p state)
    pub tape_is : st.tape ≡ tape_slice r (moment_after T s₀ p state)

  -- A call of the list's own on its course from p: it answers the steps that it added to p or took off, is not refused, going back ends in no jam and no full slice, and says by its stop what
  -- its kind does. "The sum is that of the plain machine's steps" (document 02, change 6), which are those between p and the new p.
  pub record OwnCall (m : Move) (p : ℕ) (o : Outcome) : Type 0 where
    pub steps_are : o.steps ≡ ((course T s₀ r m p).to - p) + (p - (course T s₀ r m p).to)
    pub unrefused : (k : ℕ) → o.stop ≡ refused k → ⊥
    pub back_unjammed : way_of m p ≡ back → o.stop ≡ jam → ⊥
    pub back_log_fits : way_of m p ≡ back → o.stop ≡ log_full → ⊥
    pub back_tape_fits : way_of m p ≡ back → o.stop ≡ tape_full → ⊥
    pub stop_says : (course T s₀ r m p).says o.stop
    pub carried_is : o.carried ≡ carried_between T s₀ p (course T s₀ r m p).to

  -- A call of the list's own, given g: refused by its own number, and then it gives back what stood, or as above.
  abbrev pub AsOwn : Option ℕ → Move → ℕ → Given → Outcome → Type 0
  AsOwn (some k) m p g o = (o.stop ≡ refused k) × RefusedCall g o
  AsOwn none m p g o = OwnCall m p o

  -- "the steps it tells are foretold, not made": a look tells what forward by its count comes to from p on the plain machine.
  abbrev pub AsDemanded : ℕ → ℕ → Standing → Call → Type 0
  AsDemanded n p st (own m u) = AsOwn (own_number m T.nodes p) m p (given_to u n st) (outcome_of m (given_to u n st))
  AsDemanded n p st (other m g) = RefusedCall g (outcome_of m g)
  AsDemanded n p st (look c u) = Foretells T s₀ r c p (look_of (given_to u n st) c)
  AsDemanded n p st (other_look c g) = NothingTold g (look_of g c)

  -- Before each call of the list and after the last, what stands is the plain machine's after p steps, p being counted as above.
  unfoldable pub Demanded : ℕ → List Call → ℕ → Standing → Type 0
  Demanded n [] p st = AsPlain p st
  Demanded n (c ∷ cs) p st = AsPlain p st × AsDemanded n p st c × Demanded n cs (position_after p c) (standing_after n st c)

-- For every accepted table, every two slices of a permitted length, whatever they held before open, and every list of permitted calls.
abbrev pub ThirdDemand : Type 0
ThirdDemand =
    (w : List ℕ) (n : ℕ) (ls ts : List ℕ) → Accepted w n → length ls ≤ longest → length ts ≤ longest
    → ((open_of w n ls ts).refusal ≡ 0)
    × ((cs : List Call) → AllPermitted w n cs → Demanded (table_in w n) start_state (room ls ts) n cs 0 (left_by_open (open_of w n ls ts)))
