-- The calls that wind, by their kinds: what each answers, which number of its own refuses it, which way it goes and how, and what it does in a list of the third demand, counted on the plain machine alone.
use Rattle.std.specs.Prelude.{◌≡◌, ◌⊎◌, ◌↔◌, cond, List, [], ℕ, ◌+◌, ◌-◌, ◌≤◌, ◌<◌, min, leb}
use Rattle.std.proofs.Math.Option.{Option, some}
use Rattle.term.specs.Choice.{Test, first, if_some, choose}
use Rattle.term.specs.Table.{Table}
use Rattle.machine.specs.Machine.{State}
use Rattle.calls.specs.Session.{Stop, found, Outcome, Given}
use Rattle.calls.specs.Stops.{Way, forward, back, Moment, Room}
use Rattle.calls.specs.Winding.{Run, wind}
use Rattle.calls.specs.Calls.{wind_of, go_to_of}
use Rattle.calls.specs.Visits.{Spot, seek, seek_back, spot_tests, back_to_of, forward_to_of}
use Rattle.calls.specs.Looks.{go_tests, go_of}
use Rattle.calls.specs.Allowed.{stop_after, allowed}
use Rattle.calls.specs.Visited.{VisitedAt, last_visit, next_visit, LastBefore, FirstAfter}

-- by a count forward or back; to a position; to a spot, back, and forward by a count; and by the position and the count that a look handed out
pub data Move : Type 0 where
  by : Way → ℕ → Move
  go_to : ℕ → Move
  back_to : Spot → Move
  forward_to : Spot → ℕ → Move
  go : ℕ → ℕ → Move

-- what each answers, whatever it is given
abbrev pub outcome_of : Move → Given → Outcome
outcome_of (by way c) g = wind_of way g c
outcome_of (go_to q) g = go_to_of g q
outcome_of (back_to v) g = back_to_of g v
outcome_of (forward_to v c) g = forward_to_of g v c
outcome_of (go q c) g = go_of g q c

-- The tests that a call puts of its own after 7 to 9, to a term of n nodes and a session at position p.
abbrev pub own_tests : Move → ℕ → ℕ → List (Test ℕ)
own_tests (by way c) n p = []
own_tests (go_to q) n p = []
own_tests (back_to v) n p = spot_tests n v.node
own_tests (forward_to v c) n p = spot_tests n v.node
own_tests (go q c) n p = go_tests p q

-- the number by which they refuse it
abbrev pub own_number : Move → ℕ → ℕ → Option ℕ
own_number m n p = first (own_tests m n p)

-- which way it goes from position p: "go-to takes a position and is forward or back by the difference"
abbrev pub way_of : Move → ℕ → Way
way_of (by way c) p = way
way_of (go_to q) p = cond (leb p q) forward back
way_of (back_to v) p = back
way_of (forward_to v c) p = forward
way_of (go q c) p = forward

-- the walk that it makes from a moment
abbrev pub run_of : Move → Table → Room → Moment → Run
run_of (by way c) T r m = wind way T r c m
run_of (go_to q) T r m = choose (leb m.position q) (λ _. wind forward T r (q - m.position) m) (λ _. wind back T r (m.position - q) m)
run_of (back_to v) T r m = seek_back T r v m
run_of (forward_to v c) T r m = seek forward T r v c m
run_of (go q c) T r m = wind forward T r c m

-- What a call of the list that its own number does not refuse does at p: where it takes p, and what its stop says.
pub record Course : Type 1 where
  pub to : ℕ
  pub says : Stop → Type 0

-- On the table T, from a state s₀ at position 0.
module _ (T : Table) (s₀ : State) where
  -- Where a call back to a spot takes p: "found takes p to the position found on the plain machine, none leaves p as it was".
  abbrev pub last_found : Spot → ℕ → ℕ
  last_found v p = if_some (last_visit T s₀ v p) (λ q. q) (λ _. p)

  -- What its stop says, where it takes p to q: "None comes exactly if no position from 0 to the present less one has that node and direction", and nothing else comes but found.
  pub record SaysBack (v : Spot) (p q : ℕ) (x : Stop) : Type 0 where
    pub found_or_none : (x ≡ found) ⊎ (x ≡ Stop.none)
    pub found_last : x ≡ found → LastBefore T s₀ v p q
    pub none_exactly : (x ≡ Stop.none) ↔ ((i : ℕ) → i < p → VisitedAt T s₀ v i → ⊥)
    pub none_stays : x ≡ Stop.none → q ≡ p

-- The same with slices of the lengths in r.
module _ (T : Table) (s₀ : State) (r : Room) where
  -- A call forward to a spot: "any other end moves it as forward by that count does".
  abbrev pub next_found : Spot → ℕ → ℕ → ℕ
  next_found v c p = if_some (next_visit T s₀ v (allowed T s₀ r c p) p) (λ q. q) (λ _. p + allowed T s₀ r c p)

  -- Its stop: "found at the first such position after the present that forward by that count reaches, else where forward by that count would end, with its stop", which is
  -- the first of the tests that applies to the plain machine's state there, with what is left of the count.
  pub record SaysForward (v : Spot) (c p q : ℕ) (x : Stop) : Type 0 where
    pub found_first : x ≡ found → FirstAfter T s₀ v p (p + allowed T s₀ r c p) q
    pub else_unvisited : (x ≡ found → ⊥) → (i : ℕ) → p < i → i ≤ p + allowed T s₀ r c p → VisitedAt T s₀ v i → ⊥
    pub else_there : (x ≡ found → ⊥) → q ≡ p + allowed T s₀ r c p
    pub else_stops : (x ≡ found → ⊥) → stop_after T s₀ r (c - allowed T s₀ r c p) (p + allowed T s₀ r c p) ≡ some x

  -- A call back by c takes off min c p, go-to is forward or back by the difference, and go is forward by its count. Of the stops of these the list says no more than of every call.
  abbrev pub course : Move → ℕ → Course
  course (by forward c) p = record { to = p + allowed T s₀ r c p; says = λ x. Unit }
  course (by back c) p = record { to = p - min c p; says = λ x. Unit }
  course (go_to q) p = record { to = choose (leb p q) (λ _. p + allowed T s₀ r (q - p) p) (λ _. p - min (p - q) p); says = λ x. Unit }
  course (back_to v) p = record { to = last_found T s₀ v p; says = λ x. SaysBack T s₀ v p (last_found T s₀ v p) x }
  course (forward_to v c) p = record { to = next_found v c p; says = λ x. SaysForward v c p (next_found v c p) x }
  course (go q c) p = record { to = p + allowed T s₀ r c p; says = λ x. Unit }
