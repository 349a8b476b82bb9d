-- Document 02, change 5: when was the token here before, and when is it here next? The two calls that wind to a chosen node in a chosen direction, on any words at all.
use Rattle.std.specs.Prelude.{◌≡◌, Bool, true, false, ◌&&◌, ◌||◌, List, [], ◌∷◌, ◌++◌, ℕ, zero, suc, ◌≤◌, ◌<◌, eqb, ltb}
use Rattle.std.proofs.Math.Option.{Option}
use Rattle.term.specs.Choice.{Test, ◌⇒◌, first, choose, if_some}
use Rattle.term.specs.Table.{Table, table_in}
use Rattle.machine.specs.Machine.{Dir, down, up, State}
use Rattle.calls.specs.Session.{Stop, spent, jam, far, start, log_full, tape_full, found, answer, refused, Outcome, Given}
use Rattle.calls.specs.Stops.{Way, forward, back, Moment, Room, room, next_by, stop_before}
use Rattle.calls.specs.Winding.{Run, ended, longer, wind}
use Rattle.calls.specs.Calls.{state_given, call_tests, outcome_by}

-- "a chosen node in a chosen direction"
pub record Spot : Type 0 where
  pub node : ℕ
  pub dir : Dir

abbrev pub spot : ℕ → Dir → Spot
spot i d = record { node = i; dir = d }

-- "the token stood on" it: a visit,
pub record StandsOn (v : Spot) (s : State) : Type 0 where
  pub node_is : s.node ≡ v.node
  pub dir_is : s.dir ≡ v.dir

-- and as a test (`on_spot`, `off_spot`, proofs/Visits.antt).
abbrev pub same_dir : Dir → Dir → Bool
same_dir down down = true
same_dir down up = false
same_dir up down = false
same_dir up up = true

abbrev pub is_on : Spot → State → Bool
is_on v s = eqb s.node v.node && same_dir s.dir v.dir

-- Steps until the token stands on the spot, and else as `wind`: until the first stop. The state begun with is not looked at, and on arrival found comes before every test of a further step.
unfoldable pub seek : Way → Table → Room → Spot → ℕ → Moment → Run
seek way T r v zero m = ended T m spent
seek way T r v (suc count) m =
    if_some (stop_before way T r (suc count) m)
    (λ x. ended T m x)
    (λ _. if_some (next_by way T m)
    (λ u. longer way T m (choose (is_on v u.state) (λ _. ended T u found) (λ _. seek way T r v count u)))
    (λ _. ended T m jam))

abbrev pub is_found : Stop → Bool
is_found found = true
is_found spent = false
is_found jam = false
is_found far = false
is_found start = false
is_found log_full = false
is_found tape_full = false
is_found Stop.none = false
is_found (answer i) = false
is_found (refused k) = false

-- "Winding back, the call ends there with the new stop found, or says none": position-many steps lead to position 0, and every other end of the search is none, "a jam or a full slice" too.
-- None stands where the call began, makes no step, has "the present state's own peak" and carries nothing, whatever the search carried; that it "gives back the session and slices it got" is `none_gives_back` (proofs/BackTrip.antt).
abbrev pub found_or_none : Table → Moment → Run → Run
found_or_none T m run = choose (is_found run.stop) (λ _. run) (λ _. ended T m Stop.none)

abbrev pub seek_back : Table → Room → Spot → Moment → Run
seek_back T r v m = found_or_none T m (seek back T r v m.position m)

-- "Turned away: 12, after 9, when the node is 0 or over n" (`twelve_exactly`, proofs/Unrefused.antt).
abbrev pub off_term : ℕ → ℕ → Bool
off_term n i = eqb i 0 || ltb n i

abbrev pub spot_tests : ℕ → ℕ → List (Test ℕ)
spot_tests n i = (off_term n i ⇒ 12) ∷ []

unfoldable pub visit_number : ℕ → Given → Option ℕ
visit_number i g = first (call_tests g ++ spot_tests g.n i)

unfoldable pub back_to_of : Given → Spot → Outcome
back_to_of g v = outcome_by (visit_number v.node g) (state_given g) g (λ m. seek_back (table_in g.table g.n) (room g.log g.tape) v m)

unfoldable pub forward_to_of : Given → Spot → ℕ → Outcome
forward_to_of g v count =
    outcome_by (visit_number v.node g) (state_given g) g (λ m. seek forward (table_in g.table g.n) (room g.log g.tape) v count m)

-- The same in words (`sought` and `sought_back`, proofs/Visits.antt, say that they agree). After k steps of those that the call by this count makes the token stands on the spot,
abbrev pub VisitAfter : Way → Table → Room → Spot → ℕ → Moment → ℕ → Type 0
VisitAfter way T r v count m k = (1 ≤ k) × (k ≤ (wind way T r count m).steps) × StandsOn v (wind way T r k m).last.state

-- "the first such position": it does so for the first time.
pub record FirstVisit (way : Way) (T : Table) (r : Room) (v : Spot) (count : ℕ) (m : Moment) (k : ℕ) : Type 0 where
  pub visit : VisitAfter way T r v count m k
  pub first : (j : ℕ) → j < k → VisitAfter way T r v count m j → ⊥

-- a run that ends where it ended, as found
abbrev pub found_by : Run → Run
found_by run = record { last = run.last; steps = run.steps; stop = found; peak = run.peak; carried = run.carried }

-- The run "ends as found at the first such position after the present that forward by that count reaches, else" as another does: forward by that count, and back none.
pub data Sought (way : Way) (T : Table) (r : Room) (v : Spot) (count : ℕ) (m : Moment) (otherwise run : Run) : Type 0 where
  visited : (k : ℕ) → FirstVisit way T r v count m k → run ≡ found_by (wind way T r k m) → Sought way T r v count m otherwise run
  unvisited : ((k : ℕ) → VisitAfter way T r v count m k → ⊥) → run ≡ otherwise → Sought way T r v count m otherwise run
