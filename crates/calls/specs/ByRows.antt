-- Document 02, change 8: "every call on the columns gives the answer the five-word rows gave". The calls on a session; theorems of the same names: proofs/ByRows.antt.
use Rattle.std.specs.Prelude.{◌≡◌, not, List, [], ◌∷◌, ◌++◌, ℕ}
use Rattle.std.proofs.Math.Option.{Option}
use Rattle.term.specs.Choice.{Test, ◌⇒◌, first, if_some, ◌>>=◌, is_none}
use Rattle.term.specs.Table.{Layout, rows}
use Rattle.term.specs.ByRows.{by_rows, Sight, sight_by}
use Rattle.machine.specs.Machine.{State}
use Rattle.calls.specs.Session.{Outcome, Opening, Given}
use Rattle.calls.specs.Stops.{forward, room}
use Rattle.calls.specs.Held.{state_in}
use Rattle.calls.specs.Calls.{too_long, opening_by, open_of, outcome_by}
use Rattle.calls.specs.Top.{Which, Shown, shows, top_by, top_of}
use Rattle.calls.specs.Looks.{Look, looked, refused_look, look_of}
use Rattle.calls.specs.Moves.{Move, by, outcome_of, own_tests, run_of}

-- What each call answers, by what it sees of the table: the first that applies of its tests refuses it, and else it does what it does from the state given. A call that winds has one shape, whatever its kind.
abbrev pub lent_seen : Sight → List ℕ → List ℕ → List (Test ℕ)
lent_seen s ls ts = (not s.passes ⇒ 7) ∷ (too_long ls ts ⇒ 8) ∷ []

abbrev pub open_seen : Sight → List ℕ → List ℕ → Opening
open_seen s ls ts = opening_by (first (lent_seen s ls ts)) ls ts

module _ (s : Sight) (g : Given) where
  abbrev pub state_seen : Option State
  state_seen = state_in s.fields g.session g.log g.tape

  abbrev pub tests_seen : List (Test ℕ)
  tests_seen = lent_seen s g.log g.tape ++ ((is_none state_seen ⇒ 9) ∷ [])

  abbrev pub outcome_seen : Move → Outcome
  outcome_seen m = outcome_by (first (tests_seen ++ own_tests m g.n g.session.position)) state_seen g (λ x. run_of m s.fields (room g.log g.tape) x)

  abbrev pub look_seen : ℕ → Look
  look_seen c = if_some (first tests_seen) (λ k. refused_look k g.log g.tape) (λ _. looked g c (outcome_seen (by forward c)))

  abbrev pub shown_seen : Which → Option Shown
  shown_seen which = state_seen >>= λ x. shows which x

  abbrev pub top_seen : Which → Shown
  top_seen which = top_by (first (tests_seen ++ ((is_none (shown_seen which) ⇒ 10) ∷ []))) (shown_seen which)

-- The calls' definitions by a layout of the table; by columns they are the calls' own (`opens_by_columns`, `winds_by_columns`, `looks_by_columns`, `tops_by_columns`).
abbrev pub open_by : Layout → List ℕ → ℕ → List ℕ → List ℕ → Opening
open_by L w n ls ts = open_seen (sight_by L w n) ls ts

abbrev pub wind_by : Layout → Move → Given → Outcome
wind_by L m g = outcome_seen (sight_by L g.table g.n) g m

abbrev pub look_by : Layout → Given → ℕ → Look
look_by L g c = look_seen (sight_by L g.table g.n) g c

abbrev pub top_of_by : Layout → Which → Given → Shown
top_of_by L which g = top_seen (sight_by L g.table g.n) g which

-- what a call is given, with the rows of its table
abbrev pub on_rows : Given → Given
on_rows g = record { table = by_rows g.table g.n; n = g.n; session = g.session; log = g.log; tape = g.tape }

-- Open, every kind of call that winds, the look, and the call that shows what is on top give what they gave on the rows: every number, the session, the part, and every word of both slices.
abbrev pub SameOpening : Type 0
SameOpening = (w : List ℕ) (n : ℕ) (ls ts : List ℕ) → open_of w n ls ts ≡ open_by rows (by_rows w n) n ls ts

abbrev pub SameOutcome : Type 0
SameOutcome = (m : Move) (g : Given) → outcome_of m g ≡ wind_by rows m (on_rows g)

abbrev pub SameLook : Type 0
SameLook = (g : Given) (c : ℕ) → look_of g c ≡ look_by rows (on_rows g) c

abbrev pub SameTop : Type 0
SameTop = (which : Which) (g : Given) → top_of which g ≡ top_of_by rows which (on_rows g)
