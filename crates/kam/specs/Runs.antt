-- Document 02, change 11: the tests before each step, a run by a count, its numbers, and what a run answers on any words at all.
use Rattle.std.specs.Prelude.{Bool, true, false, ◌&&◌, not, List, [], ◌∷◌, ℕ, zero, suc, ◌*◌, ◌≤◌, length, ltb, eqb}
use Rattle.std.proofs.Math.Option.{Option, none, some}
use Rattle.term.specs.Choice.{Test, ◌⇒◌, first, ◌>>=◌, if_some}
use Rattle.term.specs.Table.{Table, table_in, Kind, variable, abstraction, application, nothing, kind_at}
use Rattle.term.specs.Accepted.{accepted}
use Rattle.kam.specs.Krivine.{Closures, ∅, ◌▹◌, State, start_state, step}
use Rattle.kam.specs.Records.{Records, no_records, laid}

-- Why a run ended. A refusal's number comes in its place.
pub data Halt : Type 0 where
  spent answer full : Halt
  refused : ℕ → Halt

-- "node, steps and stop", and the slice after the run
pub record Ran : Type 0 where
  pub node : ℕ
  pub steps : ℕ
  pub halt : Halt
  pub records : List ℕ

-- the machine's state, and how its closures lie
pub record Moment : Type 0 where
  pub state : State
  pub records : Records

abbrev pub moment : State → Records → Moment
moment s R = record { state = s; records = R }

abbrev pub start_moment : List ℕ → Moment
start_moment w = moment start_state (no_records w)

-- a step of the machine, and what it does to the records
abbrev pub next_moment : Table → Moment → Option Moment
next_moment T m = step T m.state >>= λ s. some (moment s (laid T m.state.node m.records))

-- The moment after q steps on a lent slice, if there are so many.
unfoldable pub moment_after : Table → List ℕ → ℕ → Option Moment
moment_after T w zero = some (start_moment w)
moment_after T w (suc q) = moment_after T w q >>= λ m. next_moment T m

-- an abstraction, "and with the stack empty it is the answer"
abbrev pub is_answer_by : Kind → Closures → Bool
is_answer_by abstraction ∅ = true
is_answer_by abstraction (c ▹ S) = false
is_answer_by variable S = false
is_answer_by application S = false
is_answer_by nothing S = false

abbrev pub is_answer : Table → State → Bool
is_answer T s = is_answer_by (kind_at T s.node) s.stack

-- "Each application step takes one new record"
abbrev pub is_application : Kind → Bool
is_application application = true
is_application variable = false
is_application abstraction = false
is_application nothing = false

-- So many records fit into a slice.
abbrev pub Fit : ℕ → List ℕ → Type 0
Fit k w = 3 * k ≤ length w

-- As many are taken as fit: in words,
pub record AsManyAsFit (R : Records) : Type 0 where
  pub fit : Fit R.taken R.words
  pub no_more : (k : ℕ) → Fit k R.words → k ≤ R.taken

-- and as a test: one more does not fit (`full_exactly`, proofs/Lies.antt).
abbrev pub none_free : Records → Bool
none_free R = ltb (length R.words) (3 * suc R.taken)

-- "the run stops as full exactly when such a step finds as many taken as fit"
abbrev pub is_full : Table → Moment → Bool
is_full T m = is_application (kind_at T m.state.node) && none_free m.records

-- "Before each step the tests are, in this order, spent, answer, full."
abbrev pub halt_tests : Table → ℕ → Moment → List (Test Halt)
halt_tests T count m = (eqb count 0 ⇒ spent) ∷ (is_answer T m.state ⇒ answer) ∷ (is_full T m ⇒ full) ∷ []

unfoldable pub halt_before : Table → ℕ → Moment → Option Halt
halt_before T count m = first (halt_tests T count m)

abbrev pub ended : Moment → Halt → Ran
ended m h = record { node = m.state.node; steps = 0; halt = h; records = m.records.words }

-- a run with one step before it
abbrev pub longer : Ran → Ran
longer r = record { node = r.node; steps = suc r.steps; halt = r.halt; records = r.records }

-- "A run takes a count": steps until a test applies, with the count one lower each time. (A count of 0 is spent, the first test; and only on a table that 7 refuses could there be no step, `never_stuck`.)
unfoldable pub run_from : Table → ℕ → Moment → Ran
run_from T zero m = ended m spent
run_from T (suc count) m =
    if_some (halt_before T (suc count) m)
    (λ h. ended m h)
    (λ _. if_some (next_moment T m) (λ u. longer (run_from T count u)) (λ _. ended m (refused 7)))

-- "over 16,383 words"
abbrev pub most_words : ℕ
most_words = 16383

-- "Turned away: 16, after 7, when the slice is over 16,383 words." Number 7 applies where the table does not pass.
abbrev pub run_tests : Bool → List ℕ → List (Test ℕ)
run_tests passes records = (not passes ⇒ 7) ∷ (ltb most_words (length records) ⇒ 16) ∷ []

unfoldable pub run_number : List ℕ → ℕ → List ℕ → Option ℕ
run_number w n records = first (run_tests (accepted w n) records)

-- A refusal has its number for the halt and 0 for every other number, and no lent word differs.
abbrev pub refused_run : ℕ → List ℕ → Ran
refused_run k records = record { node = 0; steps = 0; halt = refused k; records = records }

abbrev pub run_by : Option ℕ → List ℕ → ℕ → List ℕ → ℕ → Ran
run_by (some k) w n records count = refused_run k records
run_by none w n records count = run_from (table_in w n) count (start_moment records)

unfoldable pub run_of : List ℕ → ℕ → List ℕ → ℕ → Ran
run_of w n records count = run_by (run_number w n records) w n records count
