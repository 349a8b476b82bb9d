-- Document 02, change 8: "every call on the columns gives the answer the five-word rows gave". The run; theorems of the same names: proofs/ByRows.antt.
use Rattle.std.specs.Prelude.{◌≡◌, List, ℕ}
use Rattle.term.specs.Choice.{first, if_some}
use Rattle.term.specs.Table.{Layout, rows}
use Rattle.term.specs.ByRows.{by_rows, Sight, sight_by}
use Rattle.kam.specs.Runs.{Ran, start_moment, run_from, run_tests, refused_run, run_of}

-- What a run answers, by what it sees of the table.
abbrev pub run_seen : Sight → List ℕ → ℕ → Ran
run_seen s records count =
    if_some (first (run_tests s.passes records)) (λ k. refused_run k records) (λ _. run_from s.fields count (start_moment records))

-- The run's definition by a layout of the table; by columns it is the run's own (`runs_by_columns`).
abbrev pub run_in : Layout → List ℕ → ℕ → List ℕ → ℕ → Ran
run_in L w n records count = run_seen (sight_by L w n) records count

-- A run gives what it would give on the rows: node, steps, halt, and every word of the records.
abbrev pub SameRun : Type 0
SameRun = (w : List ℕ) (n : ℕ) (records : List ℕ) (count : ℕ) → run_of w n records count ≡ run_in rows (by_rows w n) n records count
