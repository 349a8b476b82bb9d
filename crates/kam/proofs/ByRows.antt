-- A run goes by what it sees of the table, and so it gives the same by rows.
use mathlib.Core.Path.{◌≡◌, refl, ap, ◌∙◌}
use mathlib.Core.Option.{Option, none, some}
use mathlib.Core.List.{List}
use Prim.Native.Nat.{ℕ}
use Rattle.term.specs.Choice.{if_some}
use Rattle.term.specs.Table.{columns, table_in}
use Rattle.term.specs.ByRows.{sight}
use Rattle.term.proofs.ByRows.{sight_by_columns, same_sight}
use Rattle.kam.specs.Runs.{start_moment, run_from, run_number, refused_run, run_by, run_of}
use Rattle.kam.specs.ByRows.{run_seen, run_in, SameRun}

module _ (w : List ℕ) (n : ℕ) (records : List ℕ) (count : ℕ) where
  by_number : (o : Option ℕ) → run_by o w n records count ≡ if_some o (λ k. refused_run k records) (λ _. run_from (table_in w n) count (start_moment records))
  by_number none = refl
  by_number (some k) = refl

  run_seen_lem : run_of w n records count ≡ run_seen (sight w n) records count
  unfolding run_of run_number
  run_seen_lem = by_number (run_number w n records)

  pub runs_by_columns : run_of w n records count ≡ run_in columns w n records count
  runs_by_columns = run_seen_lem ∙ ap (λ s. run_seen s records count) (sight_by_columns w n)

pub same_run : SameRun
same_run w n records count = run_seen_lem w n records count ∙ ap (λ s. run_seen s records count) (same_sight w n)
