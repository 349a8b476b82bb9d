-- The peak of a call in words: "the greatest such weight" (document 02, change 2) over the states stood in, "first and last included". The theorem is `peak_greatest` (proofs/Weight.antt).
use Rattle.std.specs.Prelude.{◌≡◌, ℕ, zero, suc, ◌≤◌}
use Rattle.std.proofs.Math.Option.{Option, some}
use Rattle.term.specs.Choice.{◌>>=◌}
use Rattle.term.specs.Table.{Table, table_in}
use Rattle.machine.specs.Machine.{State}
use Rattle.calls.specs.Session.{Outcome, Given}
use Rattle.calls.specs.Stops.{Way, Moment, moment_of, room, next_by}
use Rattle.calls.specs.Weight.{weight}
use Rattle.calls.specs.Winding.{Run}
use Rattle.calls.specs.Calls.{wound}

module _ (way : Way) (T : Table) where
  -- the moment after j steps
  abbrev pub along : ℕ → Moment → Option Moment
  along zero m = some m
  along (suc j) m = next_by way T m >>= λ u. along j u

  -- one of the states stood in that has the peak
  pub record Highest (m : Moment) (run : Run) : Type 0 where
    pub steps : ℕ
    pub within : steps ≤ run.steps
    pub moment : Moment
    pub stood : along steps m ≡ some moment
    pub weight_is : weight T moment.state ≡ run.peak

  -- a run that ends after its steps, with the greatest weight on the way as its peak
  pub record Walked (m : Moment) (run : Run) : Type 0 where
    pub last_is : along run.steps m ≡ some run.last
    pub covered : (j : ℕ) (u : Moment) → j ≤ run.steps → along j m ≡ some u → weight T u.state ≤ run.peak
    pub highest : Highest m run

-- The outcome is that of a run this way from the state given, and its peak the greatest weight over the states stood in.
abbrev pub PeakOver : Given → State → Way → Outcome → Type 0
PeakOver g s way o =
    (run : Run) × (o ≡ wound (room g.log g.tape) run) × Walked way (table_in g.table g.n) (moment_of g.session s) run
