-- What the search of a call to a chosen node in a chosen direction promises.
use Rattle.std.specs.Prelude.{◌≡◌, List, ℕ}
use Rattle.term.specs.Table.{table_in}
use Rattle.machine.specs.Machine.{State}
use Rattle.calls.specs.Stops.{moment_of, room}
use Rattle.calls.specs.Calls.{wound}
use Rattle.calls.specs.Visits.{Spot, seek, seek_back}
use Rattle.session.specs.Types.{way_meant, session_meant, walk_meant}
use Rattle.session.specs.Steps.{TokenAt}
use Rattle.session.specs.declared.Session as Declared
use Rattle.session.specs.declared.Outcome as Came
use Rattle.session.specs.declared.winding.Way as DeclaredWay

-- The search answers the run from every state held,
abbrev pub Seeks : List ℕ → ℕ → Declared.Session → List ℕ → List ℕ → DeclaredWay.Way → ℕ → Spot → Came.Outcome → List ℕ → List ℕ → Type 0
Seeks w n se ls ts way count v o ls' ts' =
    (s : State) → TokenAt w n se ls ts s
    → walk_meant o ls' ts' ≡ wound (room ls ts) (seek (way_meant way) (table_in w n) (room ls ts) v count (moment_of (session_meant se) s))

-- and back, found or none.
abbrev pub SeeksBack : List ℕ → ℕ → Declared.Session → List ℕ → List ℕ → Spot → Came.Outcome → List ℕ → List ℕ → Type 0
SeeksBack w n se ls ts v o ls' ts' =
    (s : State) → TokenAt w n se ls ts s → walk_meant o ls' ts' ≡ wound (room ls ts) (seek_back (table_in w n) (room ls ts) v (moment_of (session_meant se) s))
