-- On node 0 the token never stands, so a search for it is the walk by its count.
use mathlib.Core.Path.{◌≡◌}
use Prim.Native.Nat.{ℕ, ◌≤◌}
use native.Mathlib.Omega.{arith}
use Rattle.term.specs.Table.{Table}
use Rattle.term.specs.Facts.{Facts}
use Rattle.machine.specs.Machine.{Dir}
use Rattle.machine.specs.Good.{Good}
use Rattle.calls.specs.Stops.{Way, forward, back, Moment, Room}
use Rattle.calls.specs.Winding.{Run, wind}
use Rattle.calls.specs.Visits.{spot, seek, Sought, visited, unvisited}
use Rattle.calls.proofs.Stops.{Fits}
use Rattle.calls.proofs.Moments.{FewTurns}
use Rattle.calls.proofs.Runs.{begun, trail_good, forward_on}
use Rattle.calls.proofs.Visits.{sought}
use Rattle.calls.proofs.Retrace.{backed}

module _ (T : Table) (r : Room) (F : Facts T) (m : Moment) (good : Good T m.state) (fits : Fits r m.state) (few : FewTurns m) where
  -- A walk ends at a good state.
  walk_good : (way : Way) (c : ℕ) → Good T (wind way T r c m).last.state
  walk_good forward c = trail_good T r m F good (forward_on T r m c m 0 begun).trail
  walk_good back c = (backed T r F c m good fits few).good

  pub nowhere_found : (way : Way) (d : Dir) (c : ℕ) → seek way T r (spot 0 d) c m ≡ wind way T r c m
  nowhere_found way d c = by_search (sought way T r (spot 0 d) c m)
    where
      by_search : {run : Run} → Sought way T r (spot 0 d) c m (wind way T r c m) run → run ≡ wind way T r c m
      by_search (visited k f e) =
          let zero_node : (wind way T r k m).last.state.node ≡ 0 = f.visit.2.node_is in
          let some_node : 1 ≤ (wind way T r k m).last.state.node = (walk_good way k).node_there.from_one in
          absurd (omega arith)
      by_search (unvisited away e) = e
