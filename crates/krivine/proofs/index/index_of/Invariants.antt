-- What was counted so far, with what is still to be counted, is the index.
use Prim.Native.Nat.{◌-◌}
use Rattle.term.specs.Table.{table_in}
use Rattle.krivine.proofs.Climb.{Climbs}
use Rattle.krivine.proofs.index.index_of.Given as goal

abbrev pub invariant-loop : goal.invariant-loop
invariant-loop l = Climbs (table_in l.tree.words l.tree.n) l.binder l.initial.at l.tree.n l.at l.between (l.tree.n - l.counter)
