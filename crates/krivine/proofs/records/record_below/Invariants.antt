-- What is left to go down from the record found so far leads where the whole way does.
use mathlib.Core.Path.{◌≡◌}
use Prim.Native.Nat.{◌-◌}
use Rattle.kam.specs.Records.{record_below}
use Rattle.krivine.proofs.records.record_below.Given as goal

abbrev pub invariant-loop : goal.invariant-loop
invariant-loop l = record_below (l.depth - l.counter) l.records l.number ≡ record_below l.depth l.records l.top
