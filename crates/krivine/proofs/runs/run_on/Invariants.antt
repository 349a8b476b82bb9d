-- The loop: what is left to run is the whole run.
use Rattle.term.specs.Table.{table_in}
use Rattle.krivine.specs.Standing.{stood_meant}
use Rattle.krivine.proofs.Going.{Going}
use Rattle.krivine.proofs.runs.run_on.Given as goal

abbrev pub invariant-loop-steps : goal.invariant-loop-steps
invariant-loop-steps l = Going (table_in l.tree.words l.tree.n) l.initial.records l.count (stood_meant l.at l.records) l.steps
