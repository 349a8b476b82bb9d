-- The loop: what is left to run is the whole run.
use mathlib.Core.Path.{◌∙◌}
use native.Mathlib.Omega.{arith}
use Rattle.term.specs.Table.{table_in}
use Rattle.krivine.specs.Types.{halt_meant}
use Rattle.krivine.specs.Standing.{stood_meant}
use Rattle.term.proofs.Accepted.{tree_accepted}
use Rattle.kam.proofs.Scope.{start_sound}
use Rattle.krivine.proofs.Going.{going_start, going_steady, going_halted, going_on, going_spent}
use Rattle.krivine.proofs.runs.run_on.Goals as goal

pub loop-steps-init : goal.loop-steps-init
loop-steps-init c = let a = c.args in going_start (table_in a.tree.now.words a.tree.now.n) a.records.now a.count (start_sound a.tree.now.words a.tree.now.n (tree_accepted a.tree.now))

pub one_pass-requires : goal.one_pass-requires
one_pass-requires c = let l = c.loop-steps in going_steady _ _ _ (stood_meant l.at l.records) l.steps l.invariant c.requires

pub shape_of-records-in-Err : goal.shape_of-records-in-Err
shape_of-records-in-Err c = c.one_pass.auto.records ∙ c.loop-steps.invariant.tied.past.as_long

pub returns-in-Err : goal.returns-in-Err
returns-in-Err c =
    let l = c.loop-steps in
    going_halted _ _ _ (stood_meant l.at l.records) l.steps l.invariant (omega arith) (halt_meant c.in-Err.halt) _ c.in-Err.ensures

pub loop-steps-preserved : goal.loop-steps-preserved
loop-steps-preserved c =
    let l = c.loop-steps in
    going_on _ _ _ (stood_meant l.at l.records) l.steps l.invariant (omega arith) _ c.in-Ok.ensures

pub shape_of-records : goal.shape_of-records
shape_of-records c = c.loop-steps.invariant.tied.past.as_long

pub returns : goal.returns
returns c =
    let l = c.loop-steps in
    going_spent _ _ _ (stood_meant l.at l.records) l.steps l.invariant (omega arith)
