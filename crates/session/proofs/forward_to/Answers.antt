-- Forward to a spot, by its number: refused, or searched.
use mathlib.Core.Path.{◌≡◌}
use mathlib.Core.Option.{none}
use Rattle.std.proofs.lemmas.Result.{err_from_is_err_and}
use Rattle.calls.specs.Visits.{spot, visit_number}
use Rattle.calls.specs.Moves.{forward_to}
use Rattle.calls.proofs.MoveLaws.{move_number}
use Rattle.session.specs.Types.{dir_meant, lent}
use Rattle.session.proofs.Calls.{move_refuses, move_ready, move_winds}
use Rattle.session.proofs.forward_to.Goals as goal
use Rattle.session.proofs.forward_to.Goals.{In_ok-tree}

-- past the test no number refuses the call
unrefused : (u : In_ok-tree) → (let a = u.args in none ≡ move_number (forward_to (spot a.node (dir_meant a.dir)) a.count) (lent a.table.now a.n a.session a.log.now a.tape.now))
unfolding visit_number
unrefused u = u.in_ok-tree.ensures.number

pub returns-in_err-tree : goal.returns-in_err-tree
unfolding visit_number
returns-in_err-tree c =
    let a = c.args in
    let p = err_from_is_err_and c.from_residual.result c.from_residual.ensures.1 in
    rw (p.1, p.2) (move_refuses (forward_to (spot a.node (dir_meant a.dir)) a.count) a.table.now a.n a.session a.log.now a.tape.now c.in_err-tree.field-0.0 c.in_err-tree.ensures.number)

pub seek-requires : goal.seek-requires
seek-requires c = let a = c.args in rw (c.in_ok-tree.ensures.same.0, c.in_ok-tree.ensures.same.1) (move_ready (forward_to (spot a.node (dir_meant a.dir)) a.count) a.table.now a.n a.session a.log.now a.tape.now (unrefused (goal.at.seek-requires c).In_ok-tree))

pub returns : goal.returns
returns c =
    let a = c.args in
    let k = c.seek in
    move_winds (forward_to (spot a.node (dir_meant a.dir)) a.count) a.table.now a.n a.session a.log.now a.tape.now (unrefused (goal.at.returns c).In_ok-tree) k.result k.new.log k.new.tape (rw (c.in_ok-tree.ensures.same.0, c.in_ok-tree.ensures.same.1) at k.ensures)
