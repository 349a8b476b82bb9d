-- `yildreuz_forward_to`: the call to the spot that the numbers stand for.
use mathlib.Core.Path.{ap, ◌∙◌}
use Rattle.calls.specs.Visits.{spot, forward_to_of}
use Rattle.calls.specs.Moves.{forward_to}
use Rattle.session.specs.Types.{dir_meant}
use Rattle.face.specs.Told.{called}
use Rattle.yildreuz.proofs.Given.{told_so}
use Rattle.yildreuz.proofs.Spots.{same_spot}
use Rattle.yildreuz.proofs.yildreuz_forward_to.Goals as goal

pub returns : goal.returns
returns c =
    let a = c.args in
    told_so (forward_to (spot c.chosen_node-i.result (dir_meant c.chosen_dir-dir.result)) a.count) a.table.now a.n a.session a.log.now a.tape.now (c.given_back.ensures _ _ _) c.forward_to.ensures c.made_with-s.ensures
    ∙ ap (λ v. called (λ g. forward_to_of g v a.count) a.table.now a.n a.session a.log.now a.tape.now)
    (same_spot a.node a.direction c.chosen_node-i.ensures (c.chosen_dir-dir.ensures a.node))
