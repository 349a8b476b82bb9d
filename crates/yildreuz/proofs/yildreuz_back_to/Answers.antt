-- `yildreuz_back_to`: the call to the spot that the numbers stand for.
use mathlib.Core.Path.{ap, ◌∙◌}
use Rattle.calls.specs.Visits.{spot, back_to_of}
use Rattle.calls.specs.Moves.{back_to}
use Rattle.session.specs.Types.{dir_meant}
use Rattle.face.specs.Told.{called}
use Rattle.yildreuz.proofs.Given.{told_so}
use Rattle.yildreuz.proofs.Spots.{same_spot}
use Rattle.yildreuz.proofs.yildreuz_back_to.Goals as goal

pub returns : goal.returns
returns c =
    let a = c.args in
    told_so (back_to (spot c.chosen_node-i.result (dir_meant c.chosen_dir-dir.result))) a.table.now a.n a.session a.log.now a.tape.now (c.given_back.ensures _ _ _) c.back_to.ensures c.made_with-s.ensures
    ∙ ap (λ v. called (λ g. back_to_of g v) a.table.now a.n a.session a.log.now a.tape.now)
    (same_spot a.node a.direction c.chosen_node-i.ensures (c.chosen_dir-dir.ensures a.node))
