-- `yildreuz_go_to`: the outcome, given back, is the call on the session that the numbers stand for.
use Rattle.calls.specs.Moves.{go_to}
use Rattle.yildreuz.proofs.Given.{told_so}
use Rattle.yildreuz.proofs.yildreuz_go_to.Goals as goal

pub returns : goal.returns
returns c =
    let a = c.args in
    told_so (go_to a.position) a.table.now a.n a.session a.log.now a.tape.now (c.given_back.ensures _ _ _) c.go_to.ensures c.made_with-s.ensures
