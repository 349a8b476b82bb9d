-- `yildreuz_forward`: the outcome, given back, is the call on the session that the numbers stand for.
use Rattle.calls.specs.Stops.{forward}
use Rattle.calls.specs.Moves.{by}
use Rattle.yildreuz.proofs.Given.{told_so}
use Rattle.yildreuz.proofs.yildreuz_forward.Goals as goal

pub returns : goal.returns
returns c =
    let a = c.args in
    told_so (by forward a.count) a.table.now a.n a.session a.log.now a.tape.now (c.given_back.ensures _ _ _) c.forward.ensures c.made_with-s.ensures
