-- `yildreuz_go`: the outcome, given back, is the call on the session that the numbers stand for.
use Rattle.calls.specs.Moves.{go}
use Rattle.yildreuz.proofs.Given.{told_so}
use Rattle.yildreuz.proofs.yildreuz_go.Goals as goal

pub returns : goal.returns
returns c =
    let a = c.args in
    told_so (go a.position a.count) a.table.now a.n a.session a.log.now a.tape.now (c.given_back.ensures _ _ _) c.go.ensures c.made_with-s.ensures
