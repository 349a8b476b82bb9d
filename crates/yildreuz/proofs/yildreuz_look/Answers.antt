-- `yildreuz_look`: what is told is the look from the session that the numbers stand for.
use Rattle.yildreuz.proofs.LookTold.{foretold_so}
use Rattle.yildreuz.proofs.yildreuz_look.Goals as goal

pub returns : goal.returns
returns c =
    let a = c.args in
    foretold_so a.table.now a.n a.session a.log.now a.tape.now a.count (c.look_told.ensures _ _) c.look.ensures c.made_with-s.ensures
