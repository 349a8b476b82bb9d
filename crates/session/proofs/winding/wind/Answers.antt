-- `wind`: a search that never finds.
use Rattle.session.proofs.Searches.{nowhere_winds}
use Rattle.session.proofs.winding.wind.Goals as goal

pub returns : goal.returns
returns c =
    let a = c.args in
    let k = c.seek in
    nowhere_winds a.tree.now.words a.tree.now.n a.session a.log.now a.tape.now a.way a.count k.result k.new.log k.new.tape k.ensures
