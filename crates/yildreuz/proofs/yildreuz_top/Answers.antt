-- `yildreuz_top`: what is told of the part is what top shows of the list that the number names.
use mathlib.Core.Path.{◌∙◌}
use Rattle.yildreuz.proofs.TopTold.{told_so}
use Rattle.yildreuz.proofs.yildreuz_top.Goals as goal

pub returns-in-Ok : goal.returns-in-Ok
returns-in-Ok c =
    let a = c.args in
    told_so a.table.now a.n a.session a.log.now a.tape.now a.which c.made_with-s.ensures c.in-Ok.ensures

pub returns-in-Err : goal.returns-in-Err
returns-in-Err c =
    let a = c.args in
    (λ i. (record { offset = 0; len = 0 }, c.number.ensures i))
    ∙ told_so a.table.now a.n a.session a.log.now a.tape.now a.which c.made_with-s.ensures c.in-Err.ensures
