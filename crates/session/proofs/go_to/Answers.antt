-- Go-to: forward or back by the difference.
use Rattle.session.specs.Types.{lent, outcome_meant}
use Rattle.session.proofs.Calls.{goes_forward, goes_back}
use Rattle.session.proofs.go_to.Goals as goal

pub returns-then-here-position : goal.returns-then-here-position
returns-then-here-position c =
    let a = c.args in
    let k = c.forward in
    goes_forward (lent a.table.now a.n a.session a.log.now a.tape.now) a.position (outcome_meant a.session k.result k.new.log k.new.tape) c.if-here-position.true k.ensures

pub returns-else-here-position : goal.returns-else-here-position
returns-else-here-position c =
    let a = c.args in
    let k = c.back in
    goes_back (lent a.table.now a.n a.session a.log.now a.tape.now) a.position (outcome_meant a.session k.result k.new.log k.new.tape) c.if-here-position.false k.ensures
