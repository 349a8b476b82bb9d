-- `test_visit` puts 12 after the numbers of every call on a session.
use mathlib.Core.Path.{◌≡◌, sym}
use mathlib.Core.Bool.{or-true}
use mathlib.Core.Option.{none}
use borrow.Author.Tests.{eq-eqb, ne_eqb, lt-ltb, le-ltb}
use Rattle.std.proofs.lemmas.Result.{err_from_is_err_and}
use Rattle.term.specs.Refusal.{refusal_number}
use Rattle.calls.specs.Session.{Given}
use Rattle.calls.specs.Calls.{call_number}
use Rattle.calls.proofs.Unrefused.{visit_as_call, visit_twelve, visit_unrefused}
use Rattle.session.specs.Types.{lent}
use Rattle.session.proofs.check.test_visit.Goals as goal
use Rattle.session.proofs.check.test_visit.Goals.{In_ok-tree}

-- what the call was lent, and that none of 7 to 9 applies past the first test
given : (u : In_ok-tree) → Given
given u = let a = u.args in lent a.table.now a.n a.session a.log.now a.tape.now

unrefused : (u : In_ok-tree) → call_number (given u) ≡ none
unfolding given
unrefused u = sym u.in_ok-tree.ensures.number

pub returns-in_err-tree : goal.returns-in_err-tree
returns-in_err-tree c =
    let a = c.args in
    let p = err_from_is_err_and c.from_residual.result c.from_residual.ensures.1 in
    rw (p.1, p.2)
    (record { number = sym (visit_as_call a.node (lent a.table.now a.n a.session a.log.now a.tape.now) (refusal_number c.in_err-tree.field-0.0) (sym c.in_err-tree.ensures.number)); same = tt })

pub returns-then-node-eq0 : goal.returns-then-node-eq0
unfolding given
returns-then-node-eq0 c =
    let a = c.args in
    let u = (goal.at.returns-then-node-eq0 c).In_ok-tree in
    record { number = sym (visit_twelve a.node (given u) (unrefused u) (rw (eq-eqb a.node 0 c.if-node-eq0.true))); same = tt }

pub returns-then-node-n : goal.returns-then-node-n
unfolding given
returns-then-node-n c =
    let a = c.args in
    let u = (goal.at.returns-then-node-n c).In_ok-tree in
    record { number = sym (visit_twelve a.node (given u) (unrefused u) (rw (lt-ltb a.n a.node c.if-node-n.true, or-true))); same = tt }

pub returns : goal.returns
unfolding given
returns c =
    let a = c.args in
    let u = (goal.at.returns c).In_ok-tree in
    record {
      number = sym (visit_unrefused a.node (given u) (unrefused u) (rw (ne_eqb a.node 0 c.if-node-eq0.false, le-ltb a.n a.node c.if-node-n.false)));
      same = c.in_ok-tree.ensures.same;
    }
