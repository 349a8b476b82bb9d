-- `test_go` puts 15 after the numbers of every call on a session.
use mathlib.Core.Path.{◌≡◌, sym}
use mathlib.Core.Option.{none}
use borrow.Author.Tests.{eq-eqb, ne_eqb}
use Rattle.std.proofs.lemmas.Result.{err_from_is_err_and}
use Rattle.term.specs.Refusal.{refusal_number}
use Rattle.calls.specs.Session.{Given}
use Rattle.calls.specs.Calls.{call_number}
use Rattle.calls.proofs.Unrefused.{go_as_call, go_fifteen, go_unrefused}
use Rattle.session.specs.Types.{lent}
use Rattle.session.proofs.check.test_go.Goals as goal
use Rattle.session.proofs.check.test_go.Goals.{In_ok-tree}

-- what the call was lent, and that none of 7 to 9 applies past the first test
given : (u : In_ok-tree) → Given
given u = let a = u.args in lent a.table.now a.n a.session a.log.now a.tape.now

unrefused : (u : In_ok-tree) → call_number (given u) ≡ none
unfolding given
unrefused u = sym u.in_ok-tree.ensures.number

pub returns-in_err-tree : goal.returns-in_err-tree
returns-in_err-tree c =
    let a = c.args in
    let p = err_from_is_err_and c.from_residual.result c.from_residual.ensures.1 in
    rw (p.1, p.2)
    (record { number = sym (go_as_call a.position (lent a.table.now a.n a.session a.log.now a.tape.now) (refusal_number c.in_err-tree.field-0.0) (sym c.in_err-tree.ensures.number)); same = tt })

pub returns-then-session-position : goal.returns-then-session-position
unfolding given
returns-then-session-position c =
    let a = c.args in
    let u = (goal.at.returns-then-session-position c).In_ok-tree in
    record { number = sym (go_fifteen a.position (given u) (unrefused u) (rw (ne_eqb a.session.position a.position c.if-session-position.true))); same = tt }

pub returns : goal.returns
unfolding given
returns c =
    let a = c.args in
    let u = (goal.at.returns c).In_ok-tree in
    record {
      number = sym (go_unrefused a.position (given u) (unrefused u) (rw (eq-eqb a.session.position a.position c.if-session-position.false)));
      same = c.in_ok-tree.ensures.same;
    }
