-- `test_call` puts 9 after the numbers of what is lent.
use mathlib.Core.Path.{◌≡◌, sym}
use mathlib.Core.Option.{none}
use borrow.Author.Tests.{not-true, not-false}
use Rattle.std.proofs.lemmas.Result.{err_from_is_err_and}
use Rattle.term.specs.Choice.{is_none}
use Rattle.term.specs.Refusal.{refusal_number}
use Rattle.calls.specs.Session.{Given}
use Rattle.calls.specs.Calls.{lent_number, state_given}
use Rattle.calls.proofs.Unrefused.{call_as_lent}
use Rattle.session.specs.Types.{lent}
use Rattle.session.proofs.Numbers.{call_as_nine, call_as_none}
use Rattle.session.proofs.check.test_call.Goals as goal
use Rattle.session.proofs.check.test_call.Goals.{In_ok-tree}

-- what the call was lent, and that neither 7 nor 8 applies past the first test
given : (u : In_ok-tree) → Given
given u = let a = u.args in lent a.table.now a.n a.session a.log.now a.tape.now

unrefused : (u : In_ok-tree) → (let a = u.args in lent_number a.table.now a.n a.log.now a.tape.now ≡ none)
unrefused u = sym u.in_ok-tree.ensures.number

pub returns-in_err-tree : goal.returns-in_err-tree
returns-in_err-tree c =
    let a = c.args in
    let p = err_from_is_err_and c.from_residual.result c.from_residual.ensures.1 in
    rw (p.1, p.2)
    (record { number = sym (call_as_lent (lent a.table.now a.n a.session a.log.now a.tape.now) (refusal_number c.in_err-tree.field-0.0) (sym c.in_err-tree.ensures.number)); same = tt })

pub returns-then-not-holds_state : goal.returns-then-not-holds_state
unfolding given
returns-then-not-holds_state c =
    let u = (goal.at.returns-then-not-holds_state c).In_ok-tree in
    record { number = sym (call_as_nine (given u) (unrefused u) (not-false (is_none (state_given (given u))) (sym (rw (c.in_ok-tree.ensures.same.0, c.in_ok-tree.ensures.same.1) at c.if-not-holds_state.ensures)))); same = tt }

pub returns : goal.returns
unfolding given
returns c =
    let u = (goal.at.returns c).In_ok-tree in
    record {
      number = sym (call_as_none (given u) (unrefused u) (not-true (is_none (state_given (given u))) (sym (rw (c.in_ok-tree.ensures.same.0, c.in_ok-tree.ensures.same.1) at c.if-not-holds_state.ensures))));
      same = c.in_ok-tree.ensures.same;
    }
