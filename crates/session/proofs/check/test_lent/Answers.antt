-- `test_lent` puts 7 before 8.
use mathlib.Core.Path.{refl, sym}
use mathlib.Core.Bool.{false≢true}
use Rattle.std.proofs.lemmas.Bool.{false_from_ne_true}
use Rattle.term.specs.Accepted.{accepted}
use Rattle.calls.proofs.Unrefused.{lent_seven, lent_log_eight, lent_tape_eight, lent_unrefused}
use Rattle.session.proofs.check.test_lent.Goals as goal

pub returns-in_default-clause-number : goal.returns-in_default-clause-number
returns-in_default-clause-number c =
    let a = c.args in
    sym (lent_seven a.table.now a.n a.log.now a.tape.now (false_from_ne_true (accepted a.table.now a.n) (λ e. false≢true (c.in_default.ensures.exactly.1 e))))

pub returns-then-log-gt16384-clause-number : goal.returns-then-log-gt16384-clause-number
returns-then-log-gt16384-clause-number c =
    let a = c.args in
    sym (lent_log_eight a.table.now a.n a.log.now a.tape.now (c.in-Some.ensures.exactly.0 refl) c.if-log-gt16384.true)

pub returns-then-tape-gt16384-clause-number : goal.returns-then-tape-gt16384-clause-number
returns-then-tape-gt16384-clause-number c =
    let a = c.args in
    sym (lent_tape_eight a.table.now a.n a.log.now a.tape.now (c.in-Some.ensures.exactly.0 refl) c.if-tape-gt16384.true)

pub returns-clause-number : goal.returns-clause-number
returns-clause-number c =
    let a = c.args in
    sym (lent_unrefused a.table.now a.n a.log.now a.tape.now (c.in-Some.ensures.exactly.0 refl) c.if-log-gt16384.false c.if-tape-gt16384.false)
