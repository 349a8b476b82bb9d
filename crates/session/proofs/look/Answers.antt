-- A look by its number: refused, or ahead.
use mathlib.Core.Path.{sym}
use Rattle.std.proofs.lemmas.Result.{err_from_is_err_and}
use Rattle.term.specs.Refusal.{refusal_number}
use Rattle.calls.proofs.Looks.{look_refused}
use Rattle.session.specs.Types.{lent}
use Rattle.session.proofs.Calls.{call_ready}
use Rattle.session.proofs.look.Goals as goal

pub returns-in_err-tree : goal.returns-in_err-tree
returns-in_err-tree c =
    let a = c.args in
    let p = err_from_is_err_and c.from_residual.result c.from_residual.ensures.1 in
    rw (p.1, p.2)
    (sym (look_refused (lent a.table.now a.n a.session a.log.now a.tape.now) a.count (refusal_number c.in_err-tree.field-0.0) (sym c.in_err-tree.ensures.number)))

pub look_ahead-requires : goal.look_ahead-requires
look_ahead-requires c = let a = c.args in rw (c.in_ok-tree.ensures.same.0, c.in_ok-tree.ensures.same.1) (call_ready a.table.now a.n a.session a.log.now a.tape.now (sym c.in_ok-tree.ensures.number))
