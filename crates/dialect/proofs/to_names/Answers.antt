-- `to_names` reads a text, and has its table written in the other dialect, or refuses as the reader does.
use Rattle.std.proofs.lemmas.Result.{err_from_is_err_and}
use Rattle.text.specs.Dialects.{names, numbers, own_table}
use Rattle.dialect.proofs.Steps.{refused_converts, written_converts}
use Rattle.dialect.proofs.to_names.Goals as goal

pub returns-in_err-n : goal.returns-in_err-n
unfolding own_table
returns-in_err-n c =
    let p = err_from_is_err_and c.from_residual.result c.from_residual.ensures.1 in
    rw (p.1, p.2) (refused_converts numbers names _ _ _ c.in_err-n.field-0.0 c.in_err-n.ensures)

pub returns : goal.returns
unfolding own_table
returns c = written_converts numbers names _ _ _ c.in_ok-n.n c.in_ok-n.ensures c.write.ensures
