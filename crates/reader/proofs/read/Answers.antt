-- `read` tests the numbers 1 to 3, and then goes on.
use mathlib.Core.Path.{sym}
use Rattle.std.proofs.lemmas.Result.{err_from_is_err_and}
use Rattle.term.specs.Refusal.{refusal_number}
use Rattle.term.proofs.Refusals.{refusal_some}
use Rattle.reader.proofs.Steps.{misspelled}
use Rattle.reader.proofs.read.Goals as goal

pub returns-in_err-spelling : goal.returns-in_err-spelling
returns-in_err-spelling c =
    let r = c.in_err-spelling.field-0.0 in
    let p = err_from_is_err_and c.from_residual.result c.from_residual.ensures.1 in
    rw (p.1, p.2) (sym (misspelled c.args.text.now c.args.table.now (refusal_number r) c.in_err-spelling.ensures (refusal_some r)))

pub read_spelled-requires : goal.read_spelled-requires
read_spelled-requires c = sym c.in_ok-spelling.ensures
