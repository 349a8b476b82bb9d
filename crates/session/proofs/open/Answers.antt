-- `open`: refused with every word as it was, or begun with both slices zeroed.
use mathlib.Core.Path.{sym, ap₂, ◌∙◌}
use Rattle.std.specs.Prelude.{Ok}
use Rattle.std.proofs.lemmas.Result.{err_from_is_err_and}
use Rattle.term.specs.Refusal.{refusal_number}
use Rattle.session.specs.declared.Dir.TheVariants.{Down}
use Rattle.session.specs.Types.{opening_meant}
use Rattle.session.proofs.Numbers.{open_refused, open_begun}
use Rattle.session.proofs.open.Goals as goal

pub returns-in_err-_tree : goal.returns-in_err-_tree
returns-in_err-_tree c =
    let a = c.args in
    let p = err_from_is_err_and c.from_residual.result c.from_residual.ensures.1 in
    rw (p.1, p.2)
    (sym (open_refused a.table.now a.n a.log.now a.tape.now (refusal_number c.in_err-_tree.field-0.0) (sym c.in_err-_tree.ensures.number)))

pub returns : goal.returns
returns c =
    let a = c.args in
    ap₂ (λ ls ts. opening_meant (Ok (record { node = 1; dir = Down; position = 0; log_len = 0; tape_len = 0; turns = 0 })) ls ts)
    (c.fill.ensures.after (λ y e. e))
    (c.fill-2.ensures.after (λ y e. e))
    ∙ sym (open_begun a.table.now a.n a.log.now a.tape.now (sym c.in_ok-_tree.ensures.number))
