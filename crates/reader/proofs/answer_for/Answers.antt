-- `answer_for` gives the number of a variable without a binder, number 6, or the table, to all that the code is of.
use mathlib.Core.Path.{sym, ◌∙◌}
use Rattle.term.specs.Refusal.{refusal_number}
use Rattle.reader.proofs.Answering.{unbound_answer, short_answer, whole, table_answer}
use Rattle.reader.proofs.answer_for.Goals as goal

pub returns-then-contains : goal.returns-then-contains
returns-then-contains c =
    let a = c.args in
    λ t i. sym (unbound_answer a.code.now (refusal_number a.unbound) t i a.table.now (sym c.contains.ensures.value ∙ c.if-contains.true))

pub returns-then-table-code : goal.returns-then-table-code
returns-then-table-code c =
    let a = c.args in
    λ t i. sym (short_answer a.code.now (refusal_number a.unbound) t i a.table.now (sym c.contains.ensures.value ∙ c.if-contains.false) c.if-table-code.true)

pub lay_out-requires : goal.lay_out-requires
lay_out-requires c =
    let a = c.args in
    whole a.code.now (refusal_number a.unbound) c.requires.0 c.requires.1 a.table.now (sym c.contains.ensures.value ∙ c.if-contains.false) c.if-table-code.false

pub returns : goal.returns
returns c =
    let a = c.args in
    let z = sym c.contains.ensures.value ∙ c.if-contains.false in
    let h = c.if-table-code.false in
    λ t i.
    let w = whole a.code.now (refusal_number a.unbound) t i a.table.now z h in
    table_answer a.code.now (refusal_number a.unbound) t i a.table.now z h _ (c.lay_out.ensures w.0 w.1)
