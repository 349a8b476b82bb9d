-- `part_of`: the part below the end of the list, or the number that refuses it.
use native.Mathlib.Omega.{arith}
use Rattle.session.specs.Types.{which_meant, lent}
use Rattle.yildreuz.proofs.TopTold.{size_short, fits_so, shown_so}
use Rattle.yildreuz.proofs.parts.part_of.Goals as goal

pub overflow_cast-size : goal.overflow_cast-size
overflow_cast-size c =
    let a = c.args in
    omega (arith, size_short (which_meant c.list_named-list.result) (lent a.table.now a.n a.session a.log.now a.tape.now) c.in_ok-part.ensures.shown)

pub overflow_sub-result : goal.overflow_sub-result
overflow_sub-result c =
    let a = c.args in
    fits_so a.which (which_meant c.list_named-list.result) (lent a.table.now a.n a.session a.log.now a.tape.now) c.list_named-list.ensures c.in_ok-part.ensures.shown c.list_end-end.ensures

pub returns : goal.returns
returns c =
    let a = c.args in
    shown_so a.which (which_meant c.list_named-list.result) (lent a.table.now a.n a.session a.log.now a.tape.now) c.list_named-list.ensures c.in_ok-part.ensures.shown c.list_end-end.ensures
    c.if-which-gt1.false
