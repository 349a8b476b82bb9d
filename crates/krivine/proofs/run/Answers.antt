-- `run` refuses by the table, then by the slice, and else runs.
use mathlib.Core.Path.{refl, ◌∙◌}
use mathlib.Core.Bool.{false≢true}
use Rattle.std.proofs.lemmas.Bool.{false_from_ne_true}
use Rattle.term.specs.Accepted.{accepted}
use Rattle.kam.specs.Runs.{start_moment, run_from}
use Rattle.term.specs.Table.{table_in}
use Rattle.kam.proofs.Numbers.{run_seven, run_sixteen, run_unrefused}
use Rattle.krivine.proofs.run.Goals as goal

pub returns-in_default : goal.returns-in_default
returns-in_default c =
    let a = c.args in
    run_seven a.table.now a.n a.records.now a.count (false_from_ne_true (accepted a.table.now a.n) (λ e. false≢true (c.in_default.ensures.exactly.1 e)))

pub returns-then-records-gt16383 : goal.returns-then-records-gt16383
returns-then-records-gt16383 c =
    let a = c.args in
    run_sixteen a.table.now a.n a.records.now a.count (c.in-Some.ensures.exactly.0 refl) c.if-records-gt16383.true

pub returns : goal.returns
returns c =
    let a = c.args in
    let same = c.in-Some.ensures.same in
    c.run_on.ensures
    ∙ (λ i. run_from (table_in (same.0 i) (same.1 i)) a.count (start_moment a.records.now))
    ∙ run_unrefused a.table.now a.n a.records.now a.count (c.in-Some.ensures.exactly.0 refl) c.if-records-gt16383.false
