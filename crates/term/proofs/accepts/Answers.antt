-- `accepts` is the test of number 7: its walk reads the whole table.
use mathlib.Core.Path.{sym}
use native.Mathlib.Omega.{arith}
use Rattle.term.proofs.Accepted.{refuses}
use Rattle.term.proofs.Walk.{walked_whole}
use Rattle.term.proofs.accepts.Goals as goal

pub returns-then-n-eq0 : goal.returns-then-n-eq0
returns-then-n-eq0 c = let a = c.args in sym (refuses a.table.now a.n (λ A. omega (arith, A.some_node)))

pub returns-then-n-gt3000 : goal.returns-then-n-gt3000
returns-then-n-gt3000 c = let a = c.args in sym (refuses a.table.now a.n (λ A. omega (arith, A.few_nodes)))

pub returns-then-table-n : goal.returns-then-table-n
returns-then-table-n c = let a = c.args in sym (refuses a.table.now a.n (λ A. omega (arith, A.long)))

pub returns : goal.returns
returns c =
    let a = c.args in
    walked_whole a.table.now _ _ a.n (omega arith) (omega arith) (omega arith) c.part_end.result c.part_end.ensures
