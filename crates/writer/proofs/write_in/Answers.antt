-- `write_in` refuses by the table, then by the length that it measured, and else leaves the text.
use mathlib.Core.Path.{refl, ap}
use mathlib.Core.Bool.{false≢true}
use Rattle.std.proofs.lemmas.Bool.{false_from_ne_true}
use native.Mathlib.Omega.{arith}
use lib.ListN.{length}
use Rattle.term.specs.Accepted.{Accepted, accepted}
use Rattle.term.proofs.Accepted.{accepts_only}
use Rattle.writer.specs.Types.{dialect_meant}
use Rattle.writer.proofs.Whole.{no_table, measured, untouched, too_long, too_much, fitting}
use Rattle.writer.proofs.write_in.Goals as goal
use Rattle.writer.proofs.write_in.Goals.{In-Some}

pub returns-in_default : goal.returns-in_default
returns-in_default c =
    let a = c.args in
    no_table (dialect_meant a.dialect) a.table.now a.n a.text.now (false_from_ne_true (accepted a.table.now a.n) (λ e. false≢true (c.in_default.ensures.exactly.1 e)))

-- Past the first test the table is accepted.
accepted_table : (e : In-Some) → Accepted e.args.table.now e.args.n
accepted_table e = accepts_only _ _ (e.in-Some.ensures.exactly.0 refl)

pub returns-then-len-gt3000 : goal.returns-then-len-gt3000
returns-then-len-gt3000 c =
    let a = c.args in
    let d = dialect_meant a.dialect in
    let A = accepted_table (goal.at.returns-then-len-gt3000 c).In-Some in
    let x = rw (c.in-Some.ensures.same.0, c.in-Some.ensures.same.1) at c.put_text-len.ensures in
    rw (untouched d _ _ A a.text.now x) (too_long d _ _ A _ _ (measured d _ _ A x) (omega (arith, c.if-len-gt3000.true)))

pub returns-then-text-len : goal.returns-then-text-len
returns-then-text-len c =
    let a = c.args in
    let d = dialect_meant a.dialect in
    let A = accepted_table (goal.at.returns-then-text-len c).In-Some in
    let x = rw (c.in-Some.ensures.same.0, c.in-Some.ensures.same.1) at c.put_text-len.ensures in
    let same = untouched d _ _ A a.text.now x in
    rw same (too_much d _ _ A _ _ (measured d _ _ A x) (omega (arith, c.if-len-gt3000.false)) (omega (arith, c.if-text-len.true, ap length same)))

pub returns : goal.returns
returns c =
    let a = c.args in
    let d = dialect_meant a.dialect in
    let A = accepted_table (goal.at.returns c).In-Some in
    let x = rw (c.in-Some.ensures.same.0, c.in-Some.ensures.same.1) at c.put_text-len.ensures in
    let same = untouched d _ _ A a.text.now x in
    fitting d _ _ A _ _ (measured d _ _ A x) (omega (arith, c.if-len-gt3000.false)) (omega (arith, c.if-text-len.false, ap length same)) (rw same at (rw (c.in-Some.ensures.same.0, c.in-Some.ensures.same.1) at c.put_text.ensures))
