-- `holds_state`: a length over its slice, or a word not 0 above a top, leaves no state; where there is neither, the walk answers.
use mathlib.Core.Path.{◌≡◌, refl, sym, ap}
use mathlib.Core.Bool.{Bool, true, false}
use mathlib.Core.List.{List}
use Prim.Native.Nat.{ℕ, ◌-◌}
use native.Mathlib.Omega.{arith}
use lib.ListN.{length, take, drop}
use Rattle.term.specs.Table.{table_in}
use Rattle.machine.specs.Slice.{all_zero}
use Rattle.session.specs.Types.{session_meant}
use Rattle.session.proofs.Words.{zeros_past}
use Rattle.session.proofs.Counting.{log_over, tape_over, log_dirty, tape_dirty}
use Rattle.session.proofs.check.holds_state.Goals as goal

-- What the walk demands comes first, and is looked for in all that is known where the walk is called, so that a program which walks before it looks is refused here, for want of the
-- fact. `omega` looks for facts of numbers alone, so a test is made a number: 1 if it holds, else 0.
as_number : Bool → ℕ
as_number true = 1
as_number false = 0

-- what the look says of the part above a top, as a number
looked : (s : List ℕ) (k : ℕ) (r : Bool) → r ≡ all_zero (take (length s - k) (drop k s)) → as_number r ≡ as_number (all_zero (drop k s))
looked s k r e = ap as_number (sym (zeros_past s k e refl))

-- past `if !r`, r holds
past : (r : Bool) → r ≡ true → as_number r ≡ 1
unfolding as_number
past r e = ap as_number e

-- and a test that is 1 holds, which is what the walk demands of two
holds : (b : Bool) → as_number b ≡ 1 → b ≡ true
unfolding as_number
holds true e = refl
holds false e = absurd (omega arith)

pub walk_entries-requires : goal.walk_entries-requires
walk_entries-requires c = omega (arith, looked, past, holds)

pub returns-then-log-l : goal.returns-then-log-l
returns-then-log-l c =
    let a = c.args in
    log_over (table_in a.tree.now.words a.tree.now.n) (session_meant a.session) a.log.now a.tape.now c.if-log-l.true

pub returns-then-tape-t : goal.returns-then-tape-t
returns-then-tape-t c =
    let a = c.args in
    tape_over (table_in a.tree.now.words a.tree.now.n) (session_meant a.session) a.log.now a.tape.now c.if-tape-t.true

pub returns-then-not-zeros : goal.returns-then-not-zeros
returns-then-not-zeros c =
    let a = c.args in
    log_dirty (table_in a.tree.now.words a.tree.now.n) (session_meant a.session) a.log.now a.tape.now
    (zeros_past a.log.now a.session.log_len c.zeros.ensures c.if-not-zeros.true)

pub returns-then-not-zeros-2 : goal.returns-then-not-zeros-2
returns-then-not-zeros-2 c =
    let a = c.args in
    tape_dirty (table_in a.tree.now.words a.tree.now.n) (session_meant a.session) a.log.now a.tape.now
    (zeros_past a.tape.now a.session.tape_len c.zeros-2.ensures c.if-not-zeros-2.true)
