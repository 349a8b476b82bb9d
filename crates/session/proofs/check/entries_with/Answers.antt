-- `entries_with` counts one word.
use mathlib.Core.Path.{◌≡◌, sym, ap, ◌∙◌}
use mathlib.Core.Bool.{true}
use mathlib.Core.Option.{some}
use native.Mathlib.Omega.{arith}
use Rattle.std.specs.Prelude.{Some}
use Rattle.term.specs.Table.{table_in, kind_at, is_variable}
use Rattle.term.specs.Kinds.{kind_meant}
use Rattle.term.specs.declared.kinds.Kind.TheVariants.{Variable}
use Rattle.session.proofs.Words.{other_kind, count_other, count_few, count_entry_lem}
use Rattle.session.proofs.check.entries_with.Goals as goal
use Rattle.session.proofs.check.entries_with.Goals.{Else-ne}

pub returns-then-ne : goal.returns-then-ne
returns-then-ne c =
    let a = c.args in
    count_other (table_in a.tree.now.words a.tree.now.n) a.v a.have (sym (ap is_variable c.kind.ensures) ∙ other_kind c.kind.result (λ e. grind arith))

-- past the test the word is a variable's
is_one : (u : Else-ne) → (let a = u.args in is_variable (kind_at (table_in a.tree.now.words a.tree.now.n) a.v) ≡ true)
is_one u =
    let e : u.kind.result ≡ Some Variable = grind arith in
    sym (ap is_variable u.kind.ensures) ∙ ap (λ o. is_variable (kind_meant o)) e

pub returns-in_err-left : goal.returns-in_err-left
returns-in_err-left c =
    let a = c.args in
    rw c.from_residual.ensures
    (count_few (table_in a.tree.now.words a.tree.now.n) a.v a.have (is_one (goal.at.returns-in_err-left c).Else-ne) (omega (arith, c.in_err-left.ensures)))

pub returns : goal.returns
returns c =
    let a = c.args in
    count_entry_lem (table_in a.tree.now.words a.tree.now.n) a.v a.have (is_one (goal.at.returns c).Else-ne) (omega (arith, c.in_ok-left.ensures))
    ∙ ap some (omega (arith, c.in_ok-left.ensures))
