-- `root` looks at the five words of a node.
use Prim.Native.Nat.{ℕ, ◌≤◌}
use mathlib.Core.Path.{◌≡◌, refl, sym, ap, ◌∙◌, subst}
use native.Mathlib.Omega.{arith}
use Rattle.std.specs.Prelude.{Some}
use Rattle.term.specs.Table.{table_in}
use Rattle.term.specs.Rows.{Row}
use Rattle.term.specs.Walk.{RootIs}
use Rattle.term.proofs.Table.{nodes_are, row_beyond}
use Rattle.term.proofs.KindWords.{kind_says}
use Rattle.term.proofs.Walk.{wrong_parent, wrong_level, wrong_kind, wrong_left, wrong_right, is_application, is_abstraction, is_variable}
use Rattle.term.proofs.root.Goals as goal
use Rattle.term.proofs.root.Goals.{After-kind_of}

-- the words, once all are read
row : (c : After-kind_of) (k : ℕ) → (table_in c.args.table.now c.args.n).kind c.args.i ≡ k → Row (table_in c.args.table.now c.args.n) c.args.i k c.left-l.result c.right-r.result c.args.p c.args.v
row c k e = record {
  kind_is = e;
  left_is = sym c.left-l.ensures;
  right_is = sym c.right-r.ensures;
  parent_is = sym c.parent.ensures ∙ c.if-parent-p.false;
  level_is = sym c.level.ensures ∙ c.if-level-v.false;
}

there : (c : After-kind_of) → c.args.i ≤ (table_in c.args.table.now c.args.n).nodes
there c = rw nodes_are c.if-n-i.false

pub returns-then-n-i : goal.returns-then-n-i
returns-then-n-i c =
    let a = c.args in
    let e : (table_in a.table.now a.n).kind a.i ≡ 0 = (row_beyond a.table.now a.n a.i c.if-n-i.true).kind_is in
    wrong_kind (table_in a.table.now a.n) a.i a.p a.v (omega arith) (omega arith) (omega arith)

pub returns-then-parent-p : goal.returns-then-parent-p
returns-then-parent-p c =
    let a = c.args in
    wrong_parent (table_in a.table.now a.n) a.i a.p a.v (λ e. c.if-parent-p.true (c.parent.ensures ∙ e))

pub returns-then-level-v : goal.returns-then-level-v
returns-then-level-v c =
    let a = c.args in
    wrong_level (table_in a.table.now a.n) a.i a.p a.v (λ e. c.if-level-v.true (c.level.ensures ∙ e))

pub returns-in_err-kind_of : goal.returns-in_err-kind_of
returns-in_err-kind_of c =
    let a = c.args in
    let T = table_in a.table.now a.n in
    let s = kind_says T a.i c.kind_of.ensures c.in_err-kind_of.was in
    subst (RootIs T a.i a.p a.v) (sym c.from_residual.ensures) (wrong_kind T a.i a.p a.v s.0 s.1 s.2)

pub returns-then-r-ne0 : goal.returns-then-r-ne0
returns-then-r-ne0 c =
    let w = kind_says (table_in c.args.table.now c.args.n) c.args.i c.kind_of.ensures (c.in_ok-kind_of.was ∙ ap Some c.in-Variable.is) in
    wrong_right (row (goal.at.returns-then-r-ne0 c).After-kind_of 1 w) (omega arith) c.if-r-ne0.true

pub returns-then-r-ne0-2 : goal.returns-then-r-ne0-2
returns-then-r-ne0-2 c =
    let w = kind_says (table_in c.args.table.now c.args.n) c.args.i c.kind_of.ensures (c.in_ok-kind_of.was ∙ ap Some c.in-Abstraction.is) in
    wrong_right (row (goal.at.returns-then-r-ne0-2 c).After-kind_of 2 w) (omega arith) c.if-r-ne0-2.true

pub returns-then-l-i : goal.returns-then-l-i
returns-then-l-i c =
    let w = kind_says (table_in c.args.table.now c.args.n) c.args.i c.kind_of.ensures (c.in_ok-kind_of.was ∙ ap Some c.in-Abstraction.is) in
    wrong_left (row (goal.at.returns-then-l-i c).After-kind_of 2 w) (omega arith) c.if-l-i.true

pub returns-then-l-i-2 : goal.returns-then-l-i-2
returns-then-l-i-2 c =
    let w = kind_says (table_in c.args.table.now c.args.n) c.args.i c.kind_of.ensures (c.in_ok-kind_of.was ∙ ap Some c.in-Application.is) in
    wrong_left (row (goal.at.returns-then-l-i-2 c).After-kind_of 3 w) (omega arith) c.if-l-i-2.true

pub returns-else-r-ne0 : goal.returns-else-r-ne0
returns-else-r-ne0 c =
    let w = kind_says (table_in c.args.table.now c.args.n) c.args.i c.kind_of.ensures (c.in_ok-kind_of.was ∙ ap Some c.in-Variable.is) in
    is_variable (row (goal.at.returns-else-r-ne0 c).After-kind_of 1 w) (there (goal.at.returns-else-r-ne0 c).After-kind_of) refl c.if-r-ne0.false

pub returns-else-l-i : goal.returns-else-l-i
returns-else-l-i c =
    let w = kind_says (table_in c.args.table.now c.args.n) c.args.i c.kind_of.ensures (c.in_ok-kind_of.was ∙ ap Some c.in-Abstraction.is) in
    is_abstraction (row (goal.at.returns-else-l-i c).After-kind_of 2 w) (there (goal.at.returns-else-l-i c).After-kind_of) refl c.if-l-i.false c.if-r-ne0-2.false

pub returns-else-l-i-2 : goal.returns-else-l-i-2
returns-else-l-i-2 c =
    let w = kind_says (table_in c.args.table.now c.args.n) c.args.i c.kind_of.ensures (c.in_ok-kind_of.was ∙ ap Some c.in-Application.is) in
    is_application (row (goal.at.returns-else-l-i-2 c).After-kind_of 3 w) (there (goal.at.returns-else-l-i-2 c).After-kind_of) refl c.if-l-i-2.false
