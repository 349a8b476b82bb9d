-- `chosen_up` chooses the rule that fits: each answer by the law of its case.
use mathlib.Core.Path.{◌≡◌, sym, ap, ◌∙◌}
use native.Mathlib.Omega.{arith}
use Rattle.std.specs.Prelude.{Some}
use Rattle.term.specs.Table.{kind_at, table_in, application}
use Rattle.term.specs.Kinds.{kind_meant}
use Rattle.session.proofs.Chosen.{fits_5, fits_6, fits_7, fits_8, unfit_nothing, unfit_variable, unfit_body, unfit_part, unfit_function}
use Rattle.session.proofs.choice.chosen_up.Goals as goal
use Rattle.session.proofs.choice.chosen_up.Goals.{In-Application}

is_application : (c : In-Application) → kind_at (table_in c.args.tree.now.words c.args.tree.now.n) c.parent-p.result ≡ application
is_application c = sym c.in_ok-kind.ensures ∙ ap (λ k. kind_meant (Some k)) c.in-Application.is

pub returns-in_err-kind : goal.returns-in_err-kind
returns-in_err-kind c =
    rw c.from_residual.ensures (λ ls s h. unfit_nothing h c.requires.0 c.parent-p.ensures c.left-left.ensures c.right-right.ensures (sym c.in_err-kind.ensures))

pub returns-in-Abstraction : goal.returns-in-Abstraction
returns-in-Abstraction c = λ ls s h.
    fits_7 h c.requires.0 c.parent-p.ensures c.left-left.ensures c.right-right.ensures (sym c.in_ok-kind.ensures ∙ ap (λ k. kind_meant (Some k)) c.in-Abstraction.is) c.if-left-node.true

pub returns-in_default : goal.returns-in_default
returns-in_default c = λ ls s h.
    unfit_body h c.requires.0 c.parent-p.ensures c.left-left.ensures c.right-right.ensures (sym c.in_ok-kind.ensures ∙ ap (λ k. kind_meant (Some k)) c.in-Abstraction.is) c.if-left-node.false

pub returns-in_default-3 : goal.returns-in_default-3
returns-in_default-3 c = λ ls s h.
    unfit_variable h c.requires.0 c.parent-p.ensures c.left-left.ensures c.right-right.ensures (sym c.in_ok-kind.ensures ∙ ap (λ k. kind_meant (Some k)) c.in_default.is)

pub returns-in_err-top-in-Application : goal.returns-in_err-top-in-Application
returns-in_err-top-in-Application c =
    rw c.from_residual-in_err-top-in-Application.ensures (λ ls s h.
    unfit_function h c.requires.0 c.parent-p.ensures c.left-left.ensures c.right-right.ensures (is_application (goal.at.returns-in_err-top-in-Application c).In-Application)
    c.if-left-node-2.true c.in_err-top-in-Application.ensures)

pub returns-then-top-eq0 : goal.returns-then-top-eq0
returns-then-top-eq0 c =
    let top = c.in_ok-top-in-Application.ensures in
    λ ls s h.
    fits_5 h c.requires.0 c.parent-p.ensures c.left-left.ensures c.right-right.ensures (is_application (goal.at.returns-then-top-eq0 c).In-Application)
    c.if-left-node-2.true (λ z. omega (arith, top.0)) top.1 c.if-top-eq0.true

pub returns-else-top-eq0 : goal.returns-else-top-eq0
returns-else-top-eq0 c =
    let top = c.in_ok-top-in-Application.ensures in
    λ ls s h.
    fits_6 h c.requires.0 c.parent-p.ensures c.left-left.ensures c.right-right.ensures (is_application (goal.at.returns-else-top-eq0 c).In-Application)
    c.if-left-node-2.true (λ z. omega (arith, top.0)) top.1 c.if-top-eq0.false

pub returns-in-Application-2 : goal.returns-in-Application-2
returns-in-Application-2 c = λ ls s h.
    fits_8 h c.requires.0 c.parent-p.ensures c.left-left.ensures c.right-right.ensures (is_application (goal.at.returns-in-Application-2 c).In-Application)
    c.if-left-node-2.false c.if-right-node.true

pub returns-in_default-2 : goal.returns-in_default-2
returns-in_default-2 c = λ ls s h.
    unfit_part h c.requires.0 c.parent-p.ensures c.left-left.ensures c.right-right.ensures (is_application (goal.at.returns-in_default-2 c).In-Application)
    c.if-left-node-2.false c.if-right-node.false
