-- `chosen_down` chooses the rule that fits: each answer by the law of its case.
use mathlib.Core.Path.{◌≡◌, sym, ap, ◌∙◌}
use native.Mathlib.Omega.{arith}
use Rattle.std.specs.Prelude.{Some}
use Rattle.term.specs.Table.{kind_at, table_in, abstraction}
use Rattle.term.specs.Kinds.{kind_meant}
use Rattle.session.proofs.Chosen.{fits_1, fits_2, fits_3, fits_4, unfit_kind, unfit_empty, unfit_bound}
use Rattle.session.proofs.choice.chosen_down.Goals as goal
use Rattle.session.proofs.choice.chosen_down.Goals.{In-Abstraction}

is_abstraction : (c : In-Abstraction) → kind_at (table_in c.args.tree.now.words c.args.tree.now.n) c.args.session.node ≡ abstraction
is_abstraction c = sym c.in_ok-kind.ensures ∙ ap (λ k. kind_meant (Some k)) c.in-Abstraction.is

pub returns-in_err-kind : goal.returns-in_err-kind
returns-in_err-kind c = rw c.from_residual.ensures (λ ls s h. unfit_kind h c.requires.0 c.left-left.ensures (sym c.in_err-kind.ensures))

pub returns-in-Application : goal.returns-in-Application
returns-in-Application c = λ ls s h. fits_1 h c.requires.0 c.left-left.ensures (sym c.in_ok-kind.ensures ∙ ap (λ k. kind_meant (Some k)) c.in-Application.is)

pub returns-in-Variable : goal.returns-in-Variable
returns-in-Variable c = λ ls s h. fits_3 h c.requires.0 c.left-left.ensures (sym c.in_ok-kind.ensures ∙ ap (λ k. kind_meant (Some k)) c.in-Variable.is)

pub returns-in_err-top-in-Abstraction : goal.returns-in_err-top-in-Abstraction
returns-in_err-top-in-Abstraction c =
    rw c.from_residual-in_err-top-in-Abstraction.ensures (λ ls s h.
    unfit_empty h c.requires.0 c.left-left.ensures (is_abstraction (goal.at.returns-in_err-top-in-Abstraction c).In-Abstraction) c.in_err-top-in-Abstraction.ensures)

pub returns-then-top-eq0 : goal.returns-then-top-eq0
returns-then-top-eq0 c =
    let top = c.in_ok-top-in-Abstraction.ensures in
    λ ls s h. fits_2 h c.requires.0 c.left-left.ensures (is_abstraction (goal.at.returns-then-top-eq0 c).In-Abstraction) (λ z. omega (arith, top.0)) top.1 c.if-top-eq0.true

pub returns-then-binder-node : goal.returns-then-binder-node
returns-then-binder-node c =
    let top = c.in_ok-top-in-Abstraction.ensures in
    λ ls s h.
    fits_4 h c.requires.0 c.left-left.ensures (is_abstraction (goal.at.returns-then-binder-node c).In-Abstraction) (λ z. omega (arith, top.0)) top.1 c.if-top-eq0.false
    c.left-binder.ensures c.if-binder-node.true

pub returns-else-binder-node : goal.returns-else-binder-node
returns-else-binder-node c =
    let top = c.in_ok-top-in-Abstraction.ensures in
    λ ls s h.
    unfit_bound h c.requires.0 c.left-left.ensures (is_abstraction (goal.at.returns-else-binder-node c).In-Abstraction) (λ z. omega (arith, top.0)) top.1 c.if-top-eq0.false
    c.left-binder.ensures c.if-binder-node.false
