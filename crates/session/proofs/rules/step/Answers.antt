-- `step` makes the step of the rule that fits.
use mathlib.Core.Path.{◌≡◌, subst}
use mathlib.Core.List.{List}
use Prim.Native.Nat.{ℕ}
use Rattle.session.specs.Rules.{Fitting}
use Rattle.session.specs.declared.Session as Declared
use Rattle.session.specs.declared.choice.Rule.{Rule}
use Rattle.session.specs.declared.rules.Full.TheVariants as IsFull
use Rattle.session.proofs.Refused.{refused_by}
use Rattle.session.proofs.MovingRules.{made_6, full_6, made_8, full_8}
use Rattle.session.proofs.rules.step.Goals as goal

-- what is required, at the rule that an arm was told
told : {w : List ℕ} {n : ℕ} {se : Declared.Session} {ls ts : List ℕ} {r q : Rule} → r ≡ q → Fitting w n se ls ts r → Fitting w n se ls ts q
told {w} {n} {se} {ls} {ts} e f = subst (Fitting w n se ls ts) e f

pub returns-in_err-ok_or-in-Six : goal.returns-in_err-ok_or-in-Six
returns-in_err-ok_or-in-Six c =
    let f = told c.in-Six.is c.requires in
    let none = c.in_err-ok_or-in-Six.ensures in
    λ s h.
    rw (refused_by c.move_onto-ends.result IsFull.Log c.from_residual.result none.ok_part none.value c.from_residual.ensures.1)
    (full_6 h c.in-Six.node (f.fits s h) _ _ (rw none.ok_part at c.move_onto-ends.ensures))

pub returns-in_ok-ok_or-in-Six : goal.returns-in_ok-ok_or-in-Six
returns-in_ok-ok_or-in-Six c =
    let f = told c.in-Six.is c.requires in
    λ s h. rw c.onto_log.ensures (made_6 h c.in-Six.node (f.fits s h) c.in_ok-ok_or-in-Six.field-0 _ _ (rw c.in_ok-ok_or-in-Six.ensures.ok_part at c.move_onto-ends.ensures))

pub returns-in_err-ok_or-in-Eight : goal.returns-in_err-ok_or-in-Eight
returns-in_err-ok_or-in-Eight c =
    let f = told c.in-Eight.is c.requires in
    let none = c.in_err-ok_or-in-Eight.ensures in
    λ s h.
    rw (refused_by c.move_onto-ends-in-Eight.result IsFull.Tape c.from_residual-in_err-ok_or-in-Eight.result none.ok_part none.value c.from_residual-in_err-ok_or-in-Eight.ensures.1)
    (full_8 h c.in-Eight.node (f.fits s h) _ _ (rw none.ok_part at c.move_onto-ends-in-Eight.ensures))

pub returns-in_ok-ok_or-in-Eight : goal.returns-in_ok-ok_or-in-Eight
returns-in_ok-ok_or-in-Eight c =
    let f = told c.in-Eight.is c.requires in
    λ s h. rw c.onto_tape.ensures (made_8 h c.in-Eight.node (f.fits s h) c.in_ok-ok_or-in-Eight.field-0 _ _ (rw c.in_ok-ok_or-in-Eight.ensures.ok_part at c.move_onto-ends-in-Eight.ensures))
