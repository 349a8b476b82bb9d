-- A pass: halted before its step, or by a full slice, or on; each by its law.
use mathlib.Core.Path.{ap, ◌∙◌}
use Rattle.session.specs.Types.{way_meant, session_meant}
use Rattle.session.proofs.Facing.{token_facing, position_facing, turns_facing}
use Rattle.session.proofs.Refused.{passed_on}
use Rattle.session.proofs.Passes.{halts, fits_facing, fills, goes_on}
use Rattle.session.proofs.winding.one_pass.Goals as goal

pub returns-in_err-rule : goal.returns-in_err-rule
returns-in_err-rule c = λ s h.
    rw (passed_on c.from_residual.result c.from_residual.ensures.1) (halts h (way_meant c.args.way) c.in_err-rule.field-0.0 (c.in_err-rule.ensures c.args.log.now s h))

pub step-requires : goal.step-requires
step-requires c =
    let way = way_meant c.args.way in
    let p = c.requires in
    fits_facing p.token way c.in_ok-rule.rule c.in_ok-rule.turns (c.in_ok-rule.ensures c.args.log.now p.state p.token) c.facing-about.result (token_facing p.token way c.facing-about.ensures)

pub returns-in_err-to : goal.returns-in_err-to
returns-in_err-to c =
    let way = way_meant c.args.way in
    let f = c.facing-about in
    λ s h.
    rw (passed_on c.from_residual-in_err-to.result c.from_residual-in_err-to.ensures.1)
    (fills h way c.in_ok-rule.rule c.in_ok-rule.turns (c.in_ok-rule.ensures c.args.log.now s h) f.result _ _ c.in_err-to.field-0.0 (c.in_err-to.ensures _ (token_facing h way f.ensures)))

pub returns : goal.returns
returns c =
    let way = way_meant c.args.way in
    let f = c.facing-about in
    let k = c.step in
    λ s h.
    goes_on h way c.in_ok-rule.rule c.in_ok-rule.turns (c.in_ok-rule.ensures c.args.log.now s h) f.result _ _ k.auto.log k.auto.tape
    c.in_ok-to.to c.after_step-next.result (c.in_ok-to.ensures _ (token_facing h way f.ensures))
    (ap (λ x. x.position) f.ensures ∙ position_facing way (session_meant c.args.session))
    (ap (λ x. x.turns) f.ensures ∙ turns_facing way (session_meant c.args.session)) c.after_step-next.ensures
