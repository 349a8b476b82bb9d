-- `rule_4` makes rule 4, or finds the log full.
use native.Mathlib.Omega.{arith}
use Rattle.session.specs.declared.rules.Full.TheVariants as IsFull
use Rattle.session.proofs.Refused.{refused_by}
use Rattle.session.proofs.MovingRules.{few_4, made_4, full_4}
use Rattle.session.proofs.rules.rule_4.Goals as goal

pub move_onto-requires : goal.move_onto-requires
move_onto-requires c =
    let p = c in
    let h = p.requires.ready.token in
    let few = few_4 h p.args.to c.arity-owed.result (p.requires.fits p.requires.ready.state h) c.arity-owed.ensures in
    let short = h.enters.short_tape in
    let fits = h.enters.holds.tape_fits in
    ((omega arith, short), omega arith, (h.enters.holds.log_fits, h.enters.short_log))

pub returns-in_err-ends : goal.returns-in_err-ends
returns-in_err-ends c =
    let p = c in
    let r = c.arity-owed in
    let none = c.in_err-ends.ensures in
    λ s h.
    rw (refused_by c.move_onto.result IsFull.Log c.from_residual.result none.ok_part none.value c.from_residual.ensures.1)
    (full_4 h p.args.to r.result (p.requires.fits s h) r.ensures _ _ (rw none.ok_part at c.move_onto.ensures))

pub returns : goal.returns
returns c =
    let p = c in
    let r = c.arity-owed in
    let moved = rw c.in_ok-ends.ensures.ok_part at c.move_onto.ensures in
    λ s h. rw c.onto_log.ensures (made_4 h p.args.to r.result (p.requires.fits s h) r.ensures c.in_ok-ends.ends _ _ moved)
