-- `rule_3` makes rule 3, or finds the tape full.
use native.Mathlib.Omega.{arith}
use Rattle.session.proofs.MovingRules.{few_3, made_3, full_3}
use borrow.Author.Rules.{rules}
use Rattle.session.proofs.Refused.{refused_by}
use Rattle.session.specs.declared.rules.Full.TheVariants as IsFull
use Rattle.session.proofs.rules.rule_3.Goals as goal

pub make_entry-requires : goal.make_entry-requires
make_entry-requires c =
    let p = c in
    let h = p.requires.ready.token in
    let few = few_3 h p.args.to c.arity-owed.result (p.requires.fits p.requires.ready.state h) c.arity-owed.ensures in
    let short = h.enters.short_log in
    ((search rules, search rules), omega arith)

pub returns-in_err-k : goal.returns-in_err-k
returns-in_err-k c =
    let p = c in
    let r = c.arity-owed in
    let none = c.in_err-k.ensures in
    λ s h.
    rw (refused_by c.make_entry.result IsFull.Tape c.from_residual.result none.ok_part none.value c.from_residual.ensures.1)
    (full_3 h p.args.to r.result (p.requires.fits s h) r.ensures _ _ (rw none.ok_part at c.make_entry.ensures))

pub returns : goal.returns
returns c =
    let p = c in
    let r = c.arity-owed in
    let moved = rw c.in_ok-k.ensures.ok_part at c.make_entry.ensures in
    λ s h. rw (c.onto_tape.ensures, c.list_ends-ends.ensures) (made_3 h p.args.to r.result (p.requires.fits s h) r.ensures c.in_ok-k.k _ _ moved)
