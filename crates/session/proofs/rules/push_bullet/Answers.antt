-- `push_bullet` makes rules 1 and 7, or finds the tape full.
use Rattle.session.proofs.BulletRules.{bullet_comes}
use Rattle.session.proofs.rules.push_bullet.Goals as goal

pub returns : goal.returns
returns c = λ w n ls s h e. bullet_comes h c.args.node c.args.dir e c.if-tape-m.false
