-- `pop_bullet` makes rules 2 and 5.
use Rattle.session.proofs.BulletRules.{bullet_goes}
use Rattle.session.proofs.rules.pop_bullet.Goals as goal

pub returns : goal.returns
returns c = λ w n ls ts s t h q e. bullet_goes h c.args.node c.args.dir t q e
