-- `digits`: a word's 32 digits but for its leading zeros.
use Rattle.calls.proofs.Digits.{by_leading_zeros}
use Rattle.session.proofs.weight.digits.Goals as goal

pub returns : goal.returns
returns c = by_leading_zeros c.args.n c.ranges.n.fits
