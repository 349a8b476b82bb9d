-- `kind_said` tells the three words that are kinds from all others.
use mathlib.Core.Path.{sym, ap}
use native.Mathlib.Omega.{arith}
use Rattle.term.specs.Table.{kind_of}
use Rattle.term.proofs.Table.{no_kind}
use Rattle.term.proofs.kinds.kind_said.Goals as goal

pub returns-in-1 : goal.returns-in-1
unfolding kind_of
returns-in-1 c = ap kind_of (sym c.in-1.is)

pub returns-in-2 : goal.returns-in-2
unfolding kind_of
returns-in-2 c = ap kind_of (sym c.in-2.is)

pub returns-in-3 : goal.returns-in-3
unfolding kind_of
returns-in-3 c = ap kind_of (sym c.in-3.is)

pub returns-in_default : goal.returns-in_default
returns-in_default c = sym (no_kind c.args.word (λ e. omega arith) (λ e. omega arith) (λ e. omega arith))
