-- `list_named`: its test is that of the definition.
use borrow.Author.Tests.{eq-eqb, ne_eqb}
use Rattle.yildreuz.proofs.parts.list_named.Goals as goal

pub returns-then-which-eq1 : goal.returns-then-which-eq1
returns-then-which-eq1 c = rw (eq-eqb c.args.which 1 c.if-which-eq1.true)

pub returns-else-which-eq1 : goal.returns-else-which-eq1
returns-else-which-eq1 c = rw (ne_eqb c.args.which 1 c.if-which-eq1.false)
