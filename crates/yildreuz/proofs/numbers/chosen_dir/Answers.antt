-- `chosen_dir`: 1 is up.
use Rattle.yildreuz.proofs.Spots.{one_is_up, else_down}
use Rattle.yildreuz.proofs.numbers.chosen_dir.Goals as goal

pub returns-then-direction-eq1 : goal.returns-then-direction-eq1
returns-then-direction-eq1 c = λ i. one_is_up i c.args.direction c.if-direction-eq1.true

pub returns-else-direction-eq1 : goal.returns-else-direction-eq1
returns-else-direction-eq1 c = λ i. else_down i c.args.direction c.if-direction-eq1.false
