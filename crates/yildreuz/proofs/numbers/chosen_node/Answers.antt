-- `chosen_node`: the node, or 0 without a direction.
use Rattle.yildreuz.proofs.Spots.{node_lost, node_kept}
use Rattle.yildreuz.proofs.numbers.chosen_node.Goals as goal

pub returns-then-direction-gt1 : goal.returns-then-direction-gt1
returns-then-direction-gt1 c = node_lost c.args.node c.args.direction c.if-direction-gt1.true

pub returns-else-direction-gt1 : goal.returns-else-direction-gt1
returns-else-direction-gt1 c = node_kept c.args.node c.args.direction c.if-direction-gt1.false
