-- `put_part` and `put_enclosed` put the text of every part that stands at the node. The measure is the nodes from this one on, and then the function's rank.
use Prim.Native.Nat.{suc, ◌+◌, ◌*◌, ◌-◌}
use Rattle.writer.proofs.part.+put_enclosed_put_part.Given as goal

abbrev pub decreases-put_enclosed : goal.decreases-put_enclosed
decreases-put_enclosed l = 2 * (suc l.tree.now.n - l.node) + 1

abbrev pub decreases-put_part : goal.decreases-put_part
decreases-put_part l = 2 * (suc l.tree.now.n - l.node)
