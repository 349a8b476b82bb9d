-- `depth_of` reads the parent's depth, and adds one where the parent is an abstraction.
use mathlib.Core.Path.{refl, ap, ◌∙◌}
use Prim.Native.Nat.{◌+◌}
use native.Mathlib.Omega.{arith}
use Rattle.term.specs.Table.{table_in}
use Rattle.writer.specs.NumberParts.{depth_in}
use Rattle.writer.proofs.KindWords.{abstraction_same}
use Rattle.writer.proofs.NumberParts.{bit_small, depth_is}
use Rattle.writer.proofs.numbers.depth_of.Goals as goal

pub overflow_add-result : goal.overflow_add-result
overflow_add-result c = omega (arith, c.requires.few, ap (depth_in c.args.depths.now) c.parent-parent.ensures, c.from.ensures, bit_small c.eq.result)

pub returns : goal.returns
returns c =
    let a = c.args in
    let T = table_in a.tree.now.words a.tree.now.n in
    let D = depth_in a.depths.now in
    let p = c.parent-parent.result in
    let same = c.eq.ensures ∙ abstraction_same _ refl refl refl c.kind.result (T.kind p) c.kind.ensures in
    ap (λ x. D p + x) c.from.ensures ∙ depth_is T D a.node p c.parent-parent.ensures c.eq.result same
