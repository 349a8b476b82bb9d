-- `put_byte` stores the byte, or leaves it out past the end.
use mathlib.Core.Path.{ap, ◌∙◌, subst⁻¹}
use mathlib.Core.List.{[], ◌∷◌}
use native.Mathlib.Omega.{arith}
use Prim.Native.Nat.{◌+◌}
use lib.ListN.{length, length-set}
use Rattle.writer.specs.Putting.{Put}
use Rattle.writer.proofs.Putting.{byte_put, byte_left_out}
use Rattle.writer.proofs.put.put_byte.Goals as goal
use Rattle.writer.proofs.put.put_byte.Goals.{then-at-out, else-at-out}

pub shape_of-out : goal.shape_of-out
shape_of-out c = elim c.if-at-out.branch [ then-at-out w ↦ ap length w.out-is ∙ simp length-set | else-at-out w ↦ ap length w.out-is ]

pub returns : goal.returns
returns c =
    let a = c.args in
    elim c.if-at-out.branch [
      | then-at-out w ↦ subst⁻¹ (Put a.out.now a.at (a.b ∷ []) (a.at + 1)) w.out-is (byte_put a.out.now a.at a.b)
      | else-at-out w ↦ subst⁻¹ (Put a.out.now a.at (a.b ∷ []) (a.at + 1)) w.out-is (byte_left_out a.out.now a.at a.b (omega (arith, w.if-at-out.false)))
    ]
