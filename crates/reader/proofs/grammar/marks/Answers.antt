-- `marks` copies the run of words up, and fills the place that it left with marks.
use mathlib.Core.Path.{◌≡◌, ap, ◌∙◌}
use Prim.Native.Nat.{ℕ, ◌+◌, ◌-◌}
use native.Mathlib.Omega.{arith}
use lib.ListN.{length, take, drop, replicate, length-take, length-drop}
use Rattle.reader.proofs.Moved.{marks_done}
use Rattle.reader.proofs.grammar.marks.Goals as goal

pub returns : goal.returns
returns c =
    let a = c.args in
    let o = c.copy_within.new.self in
    let many : length (take (a.first + a.by - a.first) (drop a.first o)) ≡ a.by = simp (length-take, length-drop) (omega (arith, c.copy_within.ensures.len)) in
    let filled = c.fill.ensures.after (λ y e. e) ∙ ap (λ (n : ℕ). replicate n 2) many in
    λ b ws e l. marks_done _ _ _ b ws a.first a.end a.by _ 2 c.copy_within.ensures.after filled (omega arith) c.requires.1 e l
