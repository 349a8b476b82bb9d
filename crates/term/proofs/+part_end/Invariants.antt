-- `part_end` walks over one part: what it answers follows, case by case, from what it answers below.
use Prim.Native.Nat.{suc, ◌-◌}
use Rattle.term.proofs.+part_end.Given as goal

abbrev pub decreases-part_end : goal.decreases-part_end
decreases-part_end l = suc l.n - l.i
