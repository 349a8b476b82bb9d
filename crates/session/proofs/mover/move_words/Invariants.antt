-- `move_words` copies one word a pass and clears it: after i passes i zeros stand in the one slice, and the i words in the other.
use mathlib.Core.Path.{◌≡◌}
use lib.ListN.{drop, replicate}
use lib.Seq.{paste}
use Rattle.session.proofs.mover.move_words.Given as goal

abbrev pub invariant-loop-i : goal.invariant-loop-i
invariant-loop-i l = (l.from ≡ paste l.initial.from l.b (replicate l.k 0) l.i) × (l.to ≡ paste l.initial.to 0 (drop l.b l.initial.from) l.i)
