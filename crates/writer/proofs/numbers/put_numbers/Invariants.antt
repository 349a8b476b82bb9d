-- `put_numbers` puts the parts of the nodes one after another: those put so far are the text of the first nodes, whose depths are told.
use mathlib.Core.Path.{◌≡◌}
use mathlib.Core.List.{List}
use Prim.Native.Nat.{ℕ, ◌≤◌}
use lib.ListN.{length}
use Rattle.term.specs.Table.{table_in}
use Rattle.term.specs.Accepted.{Accepted}
use Rattle.writer.specs.Putting.{Put}
use Rattle.writer.proofs.PartList.{text_to}
use Rattle.writer.proofs.NodesPut.{Depths}
use Rattle.writer.proofs.numbers.put_numbers.Given as goal

abbrev pub invariant-loop-last : goal.invariant-loop-last
invariant-loop-last l = (1 ≤ l.last) × (l.last ≤ l.tree.n) × (length l.depths ≡ 3001) × (length l.out ≡ length l.initial.out)
    × ((A : Accepted l.tree.words l.tree.n) → Depths (table_in l.tree.words l.tree.n) l.depths l.last
    × ((o : List ℕ) → Put o 0 (text_to A.term 1) l.initial.at l.initial.out → Put o 0 (text_to A.term l.last) l.at l.out))
