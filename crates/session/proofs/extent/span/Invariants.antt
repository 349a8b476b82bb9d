-- `span` reads words from the top down: what is owed still, of the words left, is what the words read leave to be found.
use mathlib.Core.Path.{◌≡◌}
use mathlib.Core.List.{List, reverse}
use Prim.Native.Nat.{ℕ, ◌≤◌, ◌+◌, ◌*◌}
use lib.ListN.{length, take}
use Rattle.term.specs.Table.{Table, table_in}
use Rattle.machine.specs.Span.{span}
use Rattle.session.proofs.extent.span.Given as goal

-- After i words the words below are still to be read.
pub record Reads (T : Table) (words : List ℕ) (top owed i : ℕ) (below : List ℕ) (left : ℕ) : Type 0 where
  pub many : i + length below ≡ top
  pub few : left ≤ owed + i * 4294967295
  pub found : span T (reverse (take top words)) owed ≡ i + span T (reverse below) left

abbrev pub invariant-loop-i : goal.invariant-loop-i
invariant-loop-i l = Reads (table_in l.tree.words l.tree.n) l.words l.top l.owed l.i-iterator.count l.i-iterator.iter.iter.rest.now l.left
