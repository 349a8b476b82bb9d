-- `entries_in`: what is left to count from here is the whole count.
use mathlib.Core.Path.{◌≡◌}
use Prim.Native.Nat.{◌≤◌}
use lib.ListN.{drop}
use Rattle.term.specs.Table.{table_in}
use Rattle.session.specs.Counting.{have_words}
use Rattle.session.proofs.check.entries_in.Given as goal

abbrev pub invariant-loop-word : goal.invariant-loop-word
invariant-loop-word l =
    (l.have ≤ l.word-index) × (have_words l.bullets (table_in l.tree.words l.tree.n) l.words 0 ≡ have_words l.bullets (table_in l.tree.words l.tree.n) (drop l.word-index l.words) l.have)
