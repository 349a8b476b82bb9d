-- The measure of the functions that read by the grammar is the bytes that are left, and then the function's rank; and what the loop over atoms keeps.
use Prim.Native.Nat.{◌+◌, ◌*◌, ◌-◌}
use lib.ListN.{length}
use Rattle.reader.proofs.Descent.{Underway}
use Rattle.reader.specs.Grammar.{cursor}
use Rattle.reader.proofs.grammar.+abstraction_application_atom_brackets_term.Given as goal

abbrev pub decreases-abstraction : goal.decreases-abstraction
decreases-abstraction l = 4 * (length l.text.now - l.at) + 3

abbrev pub decreases-application : goal.decreases-application
decreases-application l = 4 * (length l.text.now - l.at) + 2

abbrev pub decreases-atom : goal.decreases-atom
decreases-atom l = 4 * (length l.text.now - l.at) + 1

abbrev pub decreases-brackets : goal.decreases-brackets
decreases-brackets l = 4 * (length l.text.now - l.at) + 4

abbrev pub decreases-term : goal.decreases-term
decreases-term l = 4 * (length l.text.now - l.at) + 3

abbrev pub invariant-application-loop-scope : goal.invariant-application-loop-scope
invariant-application-loop-scope l = Underway (cursor l.text l.at l.initial.scope l.depth l.initial.out l.node) l.p l.m l.k l.scope l.out

abbrev pub decreases-application-loop-scope : goal.decreases-application-loop-scope
decreases-application-loop-scope l = length l.text - l.p
