-- `columns` lays out every part that is ready. Its measure is the words of the code that are left.
use Prim.Native.Nat.{◌-◌}
use lib.ListN.{length}
use Rattle.reader.proofs.layout.+columns.Given as goal

abbrev pub decreases-columns : goal.decreases-columns
decreases-columns l = length l.code.now - l.laid
