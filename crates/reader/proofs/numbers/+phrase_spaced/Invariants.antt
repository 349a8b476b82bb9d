-- `phrase` and `spaced` read what the grammar of the number dialect has at a place. The measure is the bytes that are left, and then the function's rank.
use Prim.Native.Nat.{◌+◌, ◌*◌, ◌-◌}
use lib.ListN.{length}
use Rattle.reader.proofs.numbers.+phrase_spaced.Given as goal

abbrev pub decreases-phrase : goal.decreases-phrase
decreases-phrase l = 2 * (length l.text.now - l.at)

abbrev pub decreases-spaced : goal.decreases-spaced
decreases-spaced l = 2 * (length l.text.now - l.at) + 1
