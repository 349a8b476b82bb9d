-- `put` puts the digits of the number's tenth, and then its last one. Its measure is the number.
use Rattle.decimal.proofs.+put.Given as goal

abbrev pub decreases-put : goal.decreases-put
decreases-put l = l.number
