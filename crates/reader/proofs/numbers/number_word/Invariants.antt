-- `number_word` adds up digits, cut at the binders: what it has and the digits left have the value of all.
use Prim.Native.Nat.{min, ◌≤◌}
use mathlib.Core.Path.{◌≡◌}
use lib.ListN.{drop}
use Rattle.decimal.specs.Decimal.{value_after}
use Rattle.reader.proofs.numbers.number_word.Given as goal

abbrev pub invariant-loop-b : goal.invariant-loop-b
invariant-loop-b l = (l.value ≤ l.depth) × (min l.depth (value_after l.value (drop l.b-index l.digits)) ≡ min l.depth (value_after 0 l.digits))
