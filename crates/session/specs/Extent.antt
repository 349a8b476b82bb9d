-- How many words the top entries of a list take, and what every function over a list in its slice requires.
use Rattle.std.specs.Prelude.{List, reverse, ℕ, ◌≤◌, length, take}
use Rattle.term.specs.Table.{Table}
use Rattle.machine.specs.Span.{span}
use Rattle.calls.specs.Calls.{longest}

-- A list of so many words in a slice that is not too long.
abbrev pub ListIn : List ℕ → ℕ → Type 0
ListIn s len = (len ≤ length s) × (length s ≤ longest)

-- how many words the next `owed` entries below index `top` take
abbrev pub span_below : Table → List ℕ → ℕ → ℕ → ℕ
span_below T from top owed = span T (reverse (take top from)) owed
