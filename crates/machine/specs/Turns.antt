-- Document 02, change 9: the turns at a position, "how many of the steps from the start to the present position changed direction", counted on the states after so many steps alone.
use Rattle.std.specs.Prelude.{◌||◌, cond, ℕ, zero, suc, ◌+◌, eqb}
use Rattle.term.specs.Choice.{if_some}
use Rattle.term.specs.Table.{Table}
use Rattle.machine.specs.Machine.{Dir, down, up, State, turned, after_from}

-- The turns of one step from a direction to a direction: 1 if it "changed direction" (`turn_exactly`, proofs/Turns.antt), else 0.
abbrev pub turn_between : Dir → Dir → ℕ
turn_between down down = 0
turn_between down up = 1
turn_between up down = 1
turn_between up up = 0

-- The same by the number of the step's rule (`turn_by_rule`): those of an entry, 3, 4, 6 and 8, turn, and those of a bullet do not.
abbrev pub turn_by : ℕ → ℕ
turn_by k = cond (eqb k 3 || eqb k 4 || eqb k 6 || eqb k 8) 1 0

-- From a state s₀ at position 0: those of the step after p steps, if the machine makes it,
abbrev pub turn_after : Table → State → ℕ → ℕ
turn_after T s₀ p = if_some (after_from T s₀ p) (λ s. if_some (after_from T s₀ (suc p)) (λ u. turn_between s.dir u.dir) (λ _. 0)) (λ _. 0)

-- and those of its first p steps together.
unfoldable pub turns_after : Table → State → ℕ → ℕ
turns_after T s₀ zero = 0
turns_after T s₀ (suc p) = turns_after T s₀ p + turn_after T s₀ p

-- A direction turned so many times: the token goes as it did at first, turned as many times as it has turns (`turned_as_often`).
abbrev pub turned_times : ℕ → Dir → Dir
turned_times zero d = d
turned_times (suc k) d = turned (turned_times k d)
