-- Document 02, change 6: how many words a step moves between log and tape, by its rule, and none where no rule fits; and how many the steps between two positions move.
use Rattle.std.specs.Prelude.{cond, [], ◌∷◌, ℕ, zero, suc, ◌+◌, ◌-◌, min, length, leb}
use Rattle.term.specs.Choice.{if_some}
use Rattle.term.specs.Table.{Table, arity, Kind, variable, abstraction, application, nothing, kind_at, Place, body_of, function_of, argument_of, nowhere, place_at}
use Rattle.machine.specs.Entries.{Entry, entry, Log, ε, ◌▸◌, how_many, topmost, bullet, held, Tape, entry_words, log_words}
use Rattle.machine.specs.Machine.{Dir, down, up, State, bound_at, turn, after_from}

-- "the entry's words"
abbrev pub of_entry : Entry → ℕ
of_entry e = length (entry_words e)

-- "the words of the inner entries, not the variable's own"
abbrev pub of_inner : Log → ℕ
of_inner es = length (log_words es)

-- Down at node i, by its kind.
unfoldable pub carried_down : Table → ℕ → Kind → Log → Tape → ℕ
-- Rules 1 and 2: none.
carried_down T i application L t = 0
carried_down T i abstraction L (bullet ∷ t) = 0
-- "rules 3 and 4 move the words of the inner entries": 3 those that leave the log, and 4 those that go onto it.
carried_down T i variable L t = cond (leb (arity T i) (how_many L)) (of_inner (topmost (arity T i) L)) 0
carried_down T i abstraction L (held (entry v es) ∷ t) = cond (bound_at T i v) (of_inner es) 0
-- every other state has no rule
carried_down T i abstraction L [] = 0
carried_down T i nothing L t = 0

-- Up at a node, by the place where it stands.
unfoldable pub carried_up : Place → Log → Tape → ℕ
-- Rules 5 and 7: none.
carried_up (function_of p) L (bullet ∷ t) = 0
carried_up (body_of p) L t = 0
-- "Rules 6 and 8 move the entry's words": 6 that on top of the tape, and 8 that on top of the log.
carried_up (function_of p) L (held e ∷ t) = of_entry e
carried_up (argument_of p) (e ▸ L) t = of_entry e
-- every other state has no rule
carried_up (function_of p) L [] = 0
carried_up (argument_of p) ε t = 0
carried_up nowhere L t = 0

unfoldable pub carried_from : Table → ℕ → Dir → Log → Tape → ℕ
carried_from T i down L t = carried_down T i (kind_at T i) L t
carried_from T i up L t = carried_up (place_at T i) L t

-- What the step from a state carries (`carried_change`, proofs/Carried.antt: as many words as the log grows or shrinks by),
abbrev pub carried : Table → State → ℕ
carried T s = carried_from T s.node s.dir s.log s.tape

-- and the step back, which is: "turn the direction, make one step, turn it again" (`back_carries`: what the step that it undoes carried).
abbrev pub carried_back : Table → State → ℕ
carried_back T s = carried T (turn s)

-- From a state s₀ at position 0: what the step after p steps carries,
unfoldable pub carried_after : Table → State → ℕ → ℕ
carried_after T s₀ p = if_some (after_from T s₀ p) (λ s. carried T s) (λ _. 0)

-- what the k steps after p steps carry together,
unfoldable pub carried_over : Table → State → ℕ → ℕ → ℕ
carried_over T s₀ zero p = 0
carried_over T s₀ (suc k) p = carried_after T s₀ p + carried_over T s₀ k (suc p)

-- and what the steps between p and q do, whichever of the two comes first.
abbrev pub carried_between : Table → State → ℕ → ℕ → ℕ
carried_between T s₀ p q = carried_over T s₀ ((q - p) + (p - q)) (min p q)
