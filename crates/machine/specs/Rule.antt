-- Document 01, "The plain machine": the number of the rule by which a state steps, "the first line that fits", and 0 where none does.
use Rattle.std.specs.Prelude.{cond, [], ◌∷◌, ℕ, leb}
use Rattle.term.specs.Table.{Table, arity, Kind, variable, abstraction, application, nothing, kind_at, Place, body_of, function_of, argument_of, nowhere, place_at}
use Rattle.machine.specs.Entries.{entry, Log, ε, ◌▸◌, how_many, bullet, held, Tape}
use Rattle.machine.specs.Machine.{Dir, down, up, State, bound_at}

-- Down at node i, by its kind.
unfoldable pub rule_down : Table → ℕ → Kind → Log → Tape → ℕ
rule_down T i application L t = 1
rule_down T i abstraction L (bullet ∷ t) = 2
rule_down T i variable L t = cond (leb (arity T i) (how_many L)) 3 0
rule_down T i abstraction L (held (entry v es) ∷ t) = cond (bound_at T i v) 4 0
rule_down T i abstraction L [] = 0
rule_down T i nothing L t = 0

-- Up at a node, by the place where it stands.
unfoldable pub rule_up : Place → Log → Tape → ℕ
rule_up (function_of p) L (bullet ∷ t) = 5
rule_up (function_of p) L (held e ∷ t) = 6
rule_up (body_of p) L t = 7
rule_up (argument_of p) (e ▸ L) t = 8
rule_up (function_of p) L [] = 0
rule_up (argument_of p) ε t = 0
rule_up nowhere L t = 0

unfoldable pub rule_by : Table → ℕ → Dir → Log → Tape → ℕ
rule_by T i down L t = rule_down T i (kind_at T i) L t
rule_by T i up L t = rule_up (place_at T i) L t

abbrev pub rule_at : Table → State → ℕ
rule_at T s = rule_by T s.node s.dir s.log s.tape
