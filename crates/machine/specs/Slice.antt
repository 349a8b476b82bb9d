-- Log and tape in their lent slices: how they lie there, and how they are read back.
use Rattle.std.specs.Prelude.{Bool, true, ◌&&◌, cond, List, [], ◌∷◌, ◌++◌, reverse, ℕ, zero, suc, ◌-◌, length, drop, replicate, leb, eqb}
use Rattle.std.proofs.Math.Option.{Option, none, some}
use Rattle.term.specs.Choice.{◌>>=◌}
use Rattle.term.specs.Table.{Table, arity, kind_at, is_variable}
use Rattle.machine.specs.Entries.{entry, Log, ε, ◌▸◌, how_many, topmost, rest, bullet, held, Tape}

-- In a slice of `room` words, "with the top at the high end: the last word read comes first in the slice. Words above the top are 0."
unfoldable pub slice : ℕ → List ℕ → List ℕ
slice room ws = reverse ws ++ replicate (room - length ws) 0

-- Read back from the low end, each word is put onto the list that the words below it make.
-- A variable's word makes an entry with the arity-many entries on top; any other word, one above n too, makes none.
abbrev pub makes_entry : Table → ℕ → ℕ → Bool
makes_entry T v have = is_variable (kind_at T v) && leb (arity T v) have

unfoldable pub put_on_log : Table → ℕ → Log → Option Log
put_on_log T v L = cond (makes_entry T v (how_many L)) (some (entry v (topmost (arity T v) L) ▸ rest (arity T v) L)) none

unfoldable pub read_log : Table → List ℕ → Log → Option Log
read_log T [] L = some L
read_log T (v ∷ ws) L = put_on_log T v L >>= λ M. read_log T ws M

-- the entries on top of a tape, down to a bullet or the end
abbrev pub held_on : Tape → Log
held_on [] = ε
held_on (bullet ∷ t) = ε
held_on (held e ∷ t) = e ▸ held_on t

unfoldable pub put_on_tape : Table → ℕ → Tape → Option Tape
put_on_tape T zero t = some (bullet ∷ t)
put_on_tape T (suc v) t =
    cond (makes_entry T (suc v) (how_many (held_on t))) (some (held (entry (suc v) (topmost (arity T (suc v)) (held_on t))) ∷ drop (arity T (suc v)) t)) none

unfoldable pub read_tape : Table → List ℕ → Tape → Option Tape
read_tape T [] t = some t
read_tape T (v ∷ ws) t = put_on_tape T v t >>= λ u. read_tape T ws u

-- "a word not 0 above a top"
unfoldable pub all_zero : List ℕ → Bool
all_zero [] = true
all_zero (x ∷ xs) = eqb x 0 && all_zero xs
