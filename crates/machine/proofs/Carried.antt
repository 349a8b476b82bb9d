-- The words that a step carries are those by which the log grows or shrinks; so a step back carries what the step that it undoes carried.
use mathlib.Core.Path.{◌≡◌, ap, subst}
use mathlib.Core.Bool.{Bool, true, false, cond}
use mathlib.Core.Option.{Option, none, some, map}
use mathlib.Core.List.{[], ◌∷◌}
use Prim.Native.Nat.{ℕ, ◌+◌, ◌-◌}
use native.Mathlib.Omega.{arith}
use lib.ListN.{length, length-append}
use lib.Dec.{leb}
use Rattle.term.specs.Table.{Table, arity, Kind, variable, abstraction, application, nothing, kind_at, Place, body_of, function_of, argument_of, nowhere, place_at}
use Rattle.term.specs.Facts.{Facts}
use Rattle.machine.specs.Entries.{entry, Log, ε, ◌▸◌, how_many, bullet, held, Tape, entry_words, log_words}
use Rattle.machine.specs.Machine.{Dir, down, up, State, bound_at, go_down, go_up, step_by, step, turn, step_back}
use Rattle.machine.specs.Carried.{carried_down, carried_up, carried_from, carried, carried_back}
use Rattle.machine.specs.Good.{Good}
use Rattle.machine.proofs.Logs.{words_onto, words_split}
use Rattle.machine.proofs.Led.{Led}
use Rattle.machine.proofs.Reverse.{back_redone}

-- how many words more, or fewer, the one log has than the other
abbrev pub log_change : Log → Log → ℕ
log_change L M = (length (log_words M) - length (log_words L)) + (length (log_words L) - length (log_words M))

-- a step from the log L that carries k words
abbrev Changes : Log → ℕ → Option State → Type 0
Changes L k = Led (λ u. k ≡ log_change L u.log)

-- where a rule has a test, as rules 3 and 4
changes_test : (L : Log) (b : Bool) (k : ℕ) (u : State) → k ≡ log_change L u.log → Changes L (cond b k 0) (cond b (some u) none)
changes_test L true k u e = e
changes_test L false k u e = tt

by_kind : (T : Table) (i : ℕ) (L : Log) (t : Tape) (k : Kind) → Changes L (carried_down T i k L t) (go_down T i k L t)
unfolding go_down carried_down
by_kind T i L t application = omega arith
by_kind T i L [] abstraction = tt
by_kind T i L (bullet ∷ t) abstraction = omega arith
by_kind T i L (held (entry v es) ∷ t) abstraction = changes_test L (bound_at T i v) _ _ (omega (arith, ap length (words_onto es L), length-append (log_words es) (log_words L)))
by_kind T i L t variable = changes_test L (leb (arity T i) (how_many L)) _ _ (omega (arith, words_split (arity T i) L))
by_kind T i L t nothing = tt

by_place : (T : Table) (L : Log) (t : Tape) (q : Place) → Changes L (carried_up q L t) (go_up T q L t)
unfolding go_up carried_up
by_place T L [] (function_of p) = tt
by_place T L (bullet ∷ t) (function_of p) = omega arith
by_place T L (held e ∷ t) (function_of p) = omega (arith, length-append (entry_words e) (log_words L))
by_place T L t (body_of p) = omega arith
by_place T ε t (argument_of p) = tt
by_place T (e ▸ L) t (argument_of p) = omega (arith, length-append (entry_words e) (log_words L))
by_place T L t nowhere = tt

by_step : (T : Table) (i : ℕ) (d : Dir) (L : Log) (t : Tape) → Changes L (carried_from T i d L t) (step_by T i d L t)
unfolding step_by carried_from
by_step T i down L t = by_kind T i L t (kind_at T i)
by_step T i up L t = by_place T L t (place_at T i)

pub carried_change : (T : Table) (s u : State) → step T s ≡ some u → carried T s ≡ log_change s.log u.log
carried_change T s u e = subst (Changes s.log (carried T s)) e (by_step T s.node s.dir s.log s.tape)

-- A step back is a step between turned states, whose logs are the same.
turned_changes : (L : Log) (k : ℕ) (o : Option State) → Changes L k o → Changes L k (map turn o)
turned_changes L k none h = tt
turned_changes L k (some u) h = h

pub carried_back_change : (T : Table) (s u : State) → step_back T s ≡ some u → carried_back T s ≡ log_change s.log u.log
carried_back_change T s u e = subst (Changes s.log (carried_back T s)) e (turned_changes s.log (carried_back T s) (step T (turn s)) (by_step T s.node _ s.log s.tape))

-- A step back carries what the step that it undoes carried.
pub back_carries : (T : Table) → Facts T → (s u : State) → Good T s → step_back T s ≡ some u → carried_back T s ≡ carried T u
back_carries T F s u g e = omega (arith, carried_back_change T s u e, carried_change T u s (back_redone T F u s g e))
