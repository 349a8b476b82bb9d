-- No step lengthens both lists, and no step back does: what one gains in words, the other has given.
use mathlib.Core.Path.{◌≡◌, subst}
use mathlib.Core.Option.{Option, none, some, map}
use mathlib.Core.List.{[], ◌∷◌}
use Prim.Native.Nat.{ℕ, ◌≤◌}
use native.Mathlib.Omega.{arith}
use lib.ListN.{length, length-append}
use lib.Dec.{leb}
use Rattle.term.specs.Table.{Table, arity, Kind, variable, abstraction, application, nothing, kind_at, Place, body_of, function_of, argument_of, nowhere, place_at}
use Rattle.machine.specs.Entries.{entry, Log, ε, ◌▸◌, how_many, rest, bullet, held, Tape, entry_words, log_words, tape_words}
use Rattle.machine.specs.Machine.{Dir, down, up, State, state, bound_at, go_down, go_up, step_by, step, turned, turn, step_back}
use Rattle.machine.proofs.Logs.{words_split}
use Rattle.machine.proofs.Led.{Led, led_test}

-- of the lists of s, at most one is longer in u
pub data NotBoth (s u : State) : Type 0 where
  log_no_longer : length (log_words u.log) ≤ length (log_words s.log) → NotBoth s u
  tape_no_longer : length (tape_words u.tape) ≤ length (tape_words s.tape) → NotBoth s u

pub rest_no_longer : (a : ℕ) (L : Log) → length (log_words (rest a L)) ≤ length (log_words L)
rest_no_longer a L = omega (arith, words_split a L)

by_kind : (T : Table) (i : ℕ) (L : Log) (t : Tape) (k : Kind) → Led (NotBoth (state i down L t)) (go_down T i k L t)
unfolding go_down
by_kind T i L t application = log_no_longer (omega arith)
by_kind T i L [] abstraction = tt
by_kind T i L (bullet ∷ t) abstraction = log_no_longer (omega arith)
by_kind T i L (held (entry v es) ∷ t) abstraction = led_test (NotBoth _) (bound_at T i v) _ (λ b. tape_no_longer (omega (arith, length-append (v ∷ log_words es) (tape_words t))))
by_kind T i L t variable = led_test (NotBoth _) (leb (arity T i) (how_many L)) _ (λ b. log_no_longer (rest_no_longer (arity T i) L))
by_kind T i L t nothing = tt

by_place : (T : Table) (i : ℕ) (L : Log) (t : Tape) (q : Place) → Led (NotBoth (state i up L t)) (go_up T q L t)
unfolding go_up
by_place T i L [] (function_of p) = tt
by_place T i L (bullet ∷ t) (function_of p) = log_no_longer (omega arith)
by_place T i L (held e ∷ t) (function_of p) = tape_no_longer (omega (arith, length-append (entry_words e) (tape_words t)))
by_place T i L t (body_of p) = log_no_longer (omega arith)
by_place T i ε t (argument_of p) = tt
by_place T i (e ▸ L) t (argument_of p) = log_no_longer (omega (arith, length-append (entry_words e) (log_words L)))
by_place T i L t nowhere = tt

by_step : (T : Table) (i : ℕ) (d : Dir) (L : Log) (t : Tape) → Led (NotBoth (state i d L t)) (step_by T i d L t)
unfolding step_by
by_step T i down L t = by_kind T i L t (kind_at T i)
by_step T i up L t = by_place T i L t (place_at T i)

pub never_both : (T : Table) (s u : State) → step T s ≡ some u → NotBoth s u
never_both T s u e = subst (Led (NotBoth s)) e (by_step T s.node s.dir s.log s.tape)

-- A step back is a step between turned states, whose lists are the same.
turned_not_both : (s : State) (o : Option State) → Led (NotBoth (turn s)) o → Led (NotBoth s) (map turn o)
turned_not_both s none h = tt
turned_not_both s (some u) (log_no_longer h) = log_no_longer h
turned_not_both s (some u) (tape_no_longer h) = tape_no_longer h

pub back_never_both : (T : Table) (s u : State) → step_back T s ≡ some u → NotBoth s u
back_never_both T s u e =
    subst (Led (NotBoth s)) e (turned_not_both s (step T (turn s)) (by_step T s.node (turned s.dir) s.log s.tape))
