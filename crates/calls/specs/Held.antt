-- Number 9 of document 01: which sessions and slices hold a state, in the paper's words and as a test.
use Rattle.std.specs.Prelude.{◌≡◌, Bool, ◌&&◌, cond, List, [], ℕ, ◌≤◌, length, take, drop, leb, eqb}
use Rattle.std.proofs.Math.Option.{Option, none, some}
use Rattle.term.specs.Choice.{◌>>=◌, choose}
use Rattle.term.specs.Table.{Table}
use Rattle.machine.specs.Entries.{ε, how_many, log_words, tape_words}
use Rattle.machine.specs.Machine.{State, state}
use Rattle.machine.specs.Good.{Good}
use Rattle.machine.specs.Slice.{slice, read_log, read_tape, all_zero}
use Rattle.calls.specs.Session.{Session}
use Rattle.calls.specs.Stops.{log_size, tape_size}

-- Number 9 does not apply: the session and both slices hold this state. (That the machine could have come to it is not asked.)
pub record Holds (T : Table) (se : Session) (ls ts : List ℕ) (s : State) : Type 0 where
  pub node_is : se.node ≡ s.node
  pub dir_is : se.dir ≡ s.dir
  pub good : Good T s
  pub log_fits : se.log_length ≤ length ls
  pub tape_fits : se.tape_length ≤ length ts
  pub log_length_is : se.log_length ≡ log_size s
  pub tape_length_is : se.tape_length ≡ tape_size s
  pub log_lies : ls ≡ slice (length ls) (log_words s.log)
  pub tape_lies : ts ≡ slice (length ts) (tape_words s.tape)
  pub turns_fit : se.turns ≤ se.position

-- The same as a test: the state that they hold, if they hold one. No "turns greater than the position" (document 02, change 9),
abbrev pub few_turns : Session → Bool
few_turns se = leb se.turns se.position

-- and not "no such node; a length over its slice; .. a word not 0 above a top":
unfoldable pub well_formed : Table → Session → List ℕ → List ℕ → Bool
well_formed T se ls ts =
    leb 1 se.node
    && leb se.node T.nodes
    && leb se.log_length (length ls)
    && leb se.tape_length (length ts)
    && all_zero (drop se.log_length ls)
    && all_zero (drop se.tape_length ts)
    && few_turns se

-- "log not exactly level-many entries; tape not bullets and entries"
unfoldable pub state_in : Table → Session → List ℕ → List ℕ → Option State
state_in T se ls ts =
    choose (well_formed T se ls ts)
    (λ _. read_log T (take se.log_length ls) ε >>= λ L.
    read_tape T (take se.tape_length ts) [] >>= λ t.
    cond (eqb (how_many L) (T.level se.node)) (some (state se.node se.dir L t)) none)
    (λ _. none)
