-- What the functions of a winding loop promise: what ends a walk before a step, one pass of the loop, and the running outcome.
use Rattle.std.specs.Prelude.{◌≡◌, Result, Ok, Err, Bool, false, ◌&&◌, cond, List, ℕ, suc, ◌+◌, ◌-◌, ◌≤◌, ◌<◌, max, length, leb, ltb, eqb}
use Rattle.std.proofs.Math.Option.{none, some}
use Rattle.term.specs.Table.{Table, table_in}
use Rattle.machine.specs.Machine.{Dir, down, up, State, step, turned, turn}
use Rattle.calls.specs.Session
use Rattle.calls.specs.Stops.{Way, forward, back, Moment, moment, moment_of, room, greatest, is_answer, next_by, halt_before, stop_before}
use Rattle.calls.specs.Winding.{carried_by, wind}
use Rattle.calls.specs.Calls.{wound}
use Rattle.session.specs.Types.{way_meant, session_meant, stop_meant, walk_meant}
use Rattle.session.specs.Steps.{TokenAt}
use Rattle.session.specs.Rules.{RuleIs}
use Rattle.session.specs.Weight.{weight_of}
use Rattle.session.specs.declared.Session as Declared
use Rattle.session.specs.declared.Outcome as Came
use Rattle.session.specs.declared.Stop.TheVariants.{Spent, Answer, Jam, Start}
use Rattle.session.specs.declared.Stop as DeclaredStop
use Rattle.session.specs.declared.choice.Rule.{Rule}
use Rattle.session.specs.declared.choice.Rule.TheVariants.{One, Two, Three, Four, Five, Six, Seven, Eight}
use Rattle.session.specs.declared.winding.Way as DeclaredWay
use Rattle.session.specs.declared.winding.Passed.{Passed}

-- A session with its direction turned.
abbrev pub turned_session : Session.Session → Session.Session
turned_session se = record {
  node = se.node;
  dir = turned se.dir;
  position = se.position;
  log_length = se.log_length;
  tape_length = se.tape_length;
  turns = se.turns;
}

-- What a step is made from: going back, the session and the state turned.
abbrev pub facing_session : Way → Session.Session → Session.Session
facing_session forward se = se
facing_session back se = turned_session se

abbrev pub facing : Way → State → State
facing forward s = s
facing back s = turn s

-- there is a position after the step, which is this one
abbrev pub HasNext : Way → ℕ → Type 0
HasNext forward p = p < greatest
HasNext back p = 1 ≤ p

abbrev pub position_after : Way → ℕ → ℕ
position_after forward p = p + 1
position_after back p = p - 1

-- and its direction: going back, that of the step turned again
abbrev pub facing_dir : Way → Dir → Dir
facing_dir forward d = d
facing_dir back d = turned d

-- the session after a step that arrived as this one, which is still at the position before it, with k turns
abbrev pub session_after : Way → ℕ → Session.Session → Session.Session
session_after way k se = record {
  node = se.node;
  dir = facing_dir way se.dir;
  position = position_after way se.position;
  log_length = se.log_length;
  tape_length = se.tape_length;
  turns = k;
}

-- what the test of the answer promises
abbrev pub TellsAnswer : List ℕ → ℕ → Declared.Session → Bool → Type 0
TellsAnswer w n se b = (ls ts : List ℕ) (s : State) → TokenAt w n se ls ts s → b ≡ is_answer (table_in w n) s

-- Whether a walk has come to its end: forward to the answer, back to the start.
abbrev pub is_end : Way → Table → Moment → Bool
is_end forward T m = is_answer T m.state
is_end back T m = eqb m.position 0

abbrev pub TellsEnd : List ℕ → ℕ → Declared.Session → Way → Bool → Type 0
TellsEnd w n se way b = (ls ts : List ℕ) (s : State) → TokenAt w n se ls ts s → b ≡ is_end way (table_in w n) (moment_of (session_meant se) s)

-- the stop there
abbrev pub end_stop : Way → Declared.Session → DeclaredStop.Stop
end_stop forward se = Answer se.node
end_stop back se = Start

-- Whether there is no position after the next step.
abbrev pub is_far : Way → ℕ → Bool
is_far forward p = eqb p greatest
is_far back p = false

-- the direction in which a rule leads
abbrev pub rule_dir : Rule → Dir
rule_dir (One j) = down
rule_dir (Two j) = down
rule_dir (Three j) = up
rule_dir (Four j) = up
rule_dir (Five j) = up
rule_dir (Six j) = down
rule_dir (Seven j) = up
rule_dir (Eight j) = down

-- The turns after a step that has k; going back from a position that is not 0, a jam where they would be "below 0, or above the new position".
abbrev pub turns_left : Way → Declared.Session → ℕ → Result ℕ DeclaredStop.Stop
turns_left forward se k = Ok (se.turns + k)
turns_left back se k = cond (leb k se.turns && ltb (se.turns - k) se.position) (Ok (se.turns - k)) (Err Jam)

-- what is added fits a word
abbrev pub CanTurn : Way → Declared.Session → ℕ → Type 0
CanTurn forward se k = se.turns + k ≤ greatest
CanTurn back se k = Unit

-- Before a step, the count not used up: the stop, if it is not a full slice; or the rule that fits what the step is made from, and the turns of the moment that it leads to.
abbrev pub BeforeIs : List ℕ → ℕ → Declared.Session → Way → State → Result (Rule × ℕ) DeclaredStop.Stop → Type 0
BeforeIs w n se way s (Err x) = (c : ℕ) → halt_before way (table_in w n) (suc c) (moment_of (session_meant se) s) ≡ some (stop_meant x)
BeforeIs w n se way s (Ok (r, k)) =
    ((c : ℕ) → halt_before way (table_in w n) (suc c) (moment_of (session_meant se) s) ≡ none)
    × HasNext way se.position
    × RuleIs (table_in w n) (facing way s) r
    × ((u : State) → step (table_in w n) (facing way s) ≡ some u
    → next_by way (table_in w n) (moment_of (session_meant se) s) ≡ some (moment (facing way u) (position_after way se.position) k))

abbrev pub TellsBefore : List ℕ → ℕ → Declared.Session → List ℕ → Way → Result (Rule × ℕ) DeclaredStop.Stop → Type 0
TellsBefore w n se ts way b = (ls : List ℕ) (s : State) → TokenAt w n se ls ts s → BeforeIs w n se way s b

-- One pass of the loop, the count not used up: on to the next moment by a rule, with the words that the step carries, or halted where it stands.
abbrev pub PassIs : List ℕ → ℕ → Declared.Session → List ℕ → List ℕ → Way → State → Result Passed DeclaredStop.Stop → List ℕ → List ℕ → Type 0
PassIs w n se ls ts way s (Ok p) ls' ts' =
    (u : State)
    × RuleIs (table_in w n) (facing way s) p.rule
    × (next_by way (table_in w n) (moment_of (session_meant se) s) ≡ some (moment_of (session_meant p.session) u))
    × ((c : ℕ) → stop_before way (table_in w n) (room ls ts) (suc c) (moment_of (session_meant se) s) ≡ none)
    × TokenAt w n p.session ls' ts' u
    × (length ls' ≡ length ls)
    × (length ts' ≡ length ts)
    × (p.carried ≡ carried_by way (table_in w n) s)
PassIs w n se ls ts way s (Err x) ls' ts' =
    ((c : ℕ) → stop_before way (table_in w n) (room ls ts) (suc c) (moment_of (session_meant se) s) ≡ some (stop_meant x)) × (ls' ≡ ls) × (ts' ≡ ts)

abbrev pub Passes : List ℕ → ℕ → Declared.Session → List ℕ → List ℕ → DeclaredWay.Way → Result Passed DeclaredStop.Stop → List ℕ → List ℕ → Type 0
Passes w n se ls ts way p ls' ts' = (s : State) → TokenAt w n se ls ts s → PassIs w n se ls ts (way_meant way) s p ls' ts'

-- The running outcome of a loop: of no step, with one step more, and halted. Of the last numbers b is that of the bullets there, and k of the words that the step carried.
abbrev pub begun_at : ℕ → Declared.Session → ℕ → Came.Outcome
begun_at n se b = record { session = se; steps = 0; stop = Spent; peak = weight_of n se b; carried = 0 }

abbrev pub lengthened_to : Came.Outcome → ℕ → Declared.Session → ℕ → ℕ → Came.Outcome
lengthened_to o n to b k = record { session = to; steps = o.steps + 1; stop = Spent; peak = max o.peak (weight_of n to b); carried = o.carried + k }

abbrev pub halted_by : Came.Outcome → DeclaredStop.Stop → Came.Outcome
halted_by o x = record { session = o.session; steps = o.steps; stop = x; peak = o.peak; carried = o.carried }

-- The whole loop answers the run from every state held.
abbrev pub Winds : List ℕ → ℕ → Declared.Session → List ℕ → List ℕ → DeclaredWay.Way → ℕ → Came.Outcome → List ℕ → List ℕ → Type 0
Winds w n se ls ts way count o ls' ts' =
    (s : State) → TokenAt w n se ls ts s
    → walk_meant o ls' ts' ≡ wound (room ls ts) (wind (way_meant way) (table_in w n) (room ls ts) count (moment_of (session_meant se) s))
