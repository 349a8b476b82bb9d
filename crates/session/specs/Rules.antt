-- What the choice of a rule and the rules' functions promise: how the step goes from the state that the session and its slices hold.
use Rattle.std.specs.Prelude.{◌≡◌, Option, Some, None, Result, Ok, List, ◌∷◌, ℕ, ◌+◌, ◌-◌, ◌≤◌, length}
use Rattle.std.proofs.Math.Option.{none, some}
use borrow.Rule.Slice.PartMut.{mid_of, put_mid}
use Rattle.term.specs.Table.{Table, table_in, arity}
use Rattle.machine.specs.Entries.{Entry, entry, Log, ◌▸◌, how_many, topmost, rest, ◌onto◌, bullet, held, Tape}
use Rattle.machine.specs.Machine.{down, up, State, state, step}
use Rattle.calls.specs.Calls.{longest}
use Rattle.session.specs.Steps.{TokenAt, Ready, StepIs}
use Rattle.session.specs.Types.{dir_meant}
use Rattle.session.specs.Mover.{MoverIs}
use Rattle.session.specs.declared.Dir as DeclaredDir
use Rattle.session.specs.declared.Session as Declared
use Rattle.session.specs.declared.choice.Rule.{Rule}
use Rattle.session.specs.declared.choice.Rule.TheVariants.{One, Two, Three, Four, Five, Six, Seven, Eight}
use Rattle.session.specs.declared.Stop as DeclaredStop
use Rattle.session.specs.declared.Stop.TheVariants.{LogFull, TapeFull}
use Rattle.session.specs.declared.rules.Arrival.{Arrival}
use Rattle.session.specs.declared.rules.Full.{Full}
use Rattle.session.specs.declared.rules.Full.TheVariants as IsFull
use Rattle.session.specs.declared.rules.ListEnds.{ListEnds}

-- By the rule of document 01 that fits and the node j that it leads to: what the rule finds on top of log or tape, and the state after it.
abbrev pub RuleIs : Table → State → Rule → Type 0
RuleIs T s (One j) = step T s ≡ some (state j down s.log (bullet ∷ s.tape))
RuleIs T s (Two j) = (t : Tape) × (s.tape ≡ bullet ∷ t) × (step T s ≡ some (state j down s.log t))
RuleIs T s (Three j) =
    (arity T s.node ≤ how_many s.log)
    × (step T s ≡ some (state j up (rest (arity T s.node) s.log) (held (entry s.node (topmost (arity T s.node) s.log)) ∷ s.tape)))
RuleIs T s (Four j) = (es : Log) × (t : Tape) × (s.tape ≡ held (entry j es) ∷ t) × (step T s ≡ some (state j up (es onto s.log) t))
RuleIs T s (Five j) = (t : Tape) × (s.tape ≡ bullet ∷ t) × (step T s ≡ some (state j up s.log t))
RuleIs T s (Six j) = (e : Entry) × (t : Tape) × (s.tape ≡ held e ∷ t) × (step T s ≡ some (state j down (e ▸ s.log) t))
RuleIs T s (Seven j) = step T s ≡ some (state j up s.log (bullet ∷ s.tape))
RuleIs T s (Eight j) = (e : Entry) × (L : Log) × (s.log ≡ e ▸ L) × (step T s ≡ some (state j down L (held e ∷ s.tape)))

-- a rule that fits, or none
abbrev pub FitIs : Table → State → Option Rule → Type 0
FitIs T s (Some r) = RuleIs T s r
FitIs T s None = step T s ≡ none

-- what the choice of a rule promises of every state held
abbrev pub Chooses : List ℕ → ℕ → Declared.Session → List ℕ → Option Rule → Type 0
Chooses w n se ts f = (ls : List ℕ) (s : State) → TokenAt w n se ls ts s → FitIs (table_in w n) s f

-- what the function of one rule requires
pub record Fitting (w : List ℕ) (n : ℕ) (se : Declared.Session) (ls ts : List ℕ) (r : Rule) : Type 0 where
  pub ready : Ready w n se ls ts
  pub fits : (s : State) → TokenAt w n se ls ts s → RuleIs (table_in w n) s r

-- What the functions promise of the rules that only count a bullet's word, which lead to node j in direction d: nothing is written.
abbrev pub BulletComes : Declared.Session → ℕ → DeclaredDir.Dir → List ℕ → Result Arrival Full → Type 0
BulletComes se j d ts r =
    (w : List ℕ) (n : ℕ) (ls : List ℕ) (s : State) → TokenAt w n se ls ts s
    → step (table_in w n) s ≡ some (state j (dir_meant d) s.log (bullet ∷ s.tape)) → StepIs w n se ls ts s r ls ts

abbrev pub BulletGoes : Declared.Session → ℕ → DeclaredDir.Dir → Arrival → Type 0
BulletGoes se j d a =
    (w : List ℕ) (n : ℕ) (ls ts : List ℕ) (s : State) (t : Tape) → TokenAt w n se ls ts s → s.tape ≡ bullet ∷ t
    → step (table_in w n) s ≡ some (state j (dir_meant d) s.log t) → StepIs w n se ls ts s (Ok a) ls ts

-- The part of a slice that starts at index m, as it is lent, and the slice once it came back.
abbrev pub part_from : ℕ → List ℕ → List ℕ
part_from m s = mid_of m (length s - m) s

abbrev pub with_part : ℕ → List ℕ → List ℕ → List ℕ
with_part m s part = put_mid m (length s - m) s part

-- the stop that a full slice is
abbrev pub full_stop : Full → DeclaredStop.Stop
full_stop IsFull.Log = LogFull
full_stop IsFull.Tape = TapeFull

-- Where lists of `top` and `end` words end once k words went from the one to the other, with `own` words made above them.
abbrev pub ends_after : ℕ → ℕ → ℕ → ℕ → ListEnds
ends_after k top end own = record { left = top - k; came = end + k + own; carried = k }

-- what these lengths require: no more words went than there were, and those that came fit
abbrev pub EndsFit : ℕ → ℕ → ℕ → ℕ → Type 0
EndsFit k top end own = (k ≤ top) × (end + k + own ≤ longest)

-- The next `owed` entries below index `top` of one list's slice moved to the part of the other's that starts at its top, and these are the lengths then; or they have no room.
abbrev pub MovedOnto : Table → List ℕ → ℕ → ℕ → List ℕ → ℕ → Option ListEnds → List ℕ → List ℕ → Type 0
MovedOnto T from top owed to end (Some ends) from' to' =
    (part : List ℕ)
    × MoverIs T from top owed (part_from end to) (Some ends.carried) from' part
    × (ends.left ≡ top - ends.carried)
    × (ends.came ≡ end + ends.carried)
    × (to' ≡ with_part end to part)
MovedOnto T from top owed to end None from' to' =
    (part : List ℕ) × MoverIs T from top owed (part_from end to) None from' part × (to' ≡ with_part end to part)

-- Entries moved on the way to node j in direction d, by where the two lists end then and how many words they have: from the tape onto the log, and from the log onto the tape.
abbrev pub onto_log : ℕ → DeclaredDir.Dir → ListEnds → Arrival
onto_log j d e = record { node = j; dir = d; log_len = e.came; tape_len = e.left; carried = e.carried }

abbrev pub onto_tape : ℕ → DeclaredDir.Dir → ListEnds → Arrival
onto_tape j d e = record { node = j; dir = d; log_len = e.left; tape_len = e.came; carried = e.carried }
