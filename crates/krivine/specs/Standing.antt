-- What the code of a run promises of where it stands: one step on the records alone, and one pass of the loop.
use Rattle.std.specs.Prelude.{◌≡◌, List, [], ◌∷◌, ℕ, ◌≤◌, length, eqb, Result, Ok, Err}
use Rattle.std.proofs.Math.Option.{Option, none}
use Rattle.term.specs.Choice.{◌⇒◌, first, if_some}
use Rattle.term.specs.Table.{Table, Kind, variable, abstraction, application, nothing, kind_at}
use Rattle.kam.specs.Records.{Records, node_in, environment_in, next_in, laid_by, node_by}
use Rattle.kam.specs.Runs.{Halt, answer, full, Fit, none_free, most_words}
use Rattle.krivine.specs.Types.{halt_meant}
use Rattle.krivine.specs.declared.Halt as declared
use Rattle.krivine.specs.declared.records.Record.{Record}
use Rattle.krivine.specs.declared.steps.Standing.{Standing}

-- what the record of a number holds
abbrev pub record_in : List ℕ → ℕ → Record
record_in w r = record { node = node_in w r; environment = environment_in w r; next = next_in w r }

-- a node and the records
pub record Stood : Type 0 where
  pub node : ℕ
  pub records : Records

abbrev pub stood : ℕ → Records → Stood
stood i R = record { node = i; records = R }

-- The code's standing, with the words that it is lent.
abbrev pub records_meant : Standing → List ℕ → Records
records_meant at words = record { words = words; taken = at.taken; environment = at.environment; stack = at.stack }

abbrev pub stood_meant : Standing → List ℕ → Stood
stood_meant at words = stood at.node (records_meant at words)

-- one step
abbrev pub stepped_by : Kind → Table → Stood → Stood
stepped_by k T x = stood (node_by k T x.node x.records) (laid_by k T x.node x.records)

-- What ends a run before a step, the count not used up: an abstraction with no record on the stack, or an application with none free.
abbrev pub halt_by : Kind → Records → Option Halt
halt_by abstraction R = first ((eqb R.stack 0 ⇒ answer) ∷ [])
halt_by application R = first ((none_free R ⇒ full) ∷ [])
halt_by variable R = none
halt_by nothing R = none

-- One pass of the loop: on to where a step leads, or halted with the words as they were.
pub data Passed : Type 0 where
  on : Stood → Passed
  halted : Halt → List ℕ → Passed

abbrev pub pass_by : Kind → Table → Stood → Passed
pass_by k T x = if_some (halt_by k x.records) (λ h. halted h x.records.words) (λ _. on (stepped_by k T x))

abbrev pub pass_of : Table → Stood → Passed
pass_of T x = pass_by (kind_at T x.node) T x

abbrev pub pass_meant : Result Standing declared.Halt → List ℕ → Passed
pass_meant (Ok to) words = on (stood_meant to words)
pass_meant (Err h) words = halted (halt_meant h) words

-- What a pass asks: there are few words, the taken records fit, the one on top of the stack is taken, and the node is there.
pub record Steady (T : Table) (x : Stood) : Type 0 where
  pub few_words : length x.records.words ≤ most_words
  pub fit : Fit x.records.taken x.records.words
  pub top_taken : x.records.stack ≤ x.records.taken
  pub there : kind_at T x.node ≡ nothing → ⊥
