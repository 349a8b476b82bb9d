-- What holds of Krivine's machine: how its closures lie in the records at every step; and on an accepted table, where a run ends, that the machine is never stuck, and what the index is.
use Rattle.std.specs.Prelude.{◌≡◌, ◌↔◌, true, List, [], ◌∷◌, ℕ, suc, ◌+◌, ◌-◌, ◌*◌, ◌≤◌, ◌<◌, length, get_or, drop}
use Rattle.std.proofs.Math.Option.{none, some}
use Rattle.term.specs.Code.{code_of}
use Rattle.term.specs.Table.{Table, table_in, variable, application, kind_at}
use Rattle.term.specs.Accepted.{Accepted}
use Rattle.kam.specs.Krivine.{Closure, closure, Closures, ∅, ◌▹◌, State, index_at, step, after, made_after}
use Rattle.kam.specs.Records.{node_in, environment_in, next_in}
use Rattle.kam.specs.Runs.{full, Ran, Moment, moment_after, is_answer, Fit, AsManyAsFit, halt_before, most_words, run_of}

-- Record r is one of the first k.
pub record IsTaken (k r : ℕ) : Type 0 where
  pub from_one : 1 ≤ r
  pub to_last : r ≤ k

unfoldable mutual
  -- Record r "holds node and environment of the closure": the chain from its environment word is the closure's environment.
  pub Holds : List ℕ → ℕ → ℕ → Closure → Type 0
  Holds w k r (closure i E) = (node_in w r ≡ i) × Chain w k (environment_in w r) E

  -- The chain from record r, in the first k records, is this list of closures: "next is the record below it, .. and zero ends the chain".
  pub Chain : List ℕ → ℕ → ℕ → Closures → Type 0
  Chain w k r ∅ = r ≡ 0
  Chain w k r (c ▹ C) = IsTaken k r × Holds w k r c × Chain w k (next_in w r) C

-- Record r and those after it hold these closures in their order.
unfoldable pub HoldEach : List ℕ → ℕ → ℕ → List Closure → Type 0
HoldEach w k r [] = Unit
HoldEach w k r (c ∷ cs) = Holds w k r c × HoldEach w k (suc r) cs

-- How the closures lie after q steps on a lent slice.
pub record Lies (T : Table) (lent : List ℕ) (q : ℕ) (m : Moment) : Type 0 where
  -- The state is the machine's.
  pub state_is : after T q ≡ some m.state
  -- The chains from the two tops are its environment and stack.
  pub environment_lies : Chain m.records.words m.records.taken m.records.environment m.state.environment
  pub stack_lies : Chain m.records.words m.records.taken m.records.stack m.state.stack
  -- Record r, in a chain or not, holds the closure made by the r-th application step, and there are no other records.
  pub records_hold : HoldEach m.records.words m.records.taken 1 (made_after T q)
  pub taken_is : m.records.taken ≡ length (made_after T q)
  pub fit : Fit m.records.taken m.records.words
  -- "Words past the taken records keep their values."
  pub as_long : length m.records.words ≡ length lent
  pub past_kept : drop (3 * m.records.taken) m.records.words ≡ drop (3 * m.records.taken) lent

-- At every step, as long as no more records are taken than fit (`lies`, proofs/Lies.antt).
abbrev pub AlwaysLies : Type 0
AlwaysLies = (T : Table) (lent : List ℕ) (q : ℕ) (m : Moment) → moment_after T lent q ≡ some m → Fit m.records.taken lent → Lies T lent q m

-- Where a run by a count ends: it stands where the machine does after as many steps, a test applies there, and none did before; and at each of its steps the closures lie in the records.
pub record Ends (T : Table) (lent : List ℕ) (count : ℕ) (r : Ran) : Type 0 where
  pub last : Moment
  pub reached : moment_after T lent r.steps ≡ some last
  pub node_is : r.node ≡ last.state.node
  pub records_are : r.records ≡ last.records.words
  pub within : r.steps ≤ count
  pub halts : halt_before T (count - r.steps) last ≡ some r.halt
  pub not_before : (q : ℕ) (m : Moment) → q < r.steps → moment_after T lent q ≡ some m → halt_before T (count - q) m ≡ none
  pub always_lie : (q : ℕ) (m : Moment) → q ≤ r.steps → moment_after T lent q ≡ some m → Lies T lent q m

-- (`run_ends`, proofs/Ends.antt)
abbrev pub RunEnds : Type 0
RunEnds = (w : List ℕ) (n : ℕ) → Accepted w n → (lent : List ℕ) → length lent ≤ most_words → (count : ℕ) → Ends (table_in w n) lent count (run_of w n lent count)

-- "the run stops as full exactly when such a step finds as many taken as fit": of the moment at which it ends (`run_full`, proofs/Full.antt).
abbrev pub RunFull : Type 0
RunFull = (T : Table) (lent : List ℕ) (count : ℕ) (r : Ran) (e : Ends T lent count r)
    → (r.halt ≡ full) ↔ ((r.steps < count) × (kind_at T e.last.state.node ≡ application) × AsManyAsFit e.last.records)

-- No word is read before it is written: two slices of the same length give the same node, steps and halt (`unread`, proofs/Unread.antt).
abbrev pub Unread : Type 0
Unread = (w : List ℕ) (n : ℕ) (lent other : List ℕ) (count : ℕ) → length lent ≡ length other
    → ((run_of w n lent count).node ≡ (run_of w n other count).node) × ((run_of w n lent count).steps ≡ (run_of w n other count).steps) × ((run_of w n lent count).halt ≡ (run_of w n other count).halt)

-- "before each step it is at an answer or has a step" (`never_stuck`, proofs/Scope.antt)
pub data Goes (T : Table) (s : State) : Type 0 where
  at_answer : is_answer T s ≡ true → Goes T s
  has_step : (u : State) → step T s ≡ some u → Goes T s

abbrev pub NeverStuck : Type 0
NeverStuck = (w : List ℕ) (n : ℕ) → Accepted w n → (q : ℕ) (s : State) → after (table_in w n) q ≡ some s → Goes (table_in w n) s

-- The index of a variable is its number in the term without names, "the number of binders between it and its own" (`term` Term, Code): the code's word of a variable is 3 and its number
-- (`index_exactly`, proofs/Scope.antt).
abbrev pub IndexExactly : Type 0
IndexExactly = (w : List ℕ) (n : ℕ) (A : Accepted w n) (i : ℕ) → kind_at (table_in w n) (suc i) ≡ variable
    → get_or (code_of A.term) i 0 ≡ 3 + index_at (table_in w n) (suc i)
