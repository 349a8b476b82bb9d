-- When a state of the plain machine, on the table of the term t, stands for a state of the published machine; and the rule of document 01 that a transition is.
use Rattle.std.specs.Prelude.{◌≡◌, [], ◌∷◌, ℕ, suc, ◌+◌}
use Rattle.term.specs.Term.{Term, size}
use Rattle.machine.specs.Entries as Plain
use Rattle.machine.specs.Entries.{Entry, entry, ◌▸◌, bullet}
use Rattle.machine.specs.Machine as Machine
use Rattle.published.specs.Figure.{Context, ⟨·⟩, lambda, left, right, ◌⟨◌⟩, ◌⟪◌⟫, bound_above, LoggedPosition, logged, Log, ε, ◌·◌, •, held, Tape, State, Transition, →•1, →•2, →var, →bt2, →•3, →•4, →arg, →bt1}

-- The hole's number in preorder, where the whole is node i: "a node, then its left part, then its right part".
abbrev pub node_from : ℕ → Context → ℕ
node_from i ⟨·⟩ = i
node_from i (lambda C) = node_from (suc i) C
node_from i (left C t) = node_from (suc i) C
node_from i (right t C) = node_from (suc i + size t) C

-- Node i of t is the position (u, C): "a sub-term u and a context C such that C⟨u⟩ = t", numbered "from the root, which is 1".
pub record Position (t : Term) (i : ℕ) (u : Term) (C : Context) : Type 0 where
  pub whole : C ⟨ u ⟩ ≡ t
  pub number : i ≡ node_from 1 C

-- Node v of t is the variable x of a logged position (x, K, L): its context in t is C⟨K⟩, and K is λx.D, which begins at the variable's binder.
abbrev pub FromBinder : Term → ℕ → Term → Context → Type 0
FromBinder t v x K = (C : Context) × (D : Context) × (x ≡ bound_above D) × (K ≡ lambda D) × Position t v x (C ⟪ K ⟫)

-- An entry stands for the logged position of its variable that begins at the binder; the entries inside it stand for the log, down to the leaves.
abbrev mutual
  pub EntryIs : Term → Entry → LoggedPosition → Type 0
  EntryIs t (entry v es) (logged x K L) = FromBinder t v x K × LogIs t es L

  pub LogIs : Term → Plain.Log → {n : ℕ} → Log n → Type 0
  LogIs t Plain.ε ε = Unit
  LogIs t Plain.ε (l · L) = ⊥
  LogIs t (e ▸ M) ε = ⊥
  LogIs t (e ▸ M) (l · L) = EntryIs t e l × LogIs t M L

-- A bullet stands for a bullet, and an entry as above.
pub data TapeIs (t : Term) : Plain.Tape → Tape → Type 0 where
  nothing_on : TapeIs t [] []
  on_bullet : {S : Plain.Tape} {T : Tape} → TapeIs t S T → TapeIs t (bullet ∷ S) (• ∷ T)
  on_entry : {e : Entry} {l : LoggedPosition} {S : Plain.Tape} {T : Tape} → EntryIs t e l → TapeIs t S T → TapeIs t (Plain.held e ∷ S) (held l ∷ T)

-- The state s of the plain machine, on the table of t, stands for the state P.
pub record Represents (t : Term) (s : Machine.State) (P : State) : Type 0 where
  pub position : Position t s.node P.term P.context
  pub same_dir : s.dir ≡ P.dir
  pub same_log : LogIs t s.log P.log
  pub same_tape : TapeIs t s.tape P.tape

-- The rule of document 01 that a transition is, by its number.
abbrev pub rule : {P Q : State} → Transition P Q → ℕ
rule (→•1 C) = 1
rule (→•2 C) = 2
rule (→var C D) = 3
rule (→bt2 C D) = 4
rule (→•3 C) = 5
rule (→arg C) = 6
rule (→•4 C) = 7
rule (→bt1 C) = 8
