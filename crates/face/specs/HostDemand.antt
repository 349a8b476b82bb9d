-- The third demand of document 01 for a host: after every list of its calls, what it keeps is the plain machine's after p steps, told in numbers.
-- The theorem is `host_demand` (proofs/HostDemand.antt).
use Rattle.std.specs.Prelude.{◌≡◌, List, [], ◌∷◌, ℕ, ◌≤◌, length}
use Rattle.std.proofs.Math.Option.{Option, none, some}
use Rattle.term.specs.Table.{Table, table_in}
use Rattle.term.specs.Accepted.{Accepted}
use Rattle.machine.specs.Machine.{State, start_state}
use Rattle.calls.specs.Session.{Outcome}
use Rattle.calls.specs.Stops.{Room, room}
use Rattle.calls.specs.Calls.{longest, open_of}
use Rattle.calls.specs.Looks.{Look}
use Rattle.calls.specs.Foretold.{Foretells}
use Rattle.calls.specs.Demand
use Rattle.calls.specs.Moves.{Move, outcome_of, own_number}
use Rattle.calls.specs.Demand.{Permitted, Standing, position_by, AsPlain, OwnCall}
use Rattle.face.specs.declared.HostSession.{HostSession}
use Rattle.face.specs.declared.HostOpening.{HostOpening}
use Rattle.face.specs.declared.HostOutcome.{HostOutcome}
use Rattle.face.specs.declared.HostLook.{HostLook}
use Rattle.face.specs.Numbers.{session_numbers, refused_code}
use Rattle.face.specs.Told.{open_told, outcome_told, refused_told, called, look_told, nothing_told, look_called}

-- what a host keeps between two calls
pub record Kept : Type 0 where
  pub session : HostSession
  pub log : List ℕ
  pub tape : List ℕ

abbrev pub kept_of : Standing → Kept
kept_of st = record { session = session_numbers st.session; log = st.log; tape = st.tape }

-- A call of the list: its own gets what the host keeps, and brings a slice that has the opened table; another's gets whatever it is handed; a look is by a count. A host's call to a node in a direction is one to
-- the spot that its two numbers stand for (`spot_in`), whatever they are.
pub data HostCall : Type 0 where
  own : Move → List ℕ → HostCall
  other : Move → List ℕ → ℕ → Kept → HostCall
  look : ℕ → List ℕ → HostCall
  other_look : ℕ → List ℕ → ℕ → Kept → HostCall

abbrev pub answer_to : Move → List ℕ → ℕ → Kept → HostOutcome × List ℕ × List ℕ
answer_to m w n h = called (λ g. outcome_of m g) w n h.session h.log h.tape

abbrev pub look_from : ℕ → List ℕ → ℕ → Kept → HostLook × List ℕ × List ℕ
look_from c w n h = look_called w n h.session h.log h.tape c

-- its own as the third demand has it; another's stands there only as a refused one
abbrev pub PermittedCall : List ℕ → ℕ → HostCall → Type 0
PermittedCall w n (own m u) = Permitted w n (Demand.own m u)
PermittedCall w n (other m u k h) = (answer_to m u k h).0.stop ≡ refused_code
PermittedCall w n (look c u) = Permitted w n (Demand.look c u)
PermittedCall w n (other_look c u k h) = (look_from c u k h).0.stop ≡ refused_code

abbrev pub AllPermittedCalls : List ℕ → ℕ → List HostCall → Type 0
AllPermittedCalls w n [] = Unit
AllPermittedCalls w n (c ∷ cs) = PermittedCall w n c × AllPermittedCalls w n cs

abbrev pub kept_by_open : HostOpening × List ℕ × List ℕ → Kept
kept_by_open a = record { session = a.0.session; log = a.1; tape = a.2 }

abbrev pub kept_by : HostOutcome × List ℕ × List ℕ → Kept
kept_by a = record { session = a.0.session; log = a.1; tape = a.2 }

abbrev pub kept_by_look : Kept → HostLook × List ℕ × List ℕ → Kept
kept_by_look h a = record { session = h.session; log = a.1; tape = a.2 }

-- "the list goes on with what stood before" a refused call, and with what each of its own left
abbrev pub kept_after : ℕ → Kept → HostCall → Kept
kept_after n h (own m u) = kept_by (answer_to m u n h)
kept_after n h (other m u k g) = h
kept_after n h (look c u) = kept_by_look h (look_from c u n h)
kept_after n h (other_look c u k g) = h

module _ (T : Table) (s₀ : State) (r : Room) where
  abbrev pub position_after_call : ℕ → HostCall → ℕ
  position_after_call p (own m u) = position_by T s₀ r m p
  position_after_call p (other m u k g) = p
  position_after_call p (look c u) = p
  position_after_call p (other_look c u k g) = p

  -- the numbers and every word of both slices are those of the plain machine after p steps
  abbrev pub KeptAsPlain : ℕ → Kept → Type 0
  KeptAsPlain p h = (st : Standing) × AsPlain T s₀ r p st × (h ≡ kept_of st)

  -- A call of the list's own tells the number that refuses it, or an outcome as the third demand has it; a refused one gives back what it was handed.
  abbrev pub ToldAsOwn : Option ℕ → Move → ℕ → Kept → HostOutcome × List ℕ × List ℕ → Type 0
  ToldAsOwn (some k) m p h a = a ≡ refused_told k h.session h.log h.tape
  ToldAsOwn none m p h a = (o : Outcome) × OwnCall T s₀ r m p o × (a ≡ outcome_told o)

  abbrev pub ToldAsDemanded : ℕ → ℕ → Kept → HostCall → Type 0
  ToldAsDemanded n p h (own m u) = ToldAsOwn (own_number m T.nodes p) m p h (answer_to m u n h)
  ToldAsDemanded n p h (other m u k g) = (x : ℕ) × (answer_to m u k g ≡ refused_told x g.session g.log g.tape)
  ToldAsDemanded n p h (look c u) = (l : Look) × Foretells T s₀ r c p l × (look_from c u n h ≡ look_told l)
  ToldAsDemanded n p h (other_look c u k g) = (x : ℕ) × (look_from c u k g ≡ nothing_told x g.log g.tape)

  unfoldable pub HostDemanded : ℕ → List HostCall → ℕ → Kept → Type 0
  HostDemanded n [] p h = KeptAsPlain p h
  HostDemanded n (c ∷ cs) p h = KeptAsPlain p h × ToldAsDemanded n p h c × HostDemanded n cs (position_after_call p c) (kept_after n h c)

abbrev pub HostDemand : Type 0
HostDemand =
    (w : List ℕ) (n : ℕ) (ls ts : List ℕ) → Accepted w n → length ls ≤ longest → length ts ≤ longest
    → ((open_told (open_of w n ls ts)).0.refusal ≡ 0)
    × ((cs : List HostCall) → AllPermittedCalls w n cs
    → HostDemanded (table_in w n) start_state (room ls ts) n cs 0 (kept_by_open (open_told (open_of w n ls ts))))
