-- Where the entries of a state come from: from the binder of each, which it left upwards, steps that never reach under it lead to where it is held now.
use mathlib.Core.Path.{◌≡◌, refl, sym, ◌∙◌, subst}
use mathlib.Core.Option.{some}
use mathlib.Core.List.{[], ◌∷◌}
use Prim.Native.Nat.{ℕ}
use Rattle.term.specs.Table.{Table, variable, kind_at, Place, body_of, function_of, argument_of, nowhere, place_at}
use Rattle.term.specs.Facts.{Facts, Below, as_body, under_body, under_function, under_argument}
use Rattle.machine.specs.Entries.{entry, Log, ε, ◌▸◌, rest, ◌onto◌, Item, bullet, held, Tape}
use Rattle.machine.specs.Machine.{Dir, up, State, state, step, turned}
use Rattle.machine.specs.Good.{Good}

-- Steps from good states lead from B to a state.
pub data Reach (T : Table) (B : State) : State → Type 0 where
  here : Reach T B B
  further : {X Y : State} → Reach T B X → Good T X → step T X ≡ some Y → Reach T B Y

-- the state with this direction
abbrev pub facing : Dir → State → State
facing d s = state s.node d s.log s.tape

-- With these items on top of an entry the steps from its binder come this way: upwards at first, and each further entry turns the token.
abbrev pub over : Tape → Dir
over [] = up
over (bullet ∷ S) = over S
over (held e ∷ S) = turned (over S)

-- A log of a node, in which each entry comes from its binder to the function beside the argument that the entry was left at. `base` is the log at the binder.
pub data Traced (T : Table) : ℕ → Log → Type 0 where
  at_root : Traced T 1 ε
  at_body : {i p : ℕ} {L : Log} → place_at T i ≡ body_of p → Traced T p L → Traced T i L
  at_function : {i p : ℕ} {L : Log} → place_at T i ≡ function_of p → Traced T p L → Traced T i L
  at_argument : {i p v : ℕ} {es L : Log} → place_at T i ≡ argument_of p → Traced T p L → kind_at T v ≡ variable
      → (base : Log) → Traced T v (es onto base) → Reach T (state (T.left v) up base []) (state (T.left p) up L []) → Traced T i (entry v es ▸ L)

-- The entry of variable v with es inside it comes from its binder, where the log was `base`, to the state X.
pub record Origin (T : Table) (v : ℕ) (es : Log) (X : State) : Type 0 where
  pub is_variable : kind_at T v ≡ variable
  pub base : Log
  pub log_traced : Traced T v (es onto base)
  pub reached : Reach T (state (T.left v) up base []) X

-- an entry of a tape, and the items on top of it
pub data On (v : ℕ) (es : Log) : Tape → Tape → Type 0 where
  on_top : {R : Tape} → On v es (held (entry v es) ∷ R) []
  further_down : {S R : Tape} (x : Item) → On v es R S → On v es (x ∷ R) (x ∷ S)

-- Each entry of a tape comes from its binder to the present node and log, with the items on top of it for the tape.
abbrev pub TapeKept : Table → ℕ → Log → Tape → Type 0
TapeKept T i L t = (v : ℕ) (es : Log) (S : Tape) → On v es t S → Origin T v es (state i (over S) L S)

pub record Kept (T : Table) (s : State) : Type 0 where
  pub log_kept : Traced T s.node s.log
  pub tape_kept : TapeKept T s.node s.log s.tape

-- what a log of a node says of the log one node higher
abbrev Higher : Table → ℕ → Place → Log → Type 0
Higher T i (body_of p) L = Traced T p L
Higher T i (function_of p) L = Traced T p L
Higher T i (argument_of p) ε = ⊥
Higher T i (argument_of p) (entry v es ▸ L) = Traced T p L × Origin T v es (state (T.left p) up L [])
Higher T i nowhere L = (i ≡ 1) × (L ≡ ε)

module _ (T : Table) (F : Facts T) where
  pub higher : {i : ℕ} {L : Log} → Traced T i L → (q : Place) → place_at T i ≡ q → Higher T i q L
  higher at_root q h = subst (λ p. Higher T 1 p ε) (sym F.root.place_is ∙ h) (refl, refl)
  higher (at_body {i = i} {L = L} e r) q h = subst (λ p. Higher T i p L) (sym e ∙ h) r
  higher (at_function {i = i} {L = L} e r) q h = subst (λ p. Higher T i p L) (sym e ∙ h) r
  higher (at_argument {i = i} {v = v} {es = es} {L = L} e r k b l w) q h =
      subst (λ p. Higher T i p (entry v es ▸ L)) (sym e ∙ h) (r, record { is_variable = k; base = b; log_traced = l; reached = w })

  -- up to the binder of a variable
  pub traced_binder : {b i a x : ℕ} → Below T b i a x → (L : Log) → Traced T i L → Traced T b (rest a L)
  traced_binder (as_body {i = i} e) L r = higher r (body_of _) e
  traced_binder (under_body {p = p} e h) L r = traced_binder h L (higher r (body_of p) e)
  traced_binder (under_function {p = p} e h) L r = traced_binder h L (higher r (function_of p) e)
  traced_binder (under_argument {p = p} e h) ε r = absurd (higher r (argument_of p) e)
  traced_binder (under_argument {p = p} e h) (entry v es ▸ L) r = traced_binder h L (higher r (argument_of p) e).0
