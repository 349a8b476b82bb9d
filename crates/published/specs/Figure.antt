-- The lambda-IAM as published: the leveled contexts of document 003, section II, and its Figure 1, line by line. Terms are without names.
use Rattle.std.specs.Prelude.{List, [], ◌∷◌, ℕ, zero, suc}
use Rattle.term.specs.Term.{Term, var, lam, app}
use Rattle.machine.specs.Machine.{Dir, down, up}

infix 60 ◌⟨◌⟩ ◌⟪◌⟫
infixr 50 ◌·◌ ◌··◌
-- "Contexts are just λ-terms containing exactly one occurrence of a special symbol, the hole ⟨·⟩": ⟨·⟩, λx.C, C t and t C.
pub data Context : Type 0 where
  ⟨·⟩ : Context
  lambda : Context → Context
  left : Context → Term → Context
  right : Term → Context → Context

-- LEVELED CONTEXTS C₀ ::= ⟨·⟩ | λx.C₀ | C₀ t and Cₙ₊₁ ::= Cₙ₊₁ t | λx.Cₙ₊₁ | t Cₙ, "whose index, i.e. the level, stands for the number of arguments (..) the hole lies in".
abbrev pub level : Context → ℕ
level ⟨·⟩ = 0
level (lambda C) = level C
level (left C t) = level C
level (right t C) = suc (level C)

-- "The operation replacing the hole ⟨·⟩ with a term t in a context C is noted C⟨t⟩ and called plugging"; C⟨D⟩ is the same of a context.
abbrev pub ◌⟨◌⟩ : Context → Term → Term
⟨·⟩ ⟨ u ⟩ = u
(lambda C) ⟨ u ⟩ = lam (C ⟨ u ⟩)
(left C t) ⟨ u ⟩ = app (C ⟨ u ⟩) t
(right t C) ⟨ u ⟩ = app t (C ⟨ u ⟩)

abbrev pub ◌⟪◌⟫ : Context → Context → Context
⟨·⟩ ⟪ D ⟫ = D
(lambda C) ⟪ D ⟫ = lambda (C ⟪ D ⟫)
(left C t) ⟪ D ⟫ = left (C ⟪ D ⟫) t
(right t C) ⟪ D ⟫ = right t (C ⟪ D ⟫)

-- The x of λx.D⟨x⟩, in the hole of D and bound by the λx right above D: without names, the number of abstractions of D around the hole.
abbrev pub binders : Context → ℕ
binders ⟨·⟩ = 0
binders (lambda C) = suc (binders C)
binders (left C t) = binders C
binders (right t C) = binders C

abbrev pub bound_above : Context → Term
bound_above D = var (binders D)

-- LOGGED POSITIONS l ::= (t, Cₙ, Lₙ): "the log is required to have length n, where n is the level of the context of the position". LOGS L₀ ::= ε, Lₙ₊₁ ::= l · Lₙ.
mutual
  pub data LoggedPosition : Type 0 where
    logged : Term → (C : Context) → Log (level C) → LoggedPosition

  pub data Log : ℕ → Type 0 where
    ε : Log 0
    ◌·◌ : {n : ℕ} → LoggedPosition → Log n → Log (suc n)

-- "We use · also to concatenate logs, writing, e.g., Lₙ · L": n logged positions and m together.
abbrev pub together : ℕ → ℕ → ℕ
together zero m = m
together (suc n) m = suc (together n m)

abbrev pub ◌··◌ : {n m : ℕ} → Log n → Log m → Log (together n m)
ε ·· M = M
(l · L) ·· M = l · (L ·· M)

-- TAPES T ::= ε | • · T | l · T.
pub data Item : Type 0 where
  • : Item
  held : LoggedPosition → Item

abbrev pub Tape : Type 0
Tape = List Item

-- STATES s ::= (t, C, L, T, d), "using L for a log of unspecified length". DIRECTION d ::= ↓ | ↑, here down and up.
pub record State : Type 0 where
  pub term : Term
  pub context : Context
  pub length : ℕ
  pub log : Log length
  pub tape : Tape
  pub dir : Dir

abbrev pub state : {n : ℕ} → Term → Context → Log n → Tape → Dir → State
state {n} t C L T d = record { term = t; context = C; length = n; log = L; tape = T; dir = d }

-- "Initial states have the form sₜ := (t, ⟨·⟩, ε, ε)", with t underlined: down.
abbrev pub initial : Term → State
initial t = state t ⟨·⟩ ε [] down

-- The transitions of Figure 1 in its order: sub-term, context, log, tape and direction before and after. An underlined sub-term goes down, an underlined context up.
pub data Transition : State → State → Type 0 where
  -- tu, C, L, T to t, C⟨⟨·⟩u⟩, L, • · T
  →•1 : (C : Context) {t u : Term} {m : ℕ} {L : Log m} {T : Tape}
      → Transition (state (app t u) C L T down) (state t (C ⟪ left ⟨·⟩ u ⟫) L (• ∷ T) down)
  -- λx.t, C, L, • · T to t, C⟨λx.⟨·⟩⟩, L, T
  →•2 : (C : Context) {t : Term} {m : ℕ} {L : Log m} {T : Tape}
      → Transition (state (lam t) C L (• ∷ T) down) (state t (C ⟪ lambda ⟨·⟩ ⟫) L T down)
  -- x, C⟨λx.Dₙ⟩, Lₙ · L, T to λx.Dₙ⟨x⟩, C, L, (x, λx.Dₙ, Lₙ) · T
  →var : (C D : Context) {Lₙ : Log (level D)} {m : ℕ} {L : Log m} {T : Tape}
      → Transition (state (bound_above D) (C ⟪ lambda D ⟫) (Lₙ ·· L) T down) (state (lam (D ⟨ bound_above D ⟩)) C L (held (logged (bound_above D) (lambda D) Lₙ) ∷ T) up)
  -- λx.Dₙ⟨x⟩, C, L, (x, λx.Dₙ, Lₙ) · T to x, C⟨λx.Dₙ⟩, Lₙ · L, T
  →bt2 : (C D : Context) {Lₙ : Log (level D)} {m : ℕ} {L : Log m} {T : Tape}
      → Transition (state (lam (D ⟨ bound_above D ⟩)) C L (held (logged (bound_above D) (lambda D) Lₙ) ∷ T) down) (state (bound_above D) (C ⟪ lambda D ⟫) (Lₙ ·· L) T up)
  -- t, C⟨⟨·⟩u⟩, L, • · T to tu, C, L, T
  →•3 : (C : Context) {t u : Term} {m : ℕ} {L : Log m} {T : Tape}
      → Transition (state t (C ⟪ left ⟨·⟩ u ⟫) L (• ∷ T) up) (state (app t u) C L T up)
  -- t, C⟨λx.⟨·⟩⟩, L, T to λx.t, C, L, • · T
  →•4 : (C : Context) {t : Term} {m : ℕ} {L : Log m} {T : Tape}
      → Transition (state t (C ⟪ lambda ⟨·⟩ ⟫) L T up) (state (lam t) C L (• ∷ T) up)
  -- t, C⟨⟨·⟩u⟩, L, l · T to u, C⟨t⟨·⟩⟩, l · L, T
  →arg : (C : Context) {t u : Term} {l : LoggedPosition} {m : ℕ} {L : Log m} {T : Tape}
      → Transition (state t (C ⟪ left ⟨·⟩ u ⟫) L (held l ∷ T) up) (state u (C ⟪ right t ⟨·⟩ ⟫) (l · L) T down)
  -- t, C⟨u⟨·⟩⟩, l · L, T to u, C⟨⟨·⟩t⟩, L, l · T
  →bt1 : (C : Context) {t u : Term} {l : LoggedPosition} {m : ℕ} {L : Log m} {T : Tape}
      → Transition (state t (C ⟪ right u ⟨·⟩ ⟫) (l · L) T up) (state u (C ⟪ left ⟨·⟩ t ⟫) L (held l ∷ T) down)

-- "A state is final if no transitions apply."
abbrev pub Final : State → Type 0
Final P = (Q : State) → Transition P Q → ⊥

-- A run is "a possibly empty sequence of transitions", here of p of them.
pub data Run (P : State) : ℕ → State → Type 0 where
  none : Run P 0 P
  more : {p : ℕ} {Q R : State} → Run P p Q → Transition Q R → Run P (suc p) R
