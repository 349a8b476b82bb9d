-- Where the plain machine steps, a transition of the published machine applies.
use mathlib.Core.Path.{◌≡◌, sym, ap, ap₂, ◌∙◌, subst, subst₂}
use mathlib.Core.Option.{some, none-ne-some}
use mathlib.Core.List.{[], ◌∷◌}
use Prim.Native.Nat.{ℕ, ◌≤◌}
use lib.Dec.{leb}
use borrow.Author.Tests.{leb-true}
use Rattle.term.specs.Term.{Term, var, lam, app}
use Rattle.term.specs.Table.{Table, arity}
use Rattle.term.proofs.Choice.{passes}
use Rattle.machine.specs.Entries as Plain
use Rattle.machine.specs.Entries.{entry, ◌▸◌}
use Rattle.machine.specs.Machine as Machine
use Rattle.machine.specs.Machine.{Dir, down, up, bound_at, step}
use Rattle.machine.proofs.Tests.{bound_is}
use Rattle.machine.proofs.Stuck.{Stuck, stuck_answer, stuck_function, stuck_argument, stuck_root, stuck_unbound, stuck_short}
use Rattle.published.specs.Figure.{Context, ⟨·⟩, lambda, left, right, level, ◌⟨◌⟩, ◌⟪◌⟫, bound_above, logged, Log, ε, ◌·◌, held, Tape, State, state, Transition, →•1, →•2, →var, →bt2, →•3, →•4, →arg, →bt1}
use Rattle.published.specs.Represents.{FromBinder, LogIs, TapeIs, nothing_on, on_bullet, on_entry, Represents}
use Rattle.published.proofs.Contexts.{node_of, plug_compose, Inner, whole, body, function, argument, inner}
use Rattle.published.proofs.Binder.{around, below}
use Rattle.published.proofs.Found.{one_position}
use Rattle.published.proofs.Positions.{IsTable, abstraction_kind, function_place, argument_place, variable_kind, binder_whole, binder_node, variable_cut, variable_arity}
use Rattle.published.proofs.Logs.{cut, same_many}

-- some transition applies
abbrev pub Moves : State → Type 0
Moves P = (Q : State) × Transition P Q

module _ (T : Table) (t : Term) (A : IsTable T t) where
  -- at the abstraction that binds the variable of the entry on top
  moves_bt2 : (C B D : Context) (b : Term) {m : ℕ} (L : Log m) (N : Log (level D)) (R : Tape) → C ⟨ lam b ⟩ ≡ t → (B ⟪ lambda D ⟫) ⟨ bound_above D ⟩ ≡ t
      → T.left (node_of (B ⟪ lambda D ⟫)) ≡ node_of C → Moves (state (lam b) C L (held (logged (bound_above D) (lambda D) N) ∷ R) down)
  moves_bt2 C B D b L N R e w n = subst (λ u. Moves (state u C L (held (logged (bound_above D) (lambda D) N) ∷ R) down)) same_binder (_, →bt2 C D)
    where
      same_binder : lam (D ⟨ bound_above D ⟩) ≡ lam b
      same_binder = (one_position B C (lam (D ⟨ bound_above D ⟩)) (lam b) (binder_whole T t A B D w ∙ sym e) (sym (binder_node T t A B D w) ∙ n)).0

  moves_held : (C : Context) (b : Term) {m : ℕ} (L : Log m) (R : Tape) (v : ℕ) (x : Term) (K : Context) (N : Log (level K)) → C ⟨ lam b ⟩ ≡ t → FromBinder t v x K → T.left v ≡ node_of C
      → Moves (state (lam b) C L (held (logged x K N) ∷ R) down)
  moves_held C b L R v x K N e g n =
      subst (λ z. (H : Log (level z.1)) → Moves (state (lam b) C L (held (logged z.0 z.1 H) ∷ R) down)) (sym same) (λ H. moves_bt2 C g.0 g.1 b L H R e
      (ap (λ z. (g.0 ⟪ z.1 ⟫) ⟨ z.0 ⟩) (sym same) ∙ g.4.whole) (ap (λ z. T.left (node_of (g.0 ⟪ z.1 ⟫))) (sym same) ∙ ap T.left (sym g.4.number) ∙ n)) N
    where
      same : ◌≡◌ {A = Term × Context} (x, K) (bound_above g.1, lambda g.1)
      same = ap₂ (λ y E. (y, E)) g.2 g.3

  -- at a variable, whose binder cuts the context and whose arity cuts the log
  moves_var : (B D : Context) {m : ℕ} (L : Log m) (R : Tape) → level D ≤ m → Moves (state (bound_above D) (B ⟪ lambda D ⟫) L R down)
  moves_var B D L R h =
      let c = cut (level D) L h in
      subst (λ M. Moves (state (bound_above D) (B ⟪ lambda D ⟫) M.1 R down)) (sym c.1) (_, →var B D {Lₙ = c.0.upper} {L = c.0.lower})

  moves_variable : (C : Context) (x : ℕ) {m : ℕ} (L : Log m) (R : Tape) → C ⟨ var x ⟩ ≡ t → arity T (node_of C) ≤ m → Moves (state (var x) C L R down)
  moves_variable C x {m} L R e h =
      let c = variable_cut T t A C x e in
      subst₂ (λ y E. Moves (state (var y) E L R down)) (sym c.index) (sym c.parts)
      (moves_var (around C x) (below C x) L R (subst (λ a. a ≤ m) (variable_arity T t A C x e) h))

  moves_down : (u : Term) (C : Context) {m : ℕ} (L : Log m) (R : Tape) (M : Plain.Log) (S : Plain.Tape) → C ⟨ u ⟩ ≡ t → LogIs t M L → TapeIs t S R
      → ¬ (Stuck T (Machine.state (node_of C) down M S)) → Moves (state u C L R down)
  moves_down (app f a) C L R M S e l h n = (_, →•1 C)
  moves_down (lam b) C L R M S e l nothing_on n = absurd (n (stuck_answer T (node_of C) M [] (abstraction_kind T t A C b e)))
  moves_down (lam b) C L R M S e l (on_bullet h) n = (_, →•2 C)
  moves_down (lam b) C L R M S e l (on_entry {e = entry v es} {l = logged x K N} {S = S'} {T = R'} g h) n =
      moves_held C b L R' v x K N e g.0 (bound_is T (node_of C) v (passes (bound_at T (node_of C) v) (λ z. n (stuck_unbound T (node_of C) M S' v es (abstraction_kind T t A C b e) z))))
  moves_down (var x) C {m} L R M S e l h n =
      moves_variable C x L R e (subst (λ k. arity T (node_of C) ≤ k) (same_many t M L l)
      (leb-true (arity T (node_of C)) (Plain.how_many M)
      (passes (leb (arity T (node_of C)) (Plain.how_many M)) (λ z. n (stuck_short T (node_of C) M S (variable_kind T t A C x e) z)))))

  moves_up : (u : Term) (C : Context) {m : ℕ} (L : Log m) (R : Tape) (M : Plain.Log) (S : Plain.Tape) → Inner C → C ⟨ u ⟩ ≡ t → LogIs t M L → TapeIs t S R
      → ¬ (Stuck T (Machine.state (node_of C) up M S)) → Moves (state u C L R up)
  moves_up u C L R M S whole e l h n = absurd (n (stuck_root T 1 M S A.facts.root.place_is))
  moves_up u C L R M S (body K) e l h n = (_, →•4 K)
  moves_up u C L R M S (function K a) e l nothing_on n =
      absurd (n (stuck_function T (node_of (K ⟪ left ⟨·⟩ a ⟫)) M [] (function_place T t A K u a (sym (plug_compose K (left ⟨·⟩ a) u) ∙ e))))
  moves_up u C L R M S (function K a) e l (on_bullet h) n = (_, →•3 K)
  moves_up u C L R M S (function K a) e l (on_entry g h) n = (_, →arg K)
  moves_up u C ε R Plain.ε S (argument K f) e l h n =
      absurd (n (stuck_argument T (node_of (K ⟪ right f ⟨·⟩ ⟫)) Plain.ε S (argument_place T t A K f u (sym (plug_compose K (right f ⟨·⟩) u) ∙ e))))
  moves_up u C ε R (x ▸ M) S (argument K f) e l h n = absurd l
  moves_up u C (p · L) R M S (argument K f) e l h n = (_, →bt1 K)

  moves_at : (P : State) (d : Dir) (M : Plain.Log) (S : Plain.Tape) → d ≡ P.dir → P.context ⟨ P.term ⟩ ≡ t → LogIs t M P.log → TapeIs t S P.tape
      → ¬ (Stuck T (Machine.state (node_of P.context) d M S)) → Moves P
  moves_at P down M S c e l h n = subst (λ d. Moves (state P.term P.context P.log P.tape d)) c (moves_down P.term P.context P.log P.tape M S e l h n)
  moves_at P up M S c e l h n =
      subst (λ d. Moves (state P.term P.context P.log P.tape d)) c (moves_up P.term P.context P.log P.tape M S (inner P.context) e l h n)

  pub moves : (s u : Machine.State) (P : State) → Represents t s P → step T s ≡ some u → Moves P
  moves s u P r e =
      moves_at P s.dir s.log s.tape r.same_dir r.position.whole r.same_log r.same_tape
      (λ z. none-ne-some u (sym z ∙ ap (λ i. step T (Machine.state i s.dir s.log s.tape)) (sym r.position.number) ∙ e))
