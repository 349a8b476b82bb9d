-- A transition of the published machine is a step of the plain machine, by the rule of its number, where the variable of an entry on top is bound here.
use mathlib.Core.Path.{◌≡◌, refl, sym, ap, ap₂, ◌∙◌, subst}
use mathlib.Core.Bool.{true}
use mathlib.Core.Option.{some, some-injective}
use mathlib.Core.List.{◌∷◌}
use Prim.Native.Nat.{ℕ, ◌≤◌}
use native.Mathlib.Omega.{arith}
use Rattle.term.specs.Term.{Term, lam, app}
use Rattle.term.specs.Table.{Table, arity}
use Rattle.machine.specs.Entries as Plain
use Rattle.machine.specs.Entries.{entry, ◌▸◌, topmost, rest}
use Rattle.machine.specs.Machine as Machine
use Rattle.machine.specs.Machine.{Dir, down, up, bound_at, step}
use Rattle.machine.specs.Rule.{rule_at}
use Rattle.machine.proofs.Tests.{bound_is}
use Rattle.machine.proofs.Bound.{BoundHere}
use Rattle.machine.proofs.Rules.{rule_1, rule_2, rule_3, rule_4, rule_5, rule_6, rule_7, rule_8}
use Rattle.machine.proofs.Numbers.{number_1, number_2, number_3, number_4, number_5, number_6, number_7, number_8}
use Rattle.published.specs.Figure.{Context, ⟨·⟩, lambda, left, right, level, ◌⟨◌⟩, ◌⟪◌⟫, binders, bound_above, logged, Log, ◌·◌, together, ◌··◌, •, held, Tape, State, state, Transition, →•1, →•2, →var, →bt2, →•3, →•4, →arg, →bt1}
use Rattle.published.specs.Represents.{Position, EntryIs, LogIs, TapeIs, on_bullet, on_entry, Represents, rule}
use Rattle.published.proofs.Contexts.{node_of, plug_compose}
use Rattle.published.proofs.Found.{one_position}
use Rattle.published.proofs.Positions.{IsTable, application_kind, function_node, argument_node, function_place, argument_place, abstraction_kind, body_node, body_place, variable_kind, binder_whole, binder_node, arity_at}
use Rattle.published.proofs.Logs.{together_is, same_many, same_topmost, same_rest, same_onto}

-- From s the plain machine steps, by rule k, to what stands for Q.
pub record Leads (T : Table) (t : Term) (s : Machine.State) (k : ℕ) (Q : State) : Type 0 where
  pub to : Machine.State
  pub steps : step T s ≡ some to
  pub by_rule : k ≡ rule_at T s
  pub represents : Represents t to Q

module _ (T : Table) (t : Term) (A : IsTable T t) where
  -- a rule that leads to node i with log M and tape S, where that is the position (u, C) with log L and tape R
  leads_to : {s : Machine.State} {k i : ℕ} {d : Dir} {M : Plain.Log} {S : Plain.Tape} (u : Term) (C : Context) {n : ℕ} (L : Log n) (R : Tape)
      → step T s ≡ some (Machine.state i d M S) → rule_at T s ≡ k → i ≡ node_of C → C ⟨ u ⟩ ≡ t → LogIs t M L → TapeIs t S R → Leads T t s k (state u C L R d)
  leads_to u C L R r k n e l h = record {
    to = _;
    steps = r;
    by_rule = sym k;
    represents = record { position = record { whole = e; number = n }; same_dir = refl; same_log = l; same_tape = h };
  }

  -- the variable of an entry that is bound here stands where the logged position says
  variable_here : (C B D : Context) (v : ℕ) (u : Term) → C ⟨ u ⟩ ≡ t → Position t v (bound_above D) (B ⟪ lambda D ⟫) → T.left v ≡ node_of C → v ≡ node_of (C ⟪ lambda D ⟫)
  variable_here C B D v u e p h =
      let n : node_of B ≡ node_of C = sym (binder_node T t A B D p.whole) ∙ ap T.left (sym p.number) ∙ h in
      p.number ∙ ap (λ E. node_of (E ⟪ lambda D ⟫)) (one_position B C (lam (D ⟨ bound_above D ⟩)) u (binder_whole T t A B D p.whole ∙ sym e) n).1

  leads_bt2 : (C D : Context) (K : Log (level D)) {m : ℕ} (L : Log m) (R : Tape) (v : ℕ) (es M : Plain.Log) (S : Plain.Tape) → bound_at T (node_of C) v ≡ true
      → C ⟨ lam (D ⟨ bound_above D ⟩) ⟩ ≡ t → LogIs t M L → EntryIs t (entry v es) (logged (bound_above D) (lambda D) K) → TapeIs t S R
      → Leads T t (Machine.state (node_of C) down M (Plain.held (entry v es) ∷ S)) 4 (state (bound_above D) (C ⟪ lambda D ⟫) (K ·· L) R up)
  leads_bt2 C D K L R v es M S b e l g h =
      let k = abstraction_kind T t A C (D ⟨ bound_above D ⟩) e in
      leads_to (bound_above D) (C ⟪ lambda D ⟫) (K ·· L) R (rule_4 T (node_of C) M S v es k b) (number_4 T (node_of C) M S v es k b)
      (variable_here C g.0.0 D v (lam (D ⟨ bound_above D ⟩)) e g.0.4 (bound_is T (node_of C) v b)) (plug_compose C (lambda D) (bound_above D) ∙ e) (same_onto t es M K L g.1 l) h

  module _ (C D : Context) (K : Log (level D)) {m : ℕ} (L : Log m) (R : Tape) (M : Plain.Log) (S : Plain.Tape)
      (e : (C ⟪ lambda D ⟫) ⟨ bound_above D ⟩ ≡ t) (l : LogIs t M (K ·· L)) (h : TapeIs t S R) where
    abbrev i : ℕ
    i = node_of (C ⟪ lambda D ⟫)

    takes : level D ≡ arity T i
    takes = sym (arity_at T t A C D e)

    enough : arity T i ≤ Plain.how_many M
    enough = let n : Plain.how_many M ≡ together (level D) m = same_many t M (K ·· L) l in omega (arith, takes, together_is (level D) m)

    leads_var : Leads T t (Machine.state i down M S) 3 (state (lam (D ⟨ bound_above D ⟩)) C L (held (logged (bound_above D) (lambda D) K) ∷ R) up)
    leads_var =
        let k = variable_kind T t A (C ⟪ lambda D ⟫) (binders D) e in
        leads_to (lam (D ⟨ bound_above D ⟩)) C L (held (logged (bound_above D) (lambda D) K) ∷ R) (rule_3 T i M S k enough) (number_3 T i M S k enough)
        (binder_node T t A C D e) (binder_whole T t A C D e)
        (subst (λ a. LogIs t (rest a M) L) takes (same_rest t K L M l))
        (on_entry ((C, D, refl, refl, record { whole = e; number = refl }), subst (λ a. LogIs t (topmost a M) K) takes (same_topmost t K L M l)) h)

  leads_by : {P Q : State} (x : Transition P Q) (M : Plain.Log) (S : Plain.Tape) → P.context ⟨ P.term ⟩ ≡ t → LogIs t M P.log → TapeIs t S P.tape
      → BoundHere T (Machine.state (node_of P.context) P.dir M S) → Leads T t (Machine.state (node_of P.context) P.dir M S) (rule x) Q
  leads_by (→•1 C {t = f} {u = a} {L = L} {T = R}) M S e l h b =
      let k = application_kind T t A C f a e in
      leads_to f (C ⟪ left ⟨·⟩ a ⟫) L (• ∷ R) (rule_1 T (node_of C) M S k) (number_1 T (node_of C) M S k) (function_node T t A C f a e) (plug_compose C (left ⟨·⟩ a) f ∙ e) l (on_bullet h)
  leads_by (→•2 C {t = q} {L = L} {T = R}) M S e l (on_bullet {S = S'} h) b =
      let k = abstraction_kind T t A C q e in
      leads_to q (C ⟪ lambda ⟨·⟩ ⟫) L R (rule_2 T (node_of C) M S' k) (number_2 T (node_of C) M S' k) (body_node T t A C q e) (plug_compose C (lambda ⟨·⟩) q ∙ e) l h
  leads_by (→var C D {Lₙ = K} {L = L} {T = R}) M S e l h b = leads_var C D K L R M S e l h
  leads_by (→bt2 C D {Lₙ = K} {L = L} {T = R}) M S e l (on_entry {e = entry v es} {S = S'} g h) b =
      leads_bt2 C D K L R v es M S' (b refl (abstraction_kind T t A C (D ⟨ bound_above D ⟩) e)) e l g h
  leads_by (→•3 C {t = f} {u = a} {L = L} {T = R}) M S e l (on_bullet {S = S'} h) b =
      let w : C ⟨ app f a ⟩ ≡ t = sym (plug_compose C (left ⟨·⟩ a) f) ∙ e in
      let q = function_place T t A C f a w in
      leads_to (app f a) C L R (rule_5 T (node_of (C ⟪ left ⟨·⟩ a ⟫)) M S' q) (number_5 T (node_of (C ⟪ left ⟨·⟩ a ⟫)) M S' q) refl w l h
  leads_by (→•4 C {t = q} {L = L} {T = R}) M S e l h b =
      let w : C ⟨ lam q ⟩ ≡ t = sym (plug_compose C (lambda ⟨·⟩) q) ∙ e in
      let p = body_place T t A C q w in
      leads_to (lam q) C L (• ∷ R) (rule_7 T (node_of (C ⟪ lambda ⟨·⟩ ⟫)) M S p) (number_7 T (node_of (C ⟪ lambda ⟨·⟩ ⟫)) M S p) refl w l (on_bullet h)
  leads_by (→arg C {t = f} {u = a} {l = y} {L = L} {T = R}) M S e l (on_entry {e = x} {S = S'} g h) b =
      let w : C ⟨ app f a ⟩ ≡ t = sym (plug_compose C (left ⟨·⟩ a) f) ∙ e in
      let q = function_place T t A C f a w in
      leads_to a (C ⟪ right f ⟨·⟩ ⟫) (y · L) R (rule_6 T (node_of (C ⟪ left ⟨·⟩ a ⟫)) M S' x q) (number_6 T (node_of (C ⟪ left ⟨·⟩ a ⟫)) M S' x q)
      (argument_node T t A C f a w) (plug_compose C (right f ⟨·⟩) a ∙ w) (g, l) h
  leads_by (→bt1 C) Plain.ε S e l h b = absurd l
  leads_by (→bt1 C {t = a} {u = f} {l = y} {L = L} {T = R}) (x ▸ N) S e l h b =
      let w : C ⟨ app f a ⟩ ≡ t = sym (plug_compose C (right f ⟨·⟩) a) ∙ e in
      let q = argument_place T t A C f a w in
      leads_to f (C ⟪ left ⟨·⟩ a ⟫) L (held y ∷ R) (rule_8 T (node_of (C ⟪ right f ⟨·⟩ ⟫)) N S x q) (number_8 T (node_of (C ⟪ right f ⟨·⟩ ⟫)) N S x q)
      (function_node T t A C f a w) (plug_compose C (left ⟨·⟩ a) f ∙ w) l.1 (on_entry l.0 h)

  -- A transition from P is a step from what stands for P.
  pub leads : (s : Machine.State) (P Q : State) → Represents t s P → BoundHere T s → (x : Transition P Q) → Leads T t s (rule x) Q
  leads s P Q r b x =
      subst (λ u. Leads T t u (rule x) Q) (sym at_node) (leads_by x s.log s.tape r.position.whole r.same_log r.same_tape (subst (BoundHere T) at_node b))
    where
      at_node : s ≡ Machine.state (node_of P.context) P.dir s.log s.tape
      at_node = ap₂ (λ i d. Machine.state i d s.log s.tape) r.position.number r.same_dir

  -- The step leads there and nowhere else.
  pub same_next : {s u : Machine.State} {k : ℕ} {Q : State} → Leads T t s k Q → step T s ≡ some u → Represents t u Q
  same_next {u = u} {Q = Q} l e = subst (λ z. Represents t z Q) (some-injective l.to u (sym l.steps ∙ e)) l.represents
