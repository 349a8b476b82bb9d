-- Every good state of the plain machine stands for a state of the published machine, and for one only.
use mathlib.Core.Path.{◌≡◌, refl, sym, ap, ap₂, ◌∙◌, subst, path_j}
use mathlib.Core.List.{[], ◌∷◌}
use Prim.Native.Nat.{ℕ, ◌≤◌}
use Rattle.term.specs.Term.{Term, var, lam, app}
use Rattle.term.specs.Table.{Table, arity, variable, kind_at}
use Rattle.term.specs.Facts.{IsNode}
use Rattle.machine.specs.Entries as Plain
use Rattle.machine.specs.Entries.{Entry, entry, ◌▸◌, bullet}
use Rattle.machine.specs.Machine as Machine
use Rattle.machine.specs.Good.{EntryIn, LogIn, TapeIn, Good}
use Rattle.machine.proofs.Nodes.{is_node}
use Rattle.published.specs.Figure.{Context, lambda, level, ◌⟪◌⟫, LoggedPosition, logged, Log, ε, ◌·◌, •, held, Tape, State, state}
use Rattle.published.specs.Represents.{Position, FromBinder, EntryIs, LogIs, TapeIs, nothing_on, on_bullet, on_entry, Represents}
use Rattle.published.proofs.Binder.{around, below, same_below}
use Rattle.published.proofs.Found.{position_at, one_position}
use Rattle.published.proofs.Positions.{IsTable, level_at, variable_cut, variable_arity, is_variable}
use Rattle.published.proofs.Logs.{same_many}

-- One state only.
index : Term → ℕ
index (var x) = x
index (lam b) = 0
index (app f a) = 0

module _ (t : Term) where
  same_logged : (v : ℕ) (x y : Term) (K H : Context) → FromBinder t v x K → FromBinder t v y H → (x ≡ y) × (K ≡ H)
  unfolding index
  same_logged v x y K H (A, D, dx, dk, p) (B, E, ey, eh, q) = (same.0, dk ∙ ap lambda below_same ∙ sym eh)
    where
      same : (x ≡ y) × (A ⟪ K ⟫ ≡ B ⟪ H ⟫)
      same = one_position (A ⟪ K ⟫) (B ⟪ H ⟫) x y (p.whole ∙ sym q.whole) (sym p.number ∙ q.number)

      below_same : D ≡ E
      below_same = same_below A B D E (ap (λ C. A ⟪ C ⟫) (sym dk) ∙ same.1 ∙ ap (λ C. B ⟪ C ⟫) eh) (ap index (sym dx ∙ same.0 ∙ ey))

  mutual
    one_entry : (e : Entry) (l m : LoggedPosition) → EntryIs t e l → EntryIs t e m → l ≡ m
    one_entry (entry v es) (logged x K L) (logged y H M) g h =
        let s = same_logged v x y K H g.0 h.0 in
        path_j (λ E p. (N : Log (level E)) → LogIs t es N → logged x K L ≡ logged y E N) (λ N k. ap₂ (λ z R. logged z K R) s.0 (one_log es L N g.1 k)) s.1 M h.1

    one_log : (N : Plain.Log) {n : ℕ} (L M : Log n) → LogIs t N L → LogIs t N M → L ≡ M
    one_log Plain.ε ε ε g h = refl
    one_log Plain.ε (l · L) M g h = absurd g
    one_log (e ▸ N) ε M g h = absurd g
    one_log (e ▸ N) (l · L) (m · M) g h = ap₂ (λ k R. k · R) (one_entry e l m g.0 h.0) (one_log N L M g.1 h.1)

  one_tape : (S : Plain.Tape) (R U : Tape) → TapeIs t S R → TapeIs t S U → R ≡ U
  one_tape S R U nothing_on nothing_on = refl
  one_tape S R U (on_bullet {S = S'} {T = R'} g) (on_bullet {T = U'} h) = ap (λ W. • ∷ W) (one_tape S' R' U' g h)
  one_tape S R U (on_entry {e = e} {l = l} {S = S'} {T = R'} k g) (on_entry {l = m} {T = U'} j h) = ap₂ (λ n W. held n ∷ W) (one_entry e l m k j) (one_tape S' R' U' g h)

  pub one_state : (s : Machine.State) (P Q : State) → Represents t s P → Represents t s Q → P ≡ Q
  one_state s P Q g h =
      path_j (λ n p. (M : Log n) → LogIs t s.log M → P ≡ state Q.term Q.context M Q.tape Q.dir) (λ M k i. state (place.0 i) (place.1 i) (one_log s.log P.log M g.same_log k i) (tapes i) (dirs i)) lengths Q.log h.same_log
    where
      place : (P.term ≡ Q.term) × (P.context ≡ Q.context)
      place = one_position P.context Q.context P.term Q.term (g.position.whole ∙ sym h.position.whole) (sym g.position.number ∙ h.position.number)

      tapes : P.tape ≡ Q.tape
      tapes = one_tape s.tape P.tape Q.tape g.same_tape h.same_tape

      dirs : P.dir ≡ Q.dir
      dirs = sym g.same_dir ∙ h.same_dir

      lengths : P.length ≡ Q.length
      lengths = sym (same_many t s.log P.log g.same_log) ∙ same_many t s.log Q.log h.same_log

-- Every good state.
module _ (T : Table) (t : Term) (A : IsTable T t) where
  position_of : (i : ℕ) → IsNode T i → (u : Term) × (C : Context) × Position t i u C
  position_of i h = position_at t i h.from_one (subst (λ n. i ≤ n) (sym A.all) h.to_last)

  -- the logged position of a variable, with its log
  at_variable : (v : ℕ) (es : Plain.Log) (x : ℕ) (C : Context) → Position t v (var x) C → Plain.how_many es ≡ arity T v → (L : Log (Plain.how_many es)) → LogIs t es L
      → (l : LoggedPosition) × EntryIs t (entry v es) l
  at_variable v es x C p n L h =
      let c = variable_cut T t A C x p.whole in
      let many : Plain.how_many es ≡ level (below C x) = n ∙ ap (arity T) p.number ∙ variable_arity T t A C x p.whole in
      let M : (M : Log (level (below C x))) × LogIs t es M = subst (λ m. (M : Log m) × LogIs t es M) many (L, h) in
      (logged (var x) (lambda (below C x)) M.0, ((around C x, below C x, ap var c.index, refl, subst (Position t v (var x)) c.parts p), M.1))

  mutual
    entry_of : (e : Entry) → EntryIn T e → (l : LoggedPosition) × EntryIs t e l
    entry_of (entry v es) h =
        let p = position_of v (is_node T A.facts v variable h.0 tt) in
        let x = is_variable T t A p.1 p.0 p.2.whole (ap (kind_at T) (sym p.2.number) ∙ h.0) in
        let r = log_of es h.2 in
        at_variable v es x.0 p.1 (subst (λ u. Position t v u p.1) x.1 p.2) h.1 r.0 r.1

    log_of : (M : Plain.Log) → LogIn T M → (L : Log (Plain.how_many M)) × LogIs t M L
    log_of Plain.ε h = (ε, tt)
    log_of (e ▸ M) h =
        let l = entry_of e h.0 in
        let r = log_of M h.1 in
        (l.0 · r.0, (l.1, r.1))

  tape_of : (S : Plain.Tape) → TapeIn T S → (R : Tape) × TapeIs t S R
  tape_of [] h = ([], nothing_on)
  tape_of (bullet ∷ S) h = let r = tape_of S h in (• ∷ r.0, on_bullet r.1)
  tape_of (Plain.held e ∷ S) h =
      let l = entry_of e h.0 in
      let r = tape_of S h.1 in
      (held l.0 ∷ r.0, on_entry l.1 r.1)

  pub a_state : (s : Machine.State) → Good T s → (P : State) × Represents t s P
  a_state s g =
      let p = position_of s.node g.node_there in
      let l = log_of s.log g.log_entries in
      let r = tape_of s.tape g.tape_items in
      (state p.0 p.1 l.0 r.0 s.dir, record { position = p.2; same_dir = refl; same_log = l.1; same_tape = r.1 })

  -- "The length of L is exactly the level of the code context C" (Lemma III.1).
  pub level_many : (s : Machine.State) (P : State) → Good T s → Represents t s P → P.length ≡ level P.context
  level_many s P g r =
      sym (same_many t s.log P.log r.same_log) ∙ g.level_many ∙ ap T.level r.position.number ∙ level_at T t A P.context P.term r.position.whole
