-- What is read of a table: the rows of a closed term are read as that term, and what is read stands in the table.
use mathlib.Core.Path.{◌≡◌, refl, sym, ap, ◌∙◌, subst}
use mathlib.Core.Bool.{◌&&◌, cond}
use mathlib.Core.Option.{Option, none, some, some-injective, none-ne-some}
use mathlib.Core.List.{List, ◌∷◌}
use Prim.Native.Nat.{ℕ, zero, suc, ◌+◌, ◌≤◌, ◌<◌}
use native.Mathlib.Numerals.{add-one}
use native.Mathlib.Omega.{arith}
use lib.ListN.{length, get_or}
use lib.Dec.{eqb}
use borrow.Author.Tests.{eq-eqb, eqb-true}
use Rattle.term.specs.Choice.{◌>>=◌}
use Rattle.term.specs.Term.{Term, var, lam, app, size, ClosedUnder}
use Rattle.term.specs.Table.{Table, kind_of, kind_at}
use Rattle.term.specs.Rows.{Row, RowsIn}
use Rattle.term.specs.Accepted.{Part, part, binder_index, part_by, part_at}
use Rattle.term.proofs.Choice.{both, each, passed, guarded, chained}
use Rattle.term.proofs.Rows.{size_positive}
use Rattle.term.proofs.Scope.{Falling, falling_higher, index_found, index_only}

module _ (T : Table) (d : ℕ) (bs : List ℕ) (i p v : ℕ) where
  -- A part whose parent and level are those asked for is read by its kind.
  read_by_kind : (k l r : ℕ) → Row T i k l r p v → part_at (suc d) T bs i p v ≡ part_by (kind_of k) T bs i v (λ cs j q u. part_at d T cs j q u)
  unfolding part_at
  read_by_kind k l r h =
      passed (eqb (T.parent i) p && eqb (T.level i) v) (part_by (kind_at T i) T bs i v (λ cs j q u. part_at d T cs j q u)) none
      (both (eqb (T.parent i) p) (eqb (T.level i) v) (eq-eqb (T.parent i) p h.parent_is) (eq-eqb (T.level i) v h.level_is))
      ∙ ap (λ m. part_by (kind_of m) T bs i v (λ cs j q u. part_at d T cs j q u)) h.kind_is

  pub part_variable : (l : ℕ) → Row T i 1 l 0 p v → part_at (suc d) T bs i p v ≡ (binder_index l bs >>= λ x. some (part (var x) (suc i)))
  unfolding part_by kind_of
  part_variable l h =
      read_by_kind 1 l 0 h
      ∙ passed (eqb (T.right i) 0) (binder_index (T.left i) bs >>= λ x. some (part (var x) (suc i))) none (eq-eqb (T.right i) 0 h.right_is)
      ∙ ap (λ b. binder_index b bs >>= λ x. some (part (var x) (suc i))) h.left_is

  pub part_abstraction : Row T i 2 (suc i) 0 p v → part_at (suc d) T bs i p v ≡ (part_at d T (i ∷ bs) (suc i) i v >>= λ b. some (part (lam b.term) b.next))
  unfolding part_by kind_of
  part_abstraction h =
      read_by_kind 2 (suc i) 0 h
      ∙ passed (eqb (T.left i) (suc i) && eqb (T.right i) 0) (part_at d T (i ∷ bs) (suc i) i v >>= λ b. some (part (lam b.term) b.next)) none
      (both (eqb (T.left i) (suc i)) (eqb (T.right i) 0) (eq-eqb (T.left i) (suc i) h.left_is) (eq-eqb (T.right i) 0 h.right_is))

  -- what is read after the function
  abbrev pub argument : ℕ → Part → Option Part
  argument r f = cond (eqb r f.next) (part_at d T bs f.next i (suc v) >>= λ a. some (part (app f.term a.term) a.next)) none

  pub part_application : (r : ℕ) → Row T i 3 (suc i) r p v → part_at (suc d) T bs i p v ≡ (part_at d T bs (suc i) i v >>= argument r)
  unfolding part_by kind_of
  part_application r h =
      read_by_kind 3 (suc i) r h
      ∙ passed (eqb (T.left i) (suc i)) (part_at d T bs (suc i) i v >>= argument (T.right i)) none (eq-eqb (T.left i) (suc i) h.left_is)
      ∙ ap (λ m. part_at d T bs (suc i) i v >>= argument m) h.right_is

module _ (T : Table) where
  pub reads : (d : ℕ) (t : Term) (bs : List ℕ) (i p v : ℕ) → RowsIn T t bs i p v → ClosedUnder (length bs) t → Falling i bs → size t ≤ d → part_at d T bs i p v ≡ some (part t (i + size t))
  reads zero t bs i p v h c f l = absurd (omega (arith, size_positive t))
  reads (suc d) (var x) bs i p v h c f l =
      part_variable T d bs i p v (get_or bs x 0) h
      ∙ ap (λ o. o >>= λ y. some (part (var y) (suc i))) (index_found i bs x f c)
      ∙ ap (λ j. some (part (var x) j)) (sym (add-one i))
  reads (suc d) (lam t) bs i p v h c f l =
      part_abstraction T d bs i p v h.0
      ∙ ap (λ o. o >>= λ b. some (part (lam b.term) b.next)) (reads d t (i ∷ bs) (suc i) i v h.1 c (omega arith, f) (omega arith))
      ∙ ap (λ j. some (part (lam t) j)) (omega arith)
  reads (suc d) (app f a) bs i p v h c g l =
      part_application T d bs i p v (suc i + size f) h.0
      ∙ ap (λ o. o >>= argument T d bs i p v (suc i + size f)) (reads d f bs (suc i) i v h.1 c.0 (falling_higher i (suc i) bs (omega arith) g) (omega arith))
      ∙ passed (eqb (suc i + size f) (suc i + size f)) _ none (eq-eqb (suc i + size f) (suc i + size f) refl)
      ∙ ap (λ o. o >>= λ b. some (part (app f b.term) b.next))
      (reads d a bs (suc i + size f) i (suc v) h.2 c.1 (falling_higher i (suc i + size f) bs (omega arith) g) (omega arith))
      ∙ ap (λ j. some (part (app f a) j)) (omega arith)

-- What a part that is read has.
pub record PartRead (T : Table) (bs : List ℕ) (i p v : ℕ) (q : Part) : Type 0 where
  pub holds : RowsIn T q.term bs i p v
  pub closed : ClosedUnder (length bs) q.term
  pub next_is : q.next ≡ i + size q.term

module _ (T : Table) where
  variable_read : (bs : List ℕ) (i p v x : ℕ) → x < length bs → Row T i 1 (get_or bs x 0) 0 p v → PartRead T bs i p v (part (var x) (suc i))
  variable_read bs i p v x l r = record { holds = r; closed = l; next_is = omega arith }

  abstraction_read : (bs : List ℕ) (i p v : ℕ) (b : Part) → Row T i 2 (suc i) 0 p v → PartRead T (i ∷ bs) (suc i) i v b → PartRead T bs i p v (part (lam b.term) b.next)
  abstraction_read bs i p v b r h = record { holds = (r, h.holds); closed = h.closed; next_is = omega arith }

  application_read : (bs : List ℕ) (i p v : ℕ) (f a : Part) → Row T i 3 (suc i) f.next p v → PartRead T bs (suc i) i v f → PartRead T bs f.next i (suc v) a
      → PartRead T bs i p v (part (app f.term a.term) a.next)
  application_read bs i p v f a r h g = record {
    holds = (
      subst (λ m. Row T i 3 (suc i) m p v) h.next_is r,
      h.holds,
      subst (λ j. RowsIn T a.term bs j i (suc v)) h.next_is g.holds,
    );
    closed = (h.closed, g.closed);
    next_is = omega arith;
  }

  -- what is read by its kind, where the parts below are what they should be
  read_by : (m : ℕ) (bs : List ℕ) (i p v : ℕ) (more : List ℕ → ℕ → ℕ → ℕ → Option Part) → ((cs : List ℕ) (j r u : ℕ) (q : Part) → more cs j r u ≡ some q → PartRead T cs j r u q)
      → T.kind i ≡ m → T.parent i ≡ p → T.level i ≡ v → (q : Part) → part_by (kind_of m) T bs i v more ≡ some q → PartRead T bs i p v q
  unfolding part_by kind_of
  read_by zero bs i p v more h k y z q e = absurd (none-ne-some q e)
  read_by (suc zero) bs i p v more h k y z q e =
      let g = guarded (eqb (T.right i) 0) (binder_index (T.left i) bs >>= λ x. some (part (var x) (suc i))) q e in
      let f = chained (binder_index (T.left i) bs) (λ x. some (part (var x) (suc i))) q g.1 in
      let b = index_only (T.left i) bs f.0 f.1 in
      subst (PartRead T bs i p v) (some-injective (part (var f.0) (suc i)) q f.2)
      (variable_read bs i p v f.0 b.0 record { kind_is = k; left_is = sym b.1; right_is = eqb-true (T.right i) 0 g.0; parent_is = y; level_is = z })
  read_by (suc (suc zero)) bs i p v more h k y z q e =
      let g = guarded (eqb (T.left i) (suc i) && eqb (T.right i) 0) (more (i ∷ bs) (suc i) i v >>= λ b. some (part (lam b.term) b.next)) q e in
      let t = each (eqb (T.left i) (suc i)) (eqb (T.right i) 0) g.0 in
      let f = chained (more (i ∷ bs) (suc i) i v) (λ b. some (part (lam b.term) b.next)) q g.1 in
      subst (PartRead T bs i p v) (some-injective (part (lam f.0.term) f.0.next) q f.2)
      (abstraction_read bs i p v f.0
      record { kind_is = k; left_is = eqb-true (T.left i) (suc i) t.0; right_is = eqb-true (T.right i) 0 t.1; parent_is = y; level_is = z }
      (h (i ∷ bs) (suc i) i v f.0 f.1))
  read_by (suc (suc (suc zero))) bs i p v more h k y z q e =
      let g = guarded (eqb (T.left i) (suc i)) (more bs (suc i) i v >>= argument) q e in
      let f = chained (more bs (suc i) i v) argument q g.1 in
      with_function f.0 (eqb-true (T.left i) (suc i) g.0) (h bs (suc i) i v f.0 f.1) f.2
    where
      argument : Part → Option Part
      argument f = cond (eqb (T.right i) f.next) (more bs f.next i (suc v) >>= λ a. some (part (app f.term a.term) a.next)) none

      with_function : (f : Part) → T.left i ≡ suc i → PartRead T bs (suc i) i v f → argument f ≡ some q → PartRead T bs i p v q
      with_function f l r e =
          let g = guarded (eqb (T.right i) f.next) (more bs f.next i (suc v) >>= λ a. some (part (app f.term a.term) a.next)) q e in
          let a = chained (more bs f.next i (suc v)) (λ a. some (part (app f.term a.term) a.next)) q g.1 in
          subst (PartRead T bs i p v) (some-injective (part (app f.term a.0.term) a.0.next) q a.2)
          (application_read bs i p v f a.0 record { kind_is = k; left_is = l; right_is = eqb-true (T.right i) f.next g.0; parent_is = y; level_is = z } r
          (h bs f.next i (suc v) a.0 a.1))
  read_by (suc (suc (suc (suc m)))) bs i p v more h k y z q e = absurd (none-ne-some q e)

  pub reads_only : (d : ℕ) (bs : List ℕ) (i p v : ℕ) (q : Part) → part_at d T bs i p v ≡ some q → PartRead T bs i p v q
  unfolding part_at
  reads_only zero bs i p v q e = absurd (none-ne-some q e)
  reads_only (suc d) bs i p v q e =
      let g = guarded (eqb (T.parent i) p && eqb (T.level i) v) (part_by (kind_at T i) T bs i v (λ cs j r u. part_at d T cs j r u)) q e in
      let t = each (eqb (T.parent i) p) (eqb (T.level i) v) g.0 in
      read_by (T.kind i) bs i p v (λ cs j r u. part_at d T cs j r u) (λ cs j r u c f. reads_only d cs j r u c f) refl
      (eqb-true (T.parent i) p t.0) (eqb-true (T.level i) v t.1) q g.1
