-- The rows of a term that stand in a table: what its root has.
use mathlib.Core.Path.{◌≡◌}
use mathlib.Core.List.{List}
use Prim.Native.Nat.{ℕ, suc, ◌≤◌}
use native.Mathlib.Omega.{arith}
use Rattle.term.specs.Term.{Term, var, lam, app, size}
use Rattle.term.specs.Table.{Table}
use Rattle.term.specs.Rows.{RowsIn}

-- The root of a part, as far as the part is not looked at.
module _ (T : Table) where
  pub root_parent : (t : Term) (bs : List ℕ) (i p v : ℕ) → RowsIn T t bs i p v → T.parent i ≡ p
  root_parent (var x) bs i p v h = h.parent_is
  root_parent (lam b) bs i p v h = h.0.parent_is
  root_parent (app f a) bs i p v h = h.0.parent_is

  pub root_level : (t : Term) (bs : List ℕ) (i p v : ℕ) → RowsIn T t bs i p v → T.level i ≡ v
  root_level (var x) bs i p v h = h.level_is
  root_level (lam b) bs i p v h = h.0.level_is
  root_level (app f a) bs i p v h = h.0.level_is

  pub root_left : (t : Term) (bs : List ℕ) (i p v : ℕ) → RowsIn T t bs i p v → (T.kind i ≡ 1 → ⊥) → T.left i ≡ suc i
  root_left (var x) bs i p v h k = absurd (k h.kind_is)
  root_left (lam b) bs i p v h k = h.0.left_is
  root_left (app f a) bs i p v h k = h.0.left_is

  pub root_right : (t : Term) (bs : List ℕ) (i p v : ℕ) → RowsIn T t bs i p v → (T.kind i ≡ 3 → ⊥) → T.right i ≡ 0
  root_right (var x) bs i p v h k = h.right_is
  root_right (lam b) bs i p v h k = h.0.right_is
  root_right (app f a) bs i p v h k = absurd (k h.0.kind_is)

  pub root_kind : (t : Term) (bs : List ℕ) (i p v : ℕ) → RowsIn T t bs i p v → (1 ≤ T.kind i) × (T.kind i ≤ 3)
  root_kind (var x) bs i p v h = omega (arith, h.kind_is)
  root_kind (lam b) bs i p v h = omega (arith, h.0.kind_is)
  root_kind (app f a) bs i p v h = omega (arith, h.0.kind_is)

pub size_positive : (t : Term) → 1 ≤ size t
size_positive (var x) = omega arith
size_positive (lam b) = omega arith
size_positive (app f a) = omega arith
