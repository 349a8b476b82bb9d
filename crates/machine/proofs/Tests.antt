-- What the definitions' tests say of the table: that a variable is bound here, and that a word makes an entry.
use mathlib.Core.Path.{◌≡◌, refl}
use mathlib.Core.Bool.{true, and-eq-true_iff, false≢true}
use Prim.Native.Nat.{ℕ, ◌≤◌}
use lib.Dec.{leb, eqb}
use borrow.Author.Tests.{leb-true, eqb-true, eq-eqb}
use Rattle.term.specs.Table.{Table, arity, Kind, variable, abstraction, application, nothing, kind_at, is_variable}
use Rattle.machine.specs.Machine.{bound_at}
use Rattle.machine.specs.Slice.{makes_entry}

variable_is : (k : Kind) → is_variable k ≡ true → k ≡ variable
variable_is variable h = refl
variable_is abstraction h = absurd (false≢true h)
variable_is application h = absurd (false≢true h)
variable_is nothing h = absurd (false≢true h)

module _ (T : Table) where
  pub bound_at_lem : (v : ℕ) → kind_at T v ≡ variable → bound_at T (T.left v) v ≡ true
  bound_at_lem v k = simp (k, eq-eqb (T.left v) (T.left v) refl)

  pub bound_is : (i v : ℕ) → bound_at T i v ≡ true → T.left v ≡ i
  bound_is i v h = eqb-true (T.left v) i ((and-eq-true_iff (is_variable (kind_at T v)) (eqb (T.left v) i)).0 h).1

  pub entry_made : (v have : ℕ) → makes_entry T v have ≡ true → (kind_at T v ≡ variable) × (arity T v ≤ have)
  entry_made v have h =
      let both = (and-eq-true_iff (is_variable (kind_at T v)) (leb (arity T v) have)).0 h in
      (variable_is (kind_at T v) both.0, leb-true (arity T v) have both.1)
