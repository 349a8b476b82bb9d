-- The test whether a term is closed.
use mathlib.Core.Path.{◌≡◌}
use mathlib.Core.Logic.{◌↔◌}
use mathlib.Core.Bool.{true}
use Prim.Native.Nat.{ℕ, suc}
use borrow.Author.Tests.{ltb-true, lt-ltb}
use Rattle.term.specs.Term.{Term, var, lam, app, ClosedUnder, is_closed_under}
use Rattle.term.proofs.Choice.{both, each}

pub closed_exactly : (d : ℕ) (t : Term) → (is_closed_under d t ≡ true) ↔ ClosedUnder d t
closed_exactly d (var k) = (ltb-true k d, lt-ltb k d)
closed_exactly d (lam b) = closed_exactly (suc d) b
closed_exactly d (app f a) = (
  λ e. let h = each (is_closed_under d f) (is_closed_under d a) e in ((closed_exactly d f).0 h.0, (closed_exactly d a).0 h.1),
  λ c. both _ _ ((closed_exactly d f).1 c.0) ((closed_exactly d a).1 c.1),
)
