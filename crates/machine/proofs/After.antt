-- Every state that the plain machine comes to from a good one on an accepted table is good, and so from the start: "the length of the log in entries equals the node's level".
use mathlib.Core.Path.{◌≡◌, refl, sym, subst}
use mathlib.Core.Option.{Option, none, some}
use mathlib.Core.List.{List}
use Prim.Native.Nat.{ℕ, zero, suc}
use Rattle.term.specs.Choice.{◌>>=◌}
use Rattle.term.specs.Table.{Table, table_in}
use Rattle.term.specs.Facts.{Facts}
use Rattle.term.specs.Accepted.{Accepted}
use Rattle.term.proofs.Facts.{accepted_facts}
use Rattle.machine.specs.Machine.{State, start_state, step, after_from}
use Rattle.machine.specs.Good.{Good}
use Rattle.machine.proofs.Led.{Led}
use Rattle.machine.proofs.Reverse.{keeps_good}

module _ (T : Table) (F : Facts T) where
  good_next : (o : Option State) → Led (Good T) o → Led (Good T) (o >>= λ u. step T u)
  good_next none g = tt
  good_next (some u) g = by_next (step T u) refl
    where
      by_next : (o : Option State) → step T u ≡ o → Led (Good T) o
      by_next none e = tt
      by_next (some v) e = keeps_good T F u v g e

  good_from : (s₀ : State) → Good T s₀ → (p : ℕ) → Led (Good T) (after_from T s₀ p)
  unfolding after_from
  good_from s₀ g zero = g
  good_from s₀ g (suc p) = good_next (after_from T s₀ p) (good_from s₀ g p)

module _ (w : List ℕ) (n : ℕ) (A : Accepted w n) where
  pub start_good : Good (table_in w n) start_state
  start_good = let root = (accepted_facts w n A).root in record { node_there = root.there; level_many = sym root.level_is; log_entries = tt; tape_items = tt }

  -- from any good state at position 0
  pub after_good : (s₀ : State) → Good (table_in w n) s₀ → (p : ℕ) (s : State) → after_from (table_in w n) s₀ p ≡ some s → Good (table_in w n) s
  after_good s₀ g p s e = subst (Led (Good (table_in w n))) e (good_from (table_in w n) (accepted_facts w n A) s₀ g p)
