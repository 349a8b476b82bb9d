-- The steps that the stops allow from a position, on the plain machine alone (document 01, "A session and its calls").
use Rattle.std.proofs.Math.Option.{Option, some}
use Rattle.std.specs.Prelude.{ℕ, zero, suc}
use Rattle.term.specs.Choice.{if_some}
use Rattle.term.specs.Table.{Table}
use Rattle.machine.specs.Machine.{State, after_from}
use Rattle.calls.specs.Session.{Stop, jam}
use Rattle.calls.specs.Stops.{forward, moment_after, Room, stop_before}

-- On the table T, from a state s₀ at position 0, with slices of the lengths in r.
module _ (T : Table) (s₀ : State) (r : Room) where
  -- "The steps that the stops allow from p are counted on the plain machine alone: the tests above are put to its state after p steps, .. and again after each step,
  -- with the position one higher and the count one lower." Where the machine makes no p steps there is no state to go on from.
  abbrev pub stop_after : ℕ → ℕ → Option Stop
  stop_after count p = if_some (after_from T s₀ p) (λ s. stop_before forward T r count (moment_after T s₀ p s)) (λ _. some jam)

  unfoldable pub allowed : ℕ → ℕ → ℕ
  allowed zero p = 0
  allowed (suc count) p = if_some (stop_after (suc count) p) (λ x. 0) (λ _. suc (allowed count (suc p)))
