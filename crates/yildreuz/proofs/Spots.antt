-- A host's numbers for a node in a direction, as `chosen_node` and `chosen_dir` take them, are the spot that they stand for.
use mathlib.Core.Path.{◌≡◌, refl}
use Prim.Native.Nat.{ℕ, zero, suc, ◌≤◌, ◌<◌}
use native.Mathlib.Omega.{arith}
use Rattle.machine.specs.Machine.{Dir, down, up}
use Rattle.calls.specs.Visits.{spot}
use Rattle.face.specs.Numbers.{spot_in}
use Rattle.face.proofs.Codes.{no_direction}

pub node_lost : (i k : ℕ) → 1 < k → 0 ≡ (spot_in i k).node
node_lost i k h = rw (no_direction k h)

pub node_kept : (i k : ℕ) → k ≤ 1 → i ≡ (spot_in i k).node
node_kept i zero h = refl
node_kept i (suc zero) h = refl
node_kept i (suc (suc k)) h = absurd (omega arith)

pub one_is_up : (i k : ℕ) → k ≡ 1 → up ≡ (spot_in i k).dir
one_is_up i k e = rw e

pub else_down : (i k : ℕ) → (k ≡ 1 → ⊥) → down ≡ (spot_in i k).dir
else_down i zero h = refl
else_down i (suc zero) h = absurd (h refl)
else_down i (suc (suc k)) h = refl

-- What holds of a call to the one holds of a call to the other.
pub same_spot : (i k : ℕ) {j : ℕ} {d : Dir} → j ≡ (spot_in i k).node → d ≡ (spot_in i k).dir → spot j d ≡ spot_in i k
same_spot i k p q = λ t. spot (p t) (q t)
