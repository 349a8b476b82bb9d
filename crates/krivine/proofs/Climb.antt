-- The walk up from a variable, node by node: what is still to be counted.
use mathlib.Core.Path.{◌≡◌, refl, ap, ◌∙◌}
use Prim.Native.Nat.{ℕ, zero, suc, ◌+◌, ◌≤◌, ◌<◌}
use native.Mathlib.Omega.{arith}
use borrow.Author.Tests.{eq-eqb, ne_eqb}
use Rattle.term.specs.Table.{Table, Kind, variable, abstraction, application, nothing, kind_at}
use Rattle.kam.specs.Krivine.{abstractions_in, abstractions_up}

pub one_at_most : (k : Kind) → abstractions_in k ≤ 1
one_at_most variable = omega arith
one_at_most abstraction = omega arith
one_at_most application = omega arith
one_at_most nothing = omega arith

-- So far `between` were counted; of the way up from node i, `left` nodes at most, the rest is still to be counted.
pub record Climbs (T : Table) (b start : ℕ) (n i between left : ℕ) : Type 0 where
  pub few : between + left ≤ n
  pub counts : between + abstractions_up left T b i ≡ abstractions_up n T b start

module _ (T : Table) (b : ℕ) where
  binder_stops : (left i : ℕ) → 0 < left → i ≡ b → abstractions_up left T b i ≡ 0
  unfolding abstractions_up
  binder_stops zero i l e = absurd (omega arith)
  binder_stops (suc left) i l e = rw (eq-eqb i b e)

  other_goes_on : (left rest i : ℕ) → left ≡ rest + 1 → (i ≡ b → ⊥) → abstractions_up left T b i ≡ abstractions_in (kind_at T i) + abstractions_up rest T b (T.parent i)
  unfolding abstractions_up
  other_goes_on left rest i l e =
      let z : left ≡ suc rest = omega arith in
      ap (λ d. abstractions_up d T b i) z ∙ rw (ne_eqb i b e) refl

module _ {T : Table} {b start n : ℕ} where
  pub climb_starts : Climbs T b start n start 0 n
  climb_starts = record { few = omega arith; counts = omega arith }

  pub climb_ends : {i between : ℕ} → Climbs T b start n i between 0 → between ≡ abstractions_up n T b start
  unfolding abstractions_up
  climb_ends {i} {between} c = let e : between + 0 ≡ abstractions_up n T b start = c.counts in omega arith

  pub climb_met : {i between left : ℕ} → Climbs T b start n i between left → 0 < left → i ≡ b → between ≡ abstractions_up n T b start
  climb_met {i} {between} {left} c l e = omega (arith, c.counts, binder_stops T b left i l e)

  pub climb_on : {i between left k p : ℕ} → Climbs T b start n i between left → (rest : ℕ) → left ≡ rest + 1 → (i ≡ b → ⊥) → k ≡ abstractions_in (kind_at T i) → p ≡ T.parent i
      → Climbs T b start n p (between + k) rest
  climb_on {i} {between} {left} {k} {p} c rest l e a q = record {
    few = omega (arith, c.few, one_at_most (kind_at T i));
    counts = rw q (omega (arith, c.counts, other_goes_on T b left rest i l e));
  }
