-- The tests before a step: spent comes first, and where none applies there is a step, and room for what it takes.
use mathlib.Core.Path.{◌≡◌, refl, sym, ◌∙◌}
use mathlib.Core.Bool.{Bool, true, false, ◌&&◌, true≢false}
use mathlib.Core.Option.{Option, none, some, none-ne-some}
use mathlib.Core.List.{[], ◌∷◌}
use Prim.Native.Nat.{ℕ, ◌*◌, ◌≤◌}
use native.Mathlib.Omega.{arith}
use lib.ListN.{length}
use lib.Dec.{eqb}
use Rattle.term.specs.Choice.{◌⇒◌, first}
use Rattle.term.specs.Table.{Table, Kind, variable, abstraction, application, nothing, kind_at}
use Rattle.kam.specs.Krivine.{State, step}
use Rattle.kam.specs.Records.{Records, laid_by, laid}
use Rattle.kam.specs.Runs.{spent, answer, full, Moment, is_answer, is_application, none_free, is_full, halt_before}
use Rattle.kam.proofs.Lies.{one_more_fits}
use Rattle.kam.proofs.Scope.{SoundState, Onward, onward}

-- A count that is used up is spent, whatever else applies.
pub spent_first : (T : Table) (m : Moment) → halt_before T 0 m ≡ some spent
unfolding halt_before
spent_first T m = refl

none_of : (a b c : Bool) → first ((a ⇒ spent) ∷ (b ⇒ answer) ∷ (c ⇒ full) ∷ []) ≡ none → (b ≡ false) × (c ≡ false)
none_of true b c e = absurd (none-ne-some spent (sym e))
none_of false true c e = absurd (none-ne-some answer (sym e))
none_of false false true e = absurd (none-ne-some full (sym e))
none_of false false false e = (refl, refl)

module _ (T : Table) where
  pub tests_fail : (count : ℕ) (m : Moment) → halt_before T count m ≡ none → (is_answer T m.state ≡ false) × (is_full T m ≡ false)
  unfolding halt_before
  tests_fail count m e = none_of (eqb count 0) (is_answer T m.state) (is_full T m) e

  -- a step to a sound state
  pub record Steps (s : State) : Type 0 where
    pub to : State
    pub made : step T s ≡ some to
    pub sound : SoundState T to

  steps_by : (s : State) (o : Option State) → step T s ≡ o → Onward T s o → is_answer T s ≡ false → Steps s
  steps_by s none e h f = absurd (true≢false (sym h ∙ f))
  steps_by s (some u) e h f = record { to = u; made = e; sound = h }

  pub steps : (s : State) → SoundState T s → is_answer T s ≡ false → Steps s
  steps s h f = steps_by s (step T s) refl (onward T s h) f

  -- room for the records that are taken after the step
  room_by : (k : Kind) (i : ℕ) (R : Records) → 3 * R.taken ≤ length R.words → is_application k && none_free R ≡ false → 3 * (laid_by k T i R).taken ≤ length R.words
  unfolding laid_by
  room_by application i R l e = one_more_fits R e
  room_by abstraction i R l e = omega arith
  room_by variable i R l e = omega arith
  room_by nothing i R l e = l

  pub room : (m : Moment) → 3 * m.records.taken ≤ length m.records.words → is_full T m ≡ false → 3 * (laid T m.state.node m.records).taken ≤ length m.records.words
  room m l e = room_by (kind_at T m.state.node) m.state.node m.records l e
