-- A run ends as full exactly where an application finds as many records taken as fit.
use mathlib.Core.Path.{◌≡◌, refl, sym, ap, ◌∙◌}
use mathlib.Core.Logic.{◌↔◌}
use mathlib.Core.Bool.{Bool, true, false, false≢true}
use mathlib.Core.Option.{some, some-injective, none-ne-some}
use mathlib.Core.List.{List, [], ◌∷◌}
use Prim.Native.Nat.{ℕ, zero, suc, ◌-◌, ◌<◌}
use native.Mathlib.Omega.{arith}
use native.Mathlib.Nat.{le_refl}
use lib.Dec.{eqb}
use borrow.Author.Tests.{eqb-false, ne_eqb}
use Rattle.term.specs.Choice.{◌⇒◌, first}
use Rattle.term.specs.Table.{Table, Kind, variable, abstraction, application, nothing, kind_at}
use Rattle.term.proofs.Choice.{each}
use Rattle.kam.specs.Runs.{Halt, spent, answer, full, refused, Ran, Moment, is_answer, is_application, none_free, is_full, AsManyAsFit, halt_before}
use Rattle.kam.specs.Lies.{Ends, RunFull}
use Rattle.kam.proofs.Lies.{full_exactly}

-- which halt it is
is_full_halt : Halt → Bool
is_full_halt spent = false
is_full_halt answer = false
is_full_halt full = true
is_full_halt (refused k) = false

full_last : (a b c : Bool) → first ((a ⇒ spent) ∷ (b ⇒ answer) ∷ (c ⇒ full) ∷ []) ≡ some full → (a ≡ false) × (c ≡ true)
unfolding is_full_halt
full_last true b c e = absurd (false≢true (ap is_full_halt (some-injective spent full e)))
full_last false true c e = absurd (false≢true (ap is_full_halt (some-injective answer full e)))
full_last false false true e = (refl, refl)
full_last false false false e = absurd (none-ne-some full e)

application_only : (k : Kind) → is_application k ≡ true → k ≡ application
application_only application e = refl
application_only variable e = absurd (false≢true e)
application_only abstraction e = absurd (false≢true e)
application_only nothing e = absurd (false≢true e)

module _ (T : Table) (lent : List ℕ) (count : ℕ) (r : Ran) (e : Ends T lent count r) where
  abbrev m : Moment
  m = e.last

  exactly : (none_free m.records ≡ true) ↔ AsManyAsFit m.records
  exactly = full_exactly m.records (e.always_lie r.steps m (le_refl r.steps) e.reached).fit

  -- the tests, by what each says
  said_full : (b : ℕ) → halt_before T b m ≡ some full → (eqb b 0 ≡ false) × (is_full T m ≡ true)
  unfolding halt_before
  said_full b h = full_last (eqb b 0) (is_answer T m.state) (is_full T m) h

  says_full : (b : ℕ) → (b ≡ 0 → ⊥) → kind_at T m.state.node ≡ application → none_free m.records ≡ true → halt_before T b m ≡ some full
  unfolding halt_before
  says_full b z k f = rw (ne_eqb b 0 z, k, f)

  then : r.halt ≡ full → (r.steps < count) × (kind_at T m.state.node ≡ application) × AsManyAsFit m.records
  then h =
      let t = said_full (count - r.steps) (e.halts ∙ ap some h) in
      let p = each (is_application (kind_at T m.state.node)) (none_free m.records) t.1 in
      let some_left : count - r.steps ≡ 0 → ⊥ = eqb-false (count - r.steps) 0 t.0 in
      (more (count - r.steps) refl some_left, application_only (kind_at T m.state.node) p.0, exactly.0 p.1)
    where
      more : (b : ℕ) → b ≡ count - r.steps → (b ≡ 0 → ⊥) → r.steps < count
      more zero z h = absurd (h refl)
      more (suc b) z h = omega arith

  only_then : (r.steps < count) × (kind_at T m.state.node ≡ application) × AsManyAsFit m.records → r.halt ≡ full
  only_then h = some-injective r.halt full (sym e.halts ∙ says_full (count - r.steps) (λ z. omega (arith, h.0)) h.1 (exactly.1 h.2))

pub run_full : RunFull
run_full T lent count r e = (then T lent count r e, only_then T lent count r e)
