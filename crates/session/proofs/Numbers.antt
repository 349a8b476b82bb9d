-- Which number refuses, by what is found.
use mathlib.Core.Path.{◌≡◌, refl}
use mathlib.Core.Bool.{true, false, true≢false, false≢true}
use mathlib.Core.Option.{Option, none, some}
use mathlib.Core.List.{List}
use Prim.Native.Nat.{ℕ}
use native.Mathlib.Nat.{sub-zero}
use lib.ListN.{length, replicate}
use Rattle.term.specs.Choice.{is_none}
use Rattle.machine.specs.Machine.{State}
use Rattle.machine.specs.Slice.{slice}
use Rattle.calls.specs.Session.{Given}
use Rattle.calls.specs.Stops.{start_moment}
use Rattle.calls.specs.Calls.{lent_number, state_given, call_number, no_session, session_at, open_of}
use Rattle.calls.proofs.Unrefused.{call_nine, call_unrefused}

module _ (g : Given) where
  -- 9 or none, by whether there is a state
  module _ (e : lent_number g.table g.n g.log g.tape ≡ none) where
    pub call_as_nine : is_none (state_given g) ≡ true → call_number g ≡ some 9
    call_as_nine = by_state (state_given g) refl
      where
        by_state : (o : Option State) → state_given g ≡ o → is_none o ≡ true → call_number g ≡ some 9
        by_state none s h = call_nine g e s
        by_state (some u) s h = absurd (false≢true h)

    pub call_as_none : is_none (state_given g) ≡ false → call_number g ≡ none
    call_as_none = by_state (state_given g) refl
      where
        by_state : (o : Option State) → state_given g ≡ o → is_none o ≡ false → call_number g ≡ none
        by_state none s h = absurd (true≢false h)
        by_state (some u) s h = call_unrefused g e u s

-- what open answers by its number
module _ (w : List ℕ) (n : ℕ) (ls ts : List ℕ) where
  pub open_refused : (k : ℕ) → lent_number w n ls ts ≡ some k → open_of w n ls ts ≡ record { session = no_session; refusal = k; log = ls; tape = ts }
  unfolding open_of
  open_refused k e = rw e

  pub open_begun : lent_number w n ls ts ≡ none
      → open_of w n ls ts ≡ record { session = session_at start_moment; refusal = 0; log = replicate (length ls) 0; tape = replicate (length ts) 0 }
  unfolding open_of slice
  open_begun e = simp (e, sub-zero)
