-- Top for a host: the place that it gets is that of the part in its own slice; 10 where its number names no list, after 7 to 9; and nothing where it is refused.
use mathlib.Core.Path.{◌≡◌, refl, ap, ◌∙◌}
use mathlib.Core.Option.{Option, none, some}
use mathlib.Core.List.{List}
use Prim.Native.Nat.{ℕ, ◌<◌}
use lib.ListN.{take, drop}
use Rattle.machine.specs.Machine.{State}
use Rattle.calls.specs.Session.{Session, Given}
use Rattle.calls.specs.Calls.{call_number, Enters}
use Rattle.calls.specs.Top.{Which, not_shown, top_of, slice_given}
use Rattle.calls.proofs.Entering.{enters_unrefused}
use Rattle.calls.proofs.Top.{refused_nowhere, cut}
use Rattle.face.specs.declared.HostSession.{HostSession}
use Rattle.face.specs.Numbers.{session_in, which_in}
use Rattle.face.specs.Told.{no_session_number, top_told, top_on, top_called}
use Rattle.face.proofs.Codes.{no_direction, no_list}

module _ (w : List ℕ) (n : ℕ) (s : HostSession) (ls ts : List ℕ) (which : ℕ) where
  -- A direction above 1 is a 9, after 7 and 8, whatever the list.
  pub direction_not_shown : 1 < s.direction → top_called w n s ls ts which ≡ top_told (not_shown (no_session_number w n ls ts))
  unfolding top_called
  direction_not_shown h = rw (no_direction s.direction h)

  -- A session:
  module _ (se : Session) (is : session_in s ≡ some se) where
    abbrev given : Given
    given = record { table = w; n = n; session = se; log = ls; tape = ts }

    -- a list, and the part that is cut out of its slice there,
    module _ (list : Which) (named : which_in which ≡ some list) where
      pub list_shown : top_called w n s ls ts which ≡ top_told (top_of list given)
      unfolding top_called
      list_shown = rw (is, named)

      pub part_told : take (top_called w n s ls ts which).0.len (drop (top_called w n s ls ts which).0.offset (slice_given list given)) ≡ (top_of list given).part
      part_told = ap (λ a. take a.0.len (drop a.0.offset (slice_given list given))) list_shown ∙ cut list given

    -- and no list.
    module _ (above : 1 < which) where
      pub no_list_refused : (k : ℕ) → call_number given ≡ some k → top_called w n s ls ts which ≡ top_told (not_shown k)
      unfolding top_called
      no_list_refused k e = rw (is, no_list which above, e)

      pub no_list_ten : (u : State) → Enters given u → top_called w n s ls ts which ≡ top_told (not_shown 10)
      unfolding top_called
      no_list_ten u h = rw (is, no_list which above, enters_unrefused given u h)

  -- Refused, it gets 0 and 0.
  pub nothing_told : ((top_called w n s ls ts which).1 ≡ 0 → ⊥) → top_called w n s ls ts which ≡ top_told (not_shown (top_called w n s ls ts which).1)
  unfolding top_called
  nothing_told = by_session (session_in s) (which_in which)
    where
      by_session : (o : Option Session) (x : Option Which) → ((top_on o x w n ls ts).refusal ≡ 0 → ⊥) → top_told (top_on o x w n ls ts) ≡ top_told (not_shown (top_on o x w n ls ts).refusal)
      by_session none x z = refl
      by_session (some se) none z = refl
      by_session (some se) (some list) z = ap top_told (refused_nowhere list (record { table = w; n = n; session = se; log = ls; tape = ts }) z)
