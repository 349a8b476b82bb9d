-- Which calls enter at a state, and which state that is; and what stands between two calls, as a state laid down in its slices.
use mathlib.Core.Path.{◌≡◌, refl, sym, ◌∙◌}
use mathlib.Core.Bool.{Bool, true, false}
use mathlib.Core.Option.{Option, none, some, some-ne-none}
use mathlib.Core.List.{List}
use Prim.Native.Nat.{ℕ, ◌≤◌, ◌<◌}
use native.Mathlib.Omega.{arith}
use lib.ListN.{length}
use Rattle.term.specs.Table.{Table, table_in}
use Rattle.term.specs.Accepted.{Accepted, accepted}
use Rattle.term.proofs.Accepted.{accepts_all, accepts_only}
use Rattle.term.proofs.Facts.{accepted_facts}
use Rattle.machine.specs.Entries.{log_words, tape_words}
use Rattle.machine.specs.Machine.{State}
use Rattle.machine.specs.Good.{Good}
use Rattle.machine.proofs.Load.{slice_length}
use Rattle.calls.specs.Session.{Given}
use Rattle.calls.specs.Stops.{Moment, moment_of, Room, room}
use Rattle.calls.specs.Held.{Holds}
use Rattle.calls.specs.Calls.{longest, lent_number, state_given, call_number, Enters, session_at, log_slice, tape_slice}
use Rattle.calls.specs.Demand.{Standing, given_to}
use Rattle.calls.proofs.Held.{held_exactly}
use Rattle.calls.proofs.Unrefused.{lent_seven, lent_log_eight, lent_tape_eight, lent_unrefused, call_as_lent, call_nine, call_unrefused}
use Rattle.calls.proofs.Stops.{Fits}
use Rattle.calls.proofs.Moments.{FewTurns}

-- A call that enters at a state: that state is given, no number refuses it,
module _ (g : Given) (s : State) (h : Enters g s) where
  pub state_given_lem : state_given g ≡ some s
  state_given_lem = (held_exactly (table_in g.table g.n) (accepted_facts g.table g.n h.accepted_table) g.session g.log g.tape s).1 h.holds

  pub enters_unrefused : call_number g ≡ none
  enters_unrefused =
      call_unrefused g
      (lent_unrefused g.table g.n g.log g.tape (accepts_all g.table g.n h.accepted_table) h.short_log h.short_tape)
      s state_given_lem

  -- its lists fit the slices
  pub enters_fits : Fits (room g.log g.tape) s
  enters_fits = record { log_fits = rw h.holds.log_length_is at h.holds.log_fits; tape_fits = rw h.holds.tape_length_is at h.holds.tape_fits }

-- A call that no number refuses enters at a state.
pub entered : (g : Given) → call_number g ≡ none → (s : State) × Enters g s
entered g e = by_table (accepted g.table g.n) refl
  where
    lent_clash : {k : ℕ} → lent_number g.table g.n g.log g.tape ≡ some k → ⊥
    lent_clash {k} h = some-ne-none k (sym (call_as_lent g k h) ∙ e)

    by_table : (b : Bool) → accepted g.table g.n ≡ b → (s : State) × Enters g s
    by_table false a = absurd (lent_clash (lent_seven g.table g.n g.log g.tape a))
    by_table true a = by_state (state_given g) refl
      where
        short_log : length g.log ≤ longest
        short_log = let h : ¬ (longest < length g.log) = λ h. lent_clash (lent_log_eight g.table g.n g.log g.tape a h) in omega arith

        short_tape : length g.tape ≤ longest
        short_tape = let h : ¬ (longest < length g.tape) = λ h. lent_clash (lent_tape_eight g.table g.n g.log g.tape a h) in omega arith

        table : Accepted g.table g.n
        table = accepts_only g.table g.n a

        by_state : (o : Option State) → state_given g ≡ o → (s : State) × Enters g s
        by_state none h =
            absurd (some-ne-none 9
            (sym (call_nine g (lent_unrefused g.table g.n g.log g.tape a short_log short_tape) h) ∙ e))
        by_state (some s) h = (
          s,
          record {
            accepted_table = table;
            short_log = short_log;
            short_tape = short_tape;
            holds = (held_exactly (table_in g.table g.n) (accepted_facts g.table g.n table) g.session g.log g.tape s).0 h;
          },
        )

-- A moment as what stands between two calls: its session, and its lists laid down in the slices.
abbrev pub laid_down : Room → Moment → Standing
laid_down r m = record { session = session_at m; log = log_slice r m; tape = tape_slice r m }

-- What stands is this for a state that it holds.
pub held_laid_down : (T : Table) (st : Standing) (s : State) → Holds T st.session st.log st.tape s → st ≡ laid_down (room st.log st.tape) (moment_of st.session s)
held_laid_down T st s h = λ i. record {
  session = record { node = h.node_is i; dir = h.dir_is i; position = st.session.position; log_length = h.log_length_is i; tape_length = h.tape_length_is i; turns = st.session.turns };
  log = h.log_lies i;
  tape = h.tape_lies i;
}

-- A call on a good state laid down in slices that it fits, with no more turns than its position.
module _ (r : Room) (m : Moment) (fits : Fits r m.state) where
  laid_log_length : length (log_slice r m) ≡ r.log
  laid_log_length = slice_length r.log (log_words m.state.log) fits.log_fits

  laid_tape_length : length (tape_slice r m) ≡ r.tape
  laid_tape_length = slice_length r.tape (tape_words m.state.tape) fits.tape_fits

  pub laid_room : room (log_slice r m) (tape_slice r m) ≡ r
  laid_room = λ i. record { log = laid_log_length i; tape = laid_tape_length i }

  laid_holds : (T : Table) → Good T m.state → FewTurns m → Holds T (session_at m) (log_slice r m) (tape_slice r m) m.state
  laid_holds T good few = record {
    node_is = refl;
    dir_is = refl;
    good = good;
    log_fits = rw laid_log_length fits.log_fits;
    tape_fits = rw laid_tape_length fits.tape_fits;
    log_length_is = refl;
    tape_length_is = refl;
    log_lies = rw laid_log_length refl;
    tape_lies = rw laid_tape_length refl;
    turns_fit = few;
  }

  module _ (w : List ℕ) (n : ℕ) (A : Accepted w n) (good : Good (table_in w n) m.state) (few : FewTurns m) (short_log : r.log ≤ longest) (short_tape : r.tape ≤ longest) where
    pub laid_enters : Enters (given_to w n (laid_down r m)) m.state
    laid_enters = record {
      accepted_table = A;
      short_log = rw laid_log_length short_log;
      short_tape = rw laid_tape_length short_tape;
      holds = laid_holds (table_in w n) good few;
    }
