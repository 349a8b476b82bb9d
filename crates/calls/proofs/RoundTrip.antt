-- Forward by any count, and back by the steps made: the session and every word of both slices are again those given, and as many words were carried.
use mathlib.Core.Path.{◌≡◌, refl, sym, ap, ap₂, ◌∙◌, subst}
use mathlib.Core.Option.{Option, none, some}
use Prim.Native.Nat.{ℕ}
use native.Mathlib.Nat.{zero-add, lt_irrefl}
use native.Mathlib.Omega.{arith}
use Rattle.term.specs.Table.{Table, table_in}
use Rattle.term.specs.Facts.{Facts}
use Rattle.term.proofs.Facts.{accepted_facts}
use Rattle.machine.specs.Machine.{State}
use Rattle.machine.specs.Good.{Good}
use Rattle.machine.specs.Carried.{carried_over}
use Rattle.calls.specs.Session.{Given}
use Rattle.calls.specs.Stops.{forward, back, Moment, moment_of, Room, room}
use Rattle.calls.specs.Winding.{Run, wind}
use Rattle.calls.specs.Calls.{call_number, Enters, refused_outcome, wound, forward_of}
use Rattle.calls.specs.Moves.{by}
use Rattle.calls.specs.Demand.{Standing, left_by, given_to}
use Rattle.calls.specs.Trips.{back_by, Restored}
use Rattle.calls.proofs.Stops.{Fits}
use Rattle.calls.proofs.Moments.{FewTurns}
use Rattle.calls.proofs.Runs.{Trail, begun, trail_none, trail_few, trail_fits, trail_good, On, forward_on, Off, back_off}
use Rattle.calls.proofs.Entering.{entered, laid_down, held_laid_down, laid_enters, enters_fits}
use Rattle.calls.proofs.Answers.{move_refused, moved, laid_moved}

-- A refused call makes no step, and the call the other way is refused as it was.
pub refused_twice : (g : Given) (k : ℕ) → Restored g (refused_outcome k g) (refused_outcome k g)
refused_twice g k = record { session_is = refl; log_is = refl; tape_is = refl; steps_are = refl; carried_is = refl }

module _ (g : Given) (c : ℕ) (s : State) (h : Enters g s) where
  abbrev T' : Table
  T' = table_in g.table g.n

  abbrev r : Room
  r = room g.log g.tape

  abbrev here : Moment
  here = moment_of g.session s

  abbrev given : Standing
  given = record { session = g.session; log = g.log; tape = g.tape }

  abbrev out : Run
  out = wind forward T' r c here

  abbrev home : Run
  home = wind back T' r out.steps out.last

  facts : Facts T'
  facts = accepted_facts g.table g.n h.accepted_table

  fits : Fits r s
  fits = enters_fits g s h

  on : On T' r here 0 out
  on = forward_on T' r here c here 0 begun

  trail : Trail T' r here out.steps out.last
  trail = rw zero-add at on.trail

  off : Off T' r here out.steps out.steps home
  off = back_off T' r here facts h.holds.good fits h.holds.turns_fit out.steps trail (λ l. absurd (lt_irrefl out.steps l))

  -- Where forward came to there is a state again.
  there_fits : Fits r out.last.state
  there_fits = trail_fits T' r here fits trail

  there_good : Good T' out.last.state
  there_good = trail_good T' r here facts h.holds.good trail

  there_few : FewTurns out.last
  there_few = trail_few T' r here h.holds.turns_fit trail

  pub left_enters : Enters (given_to g.table g.n (left_by (forward_of g c))) out.last.state
  left_enters = rw (moved (by forward c) g s h refl) (laid_enters r out.last there_fits g.table g.n h.accepted_table there_good there_few h.short_log h.short_tape)

  home_is : laid_down r home.last ≡ given
  home_is = ap (laid_down r) (sym came) ∙ sym (held_laid_down T' given s h.holds)
    where
      came : here ≡ home.last
      came = trail_none T' r here (subst (λ k. Trail T' r here k home.last) (omega arith) off.trail)

  back_home : back_by g (wound r out) ≡ wound r home
  back_home =
      laid_moved (by back out.steps) r out.last there_fits g.table g.n h.accepted_table there_good there_few h.short_log h.short_tape refl

  -- Each step taken back carries what it carried.
  same_sum : home.carried ≡ out.carried
  same_sum = off.carried_is ∙ ap₂ (carried_over T' s) (omega arith) (omega arith) ∙ sym on.carried_is

  wound_trip : Restored g (forward_of g c) (back_by g (forward_of g c))
  wound_trip = rw (moved (by forward c) g s h refl, back_home)
      (record { session_is = ap (λ x. x.session) home_is; log_is = ap (λ x. x.log) home_is; tape_is = ap (λ x. x.tape) home_is; steps_are = off.steps_are ∙ omega arith; carried_is = same_sum })

-- Of every session, refused or not.
pub round_trip : (g : Given) (c : ℕ) → Restored g (forward_of g c) (back_by g (forward_of g c))
round_trip g c = by_number (call_number g) refl
  where
    by_number : (o : Option ℕ) → call_number g ≡ o → Restored g (forward_of g c) (back_by g (forward_of g c))
    by_number (some k) e = rw (move_refused (by forward c) g k e, move_refused (by back 0) g k e) (refused_twice g k)
    by_number none e = let en = entered g e in wound_trip g c en.0 en.1
