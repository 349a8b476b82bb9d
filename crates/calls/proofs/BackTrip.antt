-- Back by any count, and forward by the steps made: spent, and the session and every word of both slices are again those given, and as many words were carried. So a call back that says none gives back what it got.
use mathlib.Core.Path.{◌≡◌, refl, sym, ap, ◌∙◌}
use mathlib.Core.Bool.{Bool, true, false}
use mathlib.Core.Option.{Option, none, some, some-ne-none}
use Prim.Native.Nat.{ℕ, ◌≤◌}
use Rattle.term.specs.Table.{Table, table_in}
use Rattle.term.specs.Facts.{Facts}
use Rattle.term.proofs.Facts.{accepted_facts}
use Rattle.machine.specs.Machine.{State}
use Rattle.calls.specs.Session.{Stop, spent, Given}
use Rattle.calls.specs.Stops.{forward, back, Moment, moment_of, Room, room, greatest}
use Rattle.calls.specs.Winding.{Run, wind}
use Rattle.calls.specs.Calls.{call_number, Enters, wound, back_of}
use Rattle.calls.specs.Visits.{Spot, off_term, back_to_of}
use Rattle.calls.specs.Moves.{by, back_to}
use Rattle.calls.specs.Demand.{Standing}
use Rattle.calls.specs.Trips.{forward_by, Restored, Unmoved}
use Rattle.calls.proofs.Stops.{Fits}
use Rattle.calls.proofs.Visits.{each_sought, sought_back, found_not_none, none_unrefused}
use Rattle.calls.proofs.Retrace.{Backed, backed, Again, again}
use Rattle.calls.proofs.Entering.{entered, enters_unrefused, enters_fits, laid_down, held_laid_down}
use Rattle.calls.proofs.Answers.{move_refused, own_refused, moved, laid_moved}
use Rattle.calls.proofs.RoundTrip.{refused_twice}

module _ (g : Given) (s : State) (h : Enters g s) where
  abbrev T : Table
  T = table_in g.table g.n

  abbrev r : Room
  r = room g.log g.tape

  abbrev here : Moment
  here = moment_of g.session s

  abbrev given : Standing
  given = record { session = g.session; log = g.log; tape = g.tape }

  -- what stands where the call began
  laid_as_given : {m : Moment} → m ≡ here → laid_down r m ≡ given
  laid_as_given e = ap (laid_down r) e ∙ sym (held_laid_down T given s h.holds)

  module _ (c : ℕ) (near : g.session.position ≤ greatest) where
    abbrev out : Run
    out = wind back T r c here

    abbrev home : Run
    home = wind forward T r out.steps out.last

    facts : Facts T
    facts = accepted_facts g.table g.n h.accepted_table

    fits : Fits r s
    fits = enters_fits g s h

    came : Again T r facts here out home
    came = again T r facts c here h.holds.good fits h.holds.turns_fit near

    forward_home : forward_by g (wound r out) ≡ wound r home
    forward_home =
        let b : Backed T r here out = backed T r facts c here h.holds.good fits h.holds.turns_fit in
        laid_moved (by forward out.steps) r out.last b.fits g.table g.n h.accepted_table b.good b.few h.short_log h.short_tape refl

    wound_back : Restored g (back_of g c) (forward_by g (back_of g c)) × ((forward_by g (back_of g c)).stop ≡ spent)
    wound_back =
        let there : laid_down r home.last ≡ given = laid_as_given came.last_is in
        rw (moved (by back c) g s h refl, forward_home) (
          record { session_is = ap (λ x. x.session) there; log_is = ap (λ x. x.log) there; tape_is = ap (λ x. x.tape) there; steps_are = came.steps_are; carried_is = came.carried_is },
          came.spent_is,
        )

  none_unmoved : (v : Spot) → off_term g.n v.node ≡ false → (back_to_of g v).stop ≡ Stop.none → Unmoved g s (back_to_of g v)
  none_unmoved v on =
      rw (moved (back_to v) g s h (rw on))
      (each_sought (λ x. x.stop ≡ Stop.none → Unmoved g s (wound r x)) (λ k f e. absurd (found_not_none e))
      (λ e.
      let there : laid_down r here ≡ given = laid_as_given refl in
      record { session_is = ap (λ x. x.session) there; log_is = ap (λ x. x.log) there; tape_is = ap (λ x. x.tape) there; no_steps = refl; own_weight = refl; nothing_carried = refl })
      (sought_back T r v here))

-- Of every session, refused or not. (A position is 0 to 4,294,967,295.)
pub back_trip : (g : Given) (c : ℕ) → g.session.position ≤ greatest
    → Restored g (back_of g c) (forward_by g (back_of g c)) × (call_number g ≡ none → (forward_by g (back_of g c)).stop ≡ spent)
back_trip g c near = by_number (call_number g) refl
  where
    by_number : (o : Option ℕ) → call_number g ≡ o → Restored g (back_of g c) (forward_by g (back_of g c)) × (call_number g ≡ none → (forward_by g (back_of g c)).stop ≡ spent)
    by_number (some k) e = (rw (move_refused (by back c) g k e, move_refused (by forward 0) g k e) (refused_twice g k), λ free. absurd (some-ne-none k (sym e ∙ free)))
    by_number none e = let (s, h) = entered g e in let (restored, is_spent) = wound_back g s h c near in (restored, λ _. is_spent)

pub none_gives_back : (g : Given) (s : State) → Enters g s → (v : Spot) → (back_to_of g v).stop ≡ Stop.none → Unmoved g s (back_to_of g v)
none_gives_back g s h v e = by_node (off_term g.n v.node) refl
  where
    by_node : (b : Bool) → off_term g.n v.node ≡ b → Unmoved g s (back_to_of g v)
    by_node false on = none_unmoved g s h v on e
    by_node true off =
        absurd (none_unrefused 12 (sym e ∙ ap (λ x. x.stop) (own_refused (back_to v) g 12 (enters_unrefused g s h) (rw off))))
