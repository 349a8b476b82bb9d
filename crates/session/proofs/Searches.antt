-- Searches from the state that a session holds: for node 0, which is the walk by its count; and back, found, or the whole way forward again, and none.
use mathlib.Core.Path.{◌≡◌, refl, sym, ap, ◌∙◌, subst}
use mathlib.Core.Bool.{false, true≢false}
use mathlib.Core.List.{List}
use Prim.Native.Nat.{ℕ, ◌≤◌}
use Rattle.term.specs.Table.{Table, table_in}
use Rattle.term.specs.Facts.{Facts}
use Rattle.term.proofs.Facts.{accepted_facts}
use Rattle.machine.specs.Machine.{Dir, down, State}
use Rattle.machine.specs.Good.{Good}
use Rattle.calls.specs.Session.{Stop, spent}
use Rattle.calls.specs.Stops.{Way, forward, back, Moment, moment_of, Room, room, greatest}
use Rattle.calls.specs.Winding.{Run, ended, wind}
use Rattle.calls.specs.Calls.{Enters, wound}
use Rattle.calls.specs.Visits.{Spot, spot, seek, is_found, seek_back, Sought, visited, unvisited}
use Rattle.calls.specs.Demand.{Standing, given_to}
use Rattle.calls.proofs.Stops.{Fits}
use Rattle.calls.proofs.Moments.{FewTurns}
use Rattle.calls.proofs.Visits.{wind_none, sought, each_sought}
use Rattle.calls.proofs.Retrace.{backed, again}
use Rattle.calls.proofs.Nowhere.{nowhere_found}
use Rattle.calls.proofs.Entering.{enters_fits, laid_down, held_laid_down, laid_room, laid_enters}
use Rattle.session.specs.Types.{way_meant, session_meant, stop_meant, walk_meant}
use Rattle.session.specs.Steps.{TokenAt, Ready}
use Rattle.session.specs.Passes.{halted_by, Winds}
use Rattle.session.specs.Visits.{Seeks}
use Rattle.session.specs.declared.Session as Declared
use Rattle.session.specs.declared.Outcome as Came
use Rattle.session.specs.declared.Stop as DeclaredStop
use Rattle.session.specs.declared.Stop.TheVariants.{Spent, Answer, Jam, Far, Start, LogFull, TapeFull, Found, None}
use Rattle.session.specs.declared.winding.Way as DeclaredWay
use Rattle.session.specs.declared.winding.Way.TheVariants.{Forward}

module _ {w : List ℕ} {n : ℕ} {se : Declared.Session} {ls ts : List ℕ} {s : State} (h : TokenAt w n se ls ts s) where
  abbrev T : Table
  T = table_in w n

  abbrev r : Room
  r = room ls ts

  abbrev here : Moment
  here = moment_of (session_meant se) s

  abbrev given : Standing
  given = record { session = session_meant se; log = ls; tape = ts }

  facts : Facts T
  facts = accepted_facts w n h.enters.accepted_table

  good : Good T s
  good = h.enters.holds.good

  fits : Fits r s
  fits = enters_fits _ s h.enters

  few : FewTurns here
  few = h.enters.holds.turns_fit

  -- no spot at all
  search_nowhere : (way : Way) (d : Dir) (count : ℕ) → seek way T r (spot 0 d) count here ≡ wind way T r count here
  search_nowhere way d count = nowhere_found T r facts here good fits few way d count

  -- back to a spot
  module _ (v : Spot) where
    abbrev searched : Run
    searched = seek back T r v se.position here

    last_held : Good T searched.last.state × Fits r searched.last.state × FewTurns searched.last
    last_held =
        each_sought (λ x. Good T x.last.state × Fits r x.last.state × FewTurns x.last) (λ k f. held_at k) (held_at se.position) (sought back T r v se.position here)
      where
        held_at : (c : ℕ) → Good T (wind back T r c here).last.state × Fits r (wind back T r c here).last.state × FewTurns (wind back T r c here).last
        held_at c = let b = backed T r facts c here good fits few in (b.good, b.fits, b.few)

    -- without a visit, forward by its steps leads to where it began
    comes_again : is_found searched.stop ≡ false → se.position ≤ greatest → (wind forward T r searched.steps searched.last).last ≡ here
    comes_again missed near = by_search (sought back T r v se.position here)
      where
        by_search : Sought back T r v se.position here (wind back T r se.position here) searched → (wind forward T r searched.steps searched.last).last ≡ here
        by_search (visited k f e) = absurd (true≢false (sym (ap (λ x. is_found x.stop) e) ∙ missed))
        by_search (unvisited away e) =
            subst (λ x. (wind forward T r x.steps x.last).last ≡ here) (sym e) (again T r facts se.position here good fits few near).last_is

    -- what the search leaves
    module _ (o : Came.Outcome) (ls₁ ts₁ : List ℕ) (came : walk_meant o ls₁ ts₁ ≡ wound r searched) where
      abbrev left : Standing
      left = record { session = session_meant o.session; log = ls₁; tape = ts₁ }

      as_left : laid_down r searched.last ≡ left
      as_left = sym (λ i. record { session = (came i).session; log = (came i).log; tape = (came i).tape })

      token_left : TokenAt w n o.session ls₁ ts₁ searched.last.state
      token_left = record {
        enters = subst (λ x. Enters (given_to w n x) searched.last.state) as_left
            (laid_enters r searched.last last_held.1 w n h.enters.accepted_table last_held.0 last_held.2 h.enters.short_log h.enters.short_tape);
      }

      pub search_ready : Ready w n o.session ls₁ ts₁
      search_ready = record { state = searched.last.state; token = token_left }

      module _ (missed : is_found (stop_meant o.stop) ≡ false) where
        unseen : is_found searched.stop ≡ false
        unseen = sym (ap (λ x. is_found x.stop) came) ∙ missed

        -- every word as given
        pub search_home : se.position ≤ greatest → (a : Came.Outcome) (ls₂ ts₂ : List ℕ) → Winds w n o.session ls₁ ts₁ Forward o.steps a ls₂ ts₂ → (ls₂ ≡ ls) × (ts₂ ≡ ts)
        search_home near a ls₂ ts₂ winds = (ap (λ x. x.log) out ∙ ap (λ x. x.log) home, ap (λ x. x.tape) out ∙ ap (λ x. x.tape) home)
          where
            same_room : room ls₁ ts₁ ≡ r
            same_room = sym (ap (λ x. room x.log x.tape) as_left) ∙ laid_room r searched.last last_held.1

            out : walk_meant a ls₂ ts₂ ≡ wound r (wind forward T r searched.steps searched.last)
            out =
                winds searched.last.state token_left
                ∙ (λ i. wound (same_room i) (wind forward T (same_room i) (came i).steps (moment_of (came i).session searched.last.state)))

            home : laid_down r (wind forward T r searched.steps searched.last).last ≡ given
            home = ap (laid_down r) (comes_again unseen near) ∙ sym (held_laid_down T given s h.enters.holds)

        -- and a walk of no step from there, as none
        pub search_none : {ls₂ ts₂ : List ℕ} → (ls₂ ≡ ls) × (ts₂ ≡ ts) → (a : Came.Outcome) (ls₃ ts₃ : List ℕ) → Winds w n se ls₂ ts₂ Forward 0 a ls₃ ts₃
            → walk_meant (halted_by a None) ls₃ ts₃ ≡ wound r (seek_back T r v here)
        search_none e a ls₃ ts₃ winds =
            let stays : Winds w n se ls ts Forward 0 a ls₃ ts₃ = rw (e.0, e.1) at winds in
            let k : walk_meant a ls₃ ts₃ ≡ wound r (ended T here spent) = rw (wind_none forward T r here) at (stays s h) in
            rw unseen (λ i. record { session = (k i).session; steps = (k i).steps; stop = Stop.none; peak = (k i).peak; carried = (k i).carried; log = (k i).log; tape = (k i).tape })

-- Every stop but one is not found.
pub not_found : (x : DeclaredStop.Stop) → (x ≡ Found → ⊥) → is_found (stop_meant x) ≡ false
not_found Found e = absurd (e refl)
not_found Spent e = refl
not_found (Answer i) e = refl
not_found Jam e = refl
not_found Far e = refl
not_found Start e = refl
not_found LogFull e = refl
not_found TapeFull e = refl
not_found None e = refl

-- A search for node 0 winds.
pub nowhere_winds : (w : List ℕ) (n : ℕ) (se : Declared.Session) (ls ts : List ℕ) (way : DeclaredWay.Way) (count : ℕ) (o : Came.Outcome) (ls' ts' : List ℕ)
    → Seeks w n se ls ts way count (spot 0 down) o ls' ts' → Winds w n se ls ts way count o ls' ts'
nowhere_winds w n se ls ts way count o ls' ts' i s h = i s h ∙ ap (wound (room ls ts)) (search_nowhere h (way_meant way) down count)
