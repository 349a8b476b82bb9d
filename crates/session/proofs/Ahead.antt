-- A look from the state that a session holds: forward, and back again by the steps made, which gives back every word.
use mathlib.Core.Path.{◌≡◌, refl, sym, ap, ◌∙◌, subst}
use mathlib.Core.List.{List}
use Rattle.std.specs.Prelude.{Ok}
use Prim.Native.Nat.{ℕ}
use Rattle.term.specs.Table.{table_in}
use Rattle.machine.specs.Machine.{State}
use Rattle.calls.specs.Session.{Given}
use Rattle.calls.specs.Stops.{forward, back, moment_of, room}
use Rattle.calls.specs.Winding.{wind}
use Rattle.calls.specs.Calls.{Enters, forward_of}
use Rattle.calls.specs.Looks.{look_of}
use Rattle.calls.specs.Moves.{by}
use Rattle.calls.specs.Demand.{left_by, given_to}
use Rattle.calls.specs.Trips.{back_by}
use Rattle.calls.proofs.Entering.{enters_unrefused}
use Rattle.calls.proofs.Looks.{look_tells}
use Rattle.calls.proofs.RoundTrip.{left_enters, round_trip}
use Rattle.session.specs.Types.{session_meant, walk_meant, look_meant, lent}
use Rattle.session.specs.Steps.{TokenAt, Ready}
use Rattle.session.specs.Passes.{Winds}
use Rattle.session.specs.Looks.{told_from}
use Rattle.session.specs.declared.Session as Declared
use Rattle.session.specs.declared.Outcome as Came
use Rattle.session.specs.declared.winding.Way.TheVariants.{Forward, Back}
use Rattle.session.proofs.Calls.{winds_from}

module _ {w : List ℕ} {n : ℕ} {se : Declared.Session} {ls ts : List ℕ} {s : State} (h : TokenAt w n se ls ts s) (count : ℕ)
    (o : Came.Outcome) (ls₁ ts₁ : List ℕ) (winds : Winds w n se ls ts Forward count o ls₁ ts₁) where
  abbrev given : Given
  given = lent w n se ls ts

  came : walk_meant o ls₁ ts₁ ≡ forward_of given count
  came = winds_from (by forward count) w n se ls ts h refl o ls₁ ts₁ winds

  -- where it came to there is a state again
  abbrev there : State
  there = (wind forward (table_in w n) (room ls ts) count (moment_of (session_meant se) s)).last.state

  token_there : TokenAt w n o.session ls₁ ts₁ there
  token_there = record { enters = subst (λ x. Enters (given_to w n (left_by x)) there) (sym came) (left_enters given count s h.enters) }

  pub there_ready : Ready w n o.session ls₁ ts₁
  there_ready = record { state = there; token = token_there }

  module _ (a : Came.Outcome) (ls₂ ts₂ : List ℕ) (winds_back : Winds w n o.session ls₁ ts₁ Back o.steps a ls₂ ts₂) where
    returned : walk_meant a ls₂ ts₂ ≡ back_by given (forward_of given count)
    returned = winds_from (by back o.steps) w n o.session ls₁ ts₁ token_there refl a ls₂ ts₂ winds_back ∙ ap (back_by given) came

    -- every word as given
    pub home_again : (ls₂ ≡ ls) × (ts₂ ≡ ts)
    home_again = (ap (λ x. x.log) returned ∙ (round_trip given count).log_is, ap (λ x. x.tape) returned ∙ (round_trip given count).tape_is)

    pub looks_ahead : look_meant (Ok (told_from o se.position count)) ls₂ ts₂ ≡ look_of given count
    looks_ahead =
        (λ i. record {
          steps = (came i).steps;
          stop = (came i).stop;
          peak = (came i).peak;
          carried = (came i).carried;
          position = se.position;
          count = count;
          log = home_again.0 i;
          tape = home_again.1 i;
        })
        ∙ sym (look_tells given count (enters_unrefused given s h.enters))
