-- The law behind the calls that wind: a call made with `made_with`, its outcome told by `given_back`, is the call on the session that the numbers stand for.
use mathlib.Core.Path.{◌≡◌, refl, sym, ap, ◌∙◌}
use mathlib.Core.Bool.{Bool, true, false}
use mathlib.Core.Option.{Option, none, some}
use mathlib.Core.List.{List}
use Prim.Native.Nat.{ℕ, zero, suc}
use native.Mathlib.Omega.{arith}
use lib.Dec.{eqb}
use borrow.Author.Tests.{lt-ltb, eqb-true}
use Rattle.calls.specs.Session.{Session, refused, Outcome, Given}
use Rattle.calls.specs.Held.{well_formed, state_in}
use Rattle.calls.specs.Calls.{lent_number, state_given, call_number}
use Rattle.calls.specs.Moves.{Move, outcome_of}
use Rattle.calls.proofs.Unrefused.{call_as_lent, call_nine}
use Rattle.calls.proofs.Answers.{move_refused, refused_unchanged}
use Rattle.face.specs.declared.HostSession.{HostSession}
use Rattle.face.specs.declared.HostOutcome.{HostOutcome}
use Rattle.face.specs.Numbers.{session_numbers, refused_code, stop_code, stop_value}
use Rattle.face.specs.Told.{told_with, outcome_told, no_session_number, called}
use Rattle.yildreuz.specs.Given.{made_with, kept_session, given_back}
use Rattle.face.proofs.Codes.{toward}
use Rattle.face.proofs.Refusals.{refusal_coded}

-- Node 0 holds no state, so 9 applies where 7 and 8 do not.
at_node_0 : (g : Given) → g.session.node ≡ 0 → state_given g ≡ none
unfolding state_in well_formed
at_node_0 g e = rw e

pub nowhere : (g : Given) → g.session.node ≡ 0 → call_number g ≡ some (no_session_number g.table g.n g.log g.tape)
nowhere g e = by_lent (lent_number g.table g.n g.log g.tape) refl
  where
    by_lent : (o : Option ℕ) → lent_number g.table g.n g.log g.tape ≡ o → call_number g ≡ some (no_session_number g.table g.n g.log g.tape)
    by_lent none h = rw h (call_nine g h (at_node_0 g e))
    by_lent (some k) h = rw h (call_as_lent g k h)

-- A refused call gives back the session it was given, and so its numbers.
given_told : (s : HostSession) (o : Outcome) → ((k : ℕ) → o.stop ≡ refused k → session_numbers o.session ≡ s) → given_back s o ≡ outcome_told o
given_told s o back = ap (λ z. told_with z o) (by_code (eqb (stop_code o.stop) refused_code) refl)
  where
    by_code : (b : Bool) → eqb (stop_code o.stop) refused_code ≡ b → kept_session s (stop_code o.stop) (session_numbers o.session) ≡ session_numbers o.session
    by_code true e = rw e (sym (back (stop_value o.stop) (refusal_coded o.stop (eqb-true (stop_code o.stop) refused_code e))))
    by_code false e = rw e

module _ (m : Move) (w : List ℕ) (n : ℕ) (s : HostSession) (ls ts : List ℕ) where
  abbrev given : ℕ → Given
  given d = record { table = w; n = n; session = made_with (toward s d); log = ls; tape = ts }

  given_as : (d : ℕ) → session_numbers (made_with (toward s d)) ≡ toward s d → given_back (toward s d) (outcome_of m (given d)) ≡ outcome_told (outcome_of m (given d))
  given_as d same = given_told (toward s d) (outcome_of m (given d)) (λ k e. ap session_numbers (refused_unchanged m (given d) k e).session_is ∙ same)

  by_direction : (d : ℕ) → called (λ g. outcome_of m g) w n (toward s d) ls ts ≡ given_back (toward s d) (outcome_of m (given d))
  unfolding called
  by_direction zero = sym (given_as zero refl)
  by_direction (suc zero) = sym (given_as (suc zero) refl)
  by_direction (suc (suc k)) =
      let nowhere_0 : (given (suc (suc k))).session.node ≡ 0 = rw (lt-ltb 1 (suc (suc k)) (omega arith)) in
      sym (ap (given_back (toward s (suc (suc k)))) (move_refused m (given (suc (suc k))) (no_session_number w n ls ts) (nowhere (given (suc (suc k))) nowhere_0)))

  called_so : called (λ g. outcome_of m g) w n s ls ts ≡ given_back s (outcome_of m (given s.direction))
  called_so = by_direction s.direction

  -- as the code goes about it
  pub told_so : {r : HostOutcome × List ℕ × List ℕ} {o : Outcome} {se : Session} → r ≡ given_back s o
      → o ≡ outcome_of m (record { table = w; n = n; session = se; log = ls; tape = ts }) → se ≡ made_with s
      → r ≡ called (λ g. outcome_of m g) w n s ls ts
  told_so p q e = p ∙ ap (given_back s) (q ∙ ap (λ z. outcome_of m (record { table = w; n = n; session = z; log = ls; tape = ts })) e) ∙ sym called_so
