-- Refusals: a direction above 1 is a 9, after 7 and 8, and a chosen one a 12, after 9; and every refused call gives the numbers back as they were given, with every lent word.
use mathlib.Core.Path.{◌≡◌, refl, ap, ◌∙◌}
use mathlib.Core.Bool.{Bool, true, false}
use mathlib.Core.Option.{Option, none, some}
use mathlib.Core.List.{List}
use Prim.Native.Nat.{ℕ, ◌≤◌, ◌<◌}
use lib.ListN.{length}
use Rattle.term.specs.Accepted.{Accepted, accepted}
use Rattle.term.proofs.Accepted.{accepts_all, accepts_only}
use Rattle.calls.specs.Session.{Session, Stop, refused, Outcome, Given}
use Rattle.calls.specs.Calls.{longest, lent_number, call_number, refused_outcome}
use Rattle.calls.specs.Visits.{visit_number, back_to_of, forward_to_of}
use Rattle.calls.specs.Looks.{look_of}
use Rattle.calls.specs.Moves.{Move, back_to, forward_to, outcome_of}
use Rattle.calls.specs.Demand.{RefusedCall}
use Rattle.calls.proofs.Unrefused.{lent_seven, lent_log_eight, lent_tape_eight, lent_unrefused, visit_twelve}
use Rattle.calls.proofs.Answers.{own_refused, refused_unchanged}
use Rattle.calls.proofs.Looks.{look_refused, look_refused_by}
use Rattle.face.specs.declared.HostSession.{HostSession}
use Rattle.face.specs.Numbers.{session_numbers, session_in, refused_code, stop_code, stop_value, spot_in}
use Rattle.face.specs.Told.{outcome_told, refused_told, no_session_number, called_on, called, look_told, nothing_told, look_on, look_called}
use Rattle.face.proofs.Codes.{no_direction, numbers_told, codes_injective}

-- A direction above 1, whatever the call.
module _ (call : Given → Outcome) (w : List ℕ) (n : ℕ) (s : HostSession) (ls ts : List ℕ) (h : 1 < s.direction) where
  pub direction_refused : called call w n s ls ts ≡ refused_told (no_session_number w n ls ts) s ls ts
  unfolding called
  direction_refused = rw (no_direction s.direction h)

  as_lent : (k : ℕ) → lent_number w n ls ts ≡ some k → called call w n s ls ts ≡ refused_told k s ls ts
  as_lent k e = rw e at direction_refused

  pub direction_seven : ¬ (Accepted w n) → called call w n s ls ts ≡ refused_told 7 s ls ts
  direction_seven unaccepted = by_table (accepted w n) refl
    where
      by_table : (b : Bool) → accepted w n ≡ b → called call w n s ls ts ≡ refused_told 7 s ls ts
      by_table true a = absurd (unaccepted (accepts_only w n a))
      by_table false a = as_lent 7 (lent_seven w n ls ts a)

  module _ (table : Accepted w n) where
    pub direction_log_eight : longest < length ls → called call w n s ls ts ≡ refused_told 8 s ls ts
    direction_log_eight long = as_lent 8 (lent_log_eight w n ls ts (accepts_all w n table) long)

    pub direction_tape_eight : longest < length ts → called call w n s ls ts ≡ refused_told 8 s ls ts
    direction_tape_eight long = as_lent 8 (lent_tape_eight w n ls ts (accepts_all w n table) long)

    pub direction_nine : length ls ≤ longest → length ts ≤ longest → called call w n s ls ts ≡ refused_told 9 s ls ts
    direction_nine short_log short_tape =
        rw (lent_unrefused w n ls ts (accepts_all w n table) short_log short_tape) at direction_refused

-- A chosen direction above 1, whatever the node: 12 where none of 7 to 9 applies, and else that one (`move_refused`, proofs/Answers.antt of `calls`).
module _ (g : Given) (i k : ℕ) (h : 1 < k) (e : call_number g ≡ none) where
  pub no_spot : visit_number (spot_in i k).node g ≡ some 12
  no_spot = visit_twelve (spot_in i k).node g e (rw (no_direction k h))

  pub back_to_no_spot : back_to_of g (spot_in i k) ≡ refused_outcome 12 g
  back_to_no_spot = own_refused (back_to (spot_in i k)) g 12 e (rw (no_direction k h))

  pub forward_to_no_spot : (c : ℕ) → forward_to_of g (spot_in i k) c ≡ refused_outcome 12 g
  forward_to_no_spot c = own_refused (forward_to (spot_in i k) c) g 12 e (rw (no_direction k h))

-- Its code is a refusal's alone.
pub refusal_coded : (x : Stop) → stop_code x ≡ refused_code → x ≡ refused (stop_value x)
refusal_coded x e = codes_injective x (refused (stop_value x)) e refl

-- A refused outcome, told.
pub refused_told_lem : {g : Given} {o : Outcome} (k : ℕ) → o.stop ≡ refused k → RefusedCall g o → outcome_told o ≡ refused_told k (session_numbers g.session) g.log g.tape
refused_told_lem k e h = λ i. (
  record {
    session = session_numbers (h.session_is i);
    steps = h.no_steps i;
    stop = stop_code (e i);
    value = stop_value (e i);
    value2 = 0;
    peak = h.no_peak i;
    carried = h.nothing_carried i;
  },
  h.log_is i,
  h.tape_is i,
)

-- The calls that wind, whatever the number.
module _ (m : Move) (w : List ℕ) (n : ℕ) (s : HostSession) (ls ts : List ℕ) where
  on_session : (o : Option Session) → ((se : Session) → o ≡ some se → session_numbers se ≡ s) → (called_on o (λ g. outcome_of m g) w n s ls ts).0.stop ≡ refused_code
      → called_on o (λ g. outcome_of m g) w n s ls ts ≡ refused_told (called_on o (λ g. outcome_of m g) w n s ls ts).0.value s ls ts
  on_session none same e = refl
  on_session (some se) same e =
      let g : Given = record { table = w; n = n; session = se; log = ls; tape = ts } in
      let o : Outcome = outcome_of m g in
      let is_refused : o.stop ≡ refused (stop_value o.stop) = refusal_coded o.stop e in
      refused_told_lem (stop_value o.stop) is_refused (refused_unchanged m g (stop_value o.stop) is_refused) ∙ ap (λ x. refused_told (stop_value o.stop) x ls ts) (same se refl)

  pub refusal_gives_back : (called (λ g. outcome_of m g) w n s ls ts).0.stop ≡ refused_code
      → called (λ g. outcome_of m g) w n s ls ts ≡ refused_told (called (λ g. outcome_of m g) w n s ls ts).0.value s ls ts
  unfolding called
  refusal_gives_back e = on_session (session_in s) (numbers_told s) e

-- A refused look, whatever the number: both slices as they were lent, and every number 0 but the stop and the refusal's.
module _ (c : ℕ) (w : List ℕ) (n : ℕ) (s : HostSession) (ls ts : List ℕ) where
  look_on_session : (o : Option Session) → (look_on o w n ls ts c).0.stop ≡ refused_code → (k : ℕ) × (look_on o w n ls ts c ≡ nothing_told k ls ts)
  look_on_session none e = (no_session_number w n ls ts, refl)
  look_on_session (some se) e =
      let g : Given = record { table = w; n = n; session = se; log = ls; tape = ts } in
      let (k, is) = look_refused_by g c (stop_value (look_of g c).stop) (refusal_coded (look_of g c).stop e) in
      (k, ap (λ l. look_told l) (look_refused g c k is))

  pub look_refused_told : (look_called w n s ls ts c).0.stop ≡ refused_code → (k : ℕ) × (look_called w n s ls ts c ≡ nothing_told k ls ts)
  unfolding look_called
  look_refused_told e = look_on_session (session_in s) e

  -- a direction above 1: 9, after 7 and 8
  pub look_direction_refused : 1 < s.direction → look_called w n s ls ts c ≡ nothing_told (no_session_number w n ls ts) ls ts
  unfolding look_called
  look_direction_refused h = rw (no_direction s.direction h)
