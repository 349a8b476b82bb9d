-- The kinds of call that go by a number of steps: forward and back by a count, go-to, and go.
use mathlib.Core.Path.{◌≡◌, refl, ap, ◌∙◌, subst}
use mathlib.Core.Bool.{Bool, true, false, cond}
use mathlib.Core.Option.{Option, none, some}
use Prim.Native.Nat.{ℕ, ◌+◌, ◌-◌, ◌≤◌, min, zero-le}
use native.Mathlib.Omega.{arith}
use lib.Dec.{leb}
use Rattle.term.specs.Choice.{choose}
use Rattle.term.specs.Table.{Table}
use Rattle.machine.specs.Machine.{State, after_from}
use Rattle.machine.specs.Carried.{carried_over}
use Rattle.machine.proofs.Sums.{between_up, between_down}
use Rattle.calls.specs.Session.{Given}
use Rattle.calls.specs.Stops.{Way, forward, back, Moment, moment_of, beginning, moment_after, Room, room}
use Rattle.calls.specs.Winding.{Run, wind}
use Rattle.calls.specs.Calls.{state_given, call_number, wound, outcome_by, wind_of, go_to_of}
use Rattle.calls.specs.Allowed.{stop_after, allowed}
use Rattle.calls.specs.Looks.{go_number, go_of}
use Rattle.calls.specs.Moves.{by, go_to, go, way_of, Course, course}
use Rattle.calls.proofs.Unrefused.{go_none}
use Rattle.calls.proofs.Runs.{Trail, trail_after, On, forward_on, forward_counted, forward_stops, Off, back_off}
use Rattle.calls.proofs.Visits.{reaches}
use Rattle.calls.proofs.MoveLaws.{move_number, shaped, OfWalks, Stood, Arrives, Takes, MoveLaws}

abbrev IsForward : Way → Type 0
IsForward forward = Unit
IsForward back = ⊥

pub forward_not_back : forward ≡ back → ⊥
forward_not_back e = subst IsForward e tt

module _ (T : Table) (r : Room) (s₀ : State) (p : ℕ) (s : State) (h : Stood T r s₀ p (moment_after T s₀ p s)) where
  abbrev now : Moment
  now = moment_after T s₀ p s

  module _ (c : ℕ) where
    pub counted : (wind forward T r c now).steps ≡ allowed T s₀ r c p
    counted = forward_counted T r s₀ c now p h.trail

    -- the stop that comes then
    pub stops_there : stop_after T s₀ r (c - allowed T s₀ r c p) (p + allowed T s₀ r c p) ≡ some (wind forward T r c now).stop
    stops_there = subst (λ k. stop_after T s₀ r (c - k) (p + k) ≡ some (wind forward T r c now).stop) counted (forward_stops T r s₀ c now p h.trail)

    -- the states along a call forward
    pub forward_state : (j : ℕ) → j ≤ (wind forward T r c now).steps → after_from T s₀ (p + j) ≡ some (wind forward T r j now).last.state
    forward_state j l =
        trail_after T r (beginning s₀)
        (subst (λ i. Trail T r (beginning s₀) (p + i) (wind forward T r j now).last) (reaches forward T r c now j l) (forward_on T r (beginning s₀) j now p h.trail).trail)

    pub off : Off T r (beginning s₀) c p (wind back T r c now)
    off = back_off T r (beginning s₀) h.facts h.good h.fits zero-le c h.trail (λ l. refl)

    pub forward_arrives : Arrives T r s₀ p (p + allowed T s₀ r c p) (wind forward T r c now)
    forward_arrives = record {
      trail = subst (λ k. Trail T r (beginning s₀) (p + k) (wind forward T r c now).last) counted on.trail;
      steps_are = counted ∙ omega arith;
      carried_is = on.carried_is ∙ ap (λ k. carried_over T s₀ k p) counted ∙ between_up T s₀ (allowed T s₀ r c p) p;
    }
      where
        on : On T r (beginning s₀) p (wind forward T r c now)
        on = forward_on T r (beginning s₀) c now p h.trail

    pub back_arrives : Arrives T r s₀ p (p - min c p) (wind back T r c now)
    back_arrives = record {
      trail = off.trail;
      steps_are = off.steps_are ∙ omega arith;
      carried_is = off.carried_is ∙ between_down T s₀ (min c p) p (p - min c p) (omega arith);
    }

  -- and along a call back
  pub back_state : (j : ℕ) → j ≤ p → after_from T s₀ (p - j) ≡ some (wind back T r j now).last.state
  back_state j l = let e : min j p ≡ j = omega arith in trail_after T r (beginning s₀) (subst (λ i. Trail T r (beginning s₀) (p - i) (wind back T r j now).last) e (off j).trail)

  count_takes : (way : Way) (c : ℕ) → Takes T r s₀ way p (course T s₀ r (by way c) p) (wind way T r c now)
  count_takes forward c = record { arrives = forward_arrives c; unhindered = λ x. absurd (forward_not_back x); stop_says = tt }
  count_takes back c = record { arrives = back_arrives c; unhindered = λ x. (off c).unhindered; stop_says = tt }

  -- one way or the other, as the course of go-to has it
  abbrev sideways : ℕ → Bool → Course
  sideways q d = record { to = choose d (λ _. p + allowed T s₀ r (q - p) p) (λ _. p - min (p - q) p); says = λ x. Unit }

  go_to_takes : (q : ℕ) → Takes T r s₀ (way_of (go_to q) p) p (course T s₀ r (go_to q) p) (choose (leb p q) (λ _. wind forward T r (q - p) now) (λ _. wind back T r (p - q) now))
  go_to_takes q = by_side (leb p q)
    where
      by_side : (d : Bool) → Takes T r s₀ (cond d forward back) p (sideways q d) (choose d (λ _. wind forward T r (q - p) now) (λ _. wind back T r (p - q) now))
      by_side true = record { arrives = forward_arrives (q - p); unhindered = λ x. absurd (forward_not_back x); stop_says = tt }
      by_side false = record { arrives = back_arrives (p - q); unhindered = λ x. (off (p - q)).unhindered; stop_says = tt }

-- They put no tests of their own.
count_shape : (way : Way) (c : ℕ) (g : Given) → wind_of way g c ≡ shaped (by way c) g
unfolding wind_of call_number
count_shape way c g = refl

-- Two walks that are the same from each state at the session's position are wound alike.
same_walks : (o : Option ℕ) (st : Option State) (g : Given) (f h : Moment → Run) → ((s : State) → f (moment_of g.session s) ≡ h (moment_of g.session s))
    → outcome_by o st g f ≡ outcome_by o st g h
same_walks (some k) st g f h e = refl
same_walks none (some s) g f h e = ap (wound (room g.log g.tape)) (e s)
same_walks none none g f h e = refl

go_to_shape : (q : ℕ) (g : Given) → go_to_of g q ≡ shaped (go_to q) g
unfolding go_to_of
go_to_shape q g = by_side (leb g.session.position q) refl
  where
    by_side : (d : Bool) → leb g.session.position q ≡ d → go_to_of g q ≡ shaped (go_to q) g
    by_side true e = rw e (count_shape forward (q - g.session.position) g ∙ same_walks (move_number (go_to q) g) (state_given g) g _ _ (λ s. rw e))
    by_side false e = rw e (count_shape back (g.session.position - q) g ∙ same_walks (move_number (go_to q) g) (state_given g) g _ _ (λ s. rw e))

-- Go puts a test of its own, and then winds forward.
go_shape : (q c : ℕ) (g : Given) → go_of g q c ≡ shaped (go q c) g
unfolding go_of go_number wind_of
go_shape q c g = by_number (go_number q g) refl
  where
    by_number : (o : Option ℕ) → go_number q g ≡ o → go_of g q c ≡ shaped (go q c) g
    by_number (some k) e = rw e
    by_number none e = rw (e, go_none q g e)

-- what holds of the walks one way holds of go-to that way
go_to_walks : (T : Table) (r : Room) (P : Run → Type 0) (x : Moment) (i j : ℕ) (d : Bool) → OfWalks (cond d forward back) T r P x → P (choose d (λ _. wind forward T r i x) (λ _. wind back T r j x))
go_to_walks T r P x i j true w = w.walk i
go_to_walks T r P x i j false w = w.walk j

pub count_laws : (way : Way) (c : ℕ) → MoveLaws (by way c)
count_laws way c = record {
  names = λ n p. tt;
  shape = count_shape way c;
  walks = λ T r P x w. w.walk c;
  takes = λ T r s₀ p s h. count_takes T r s₀ p s h way c;
}

pub go_to_laws : (q : ℕ) → MoveLaws (go_to q)
go_to_laws q = record {
  names = λ n p. tt;
  shape = go_to_shape q;
  walks = λ T r P x w. go_to_walks T r P x (q - x.position) (x.position - q) (leb x.position q) w;
  takes = λ T r s₀ p s h. go_to_takes T r s₀ p s h q;
}

pub go_laws : (q c : ℕ) → MoveLaws (go q c)
go_laws q c = record {
  names = λ n p. (omega arith, tt);
  shape = go_shape q c;
  walks = λ T r P x w. w.walk c;
  takes = λ T r s₀ p s h. count_takes T r s₀ p s h forward c;
}
