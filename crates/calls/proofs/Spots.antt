-- The kinds of call to a spot: forward by a count to the next visit, and back to the last one.
use mathlib.Core.Path.{◌≡◌, refl, sym, ◌∙◌, subst}
use mathlib.Core.Logic.{inl, inr}
use Prim.Native.Nat.{ℕ, ◌+◌, ◌-◌, ◌≤◌, ◌<◌, min}
use native.Mathlib.Nat.{add-zero}
use native.Mathlib.Omega.{arith}
use Rattle.term.specs.Table.{Table}
use Rattle.machine.specs.Machine.{State}
use Rattle.machine.proofs.Sums.{over_none, between_down}
use Rattle.calls.specs.Session.{Stop, Given}
use Rattle.calls.specs.Stops.{forward, back, Moment, moment_after, Room}
use Rattle.calls.specs.Winding.{Run, ended, wind}
use Rattle.calls.specs.Visits.{Spot, visit_number, back_to_of, forward_to_of, VisitAfter, found_by, Sought, visited, unvisited}
use Rattle.calls.specs.Allowed.{allowed}
use Rattle.calls.specs.Visited.{VisitedAt, LastBefore, FirstAfter}
use Rattle.calls.specs.Moves.{back_to, forward_to, course}
use Rattle.calls.proofs.Stops.{IsStop}
use Rattle.calls.proofs.Winds.{wind_is_stop}
use Rattle.calls.proofs.Visits.{reaches, sought, sought_back, each_sought, found_not_none}
use Rattle.calls.proofs.Visited.{stood_on, stands_on, last_found, last_none, next_found, next_none}
use Rattle.calls.proofs.MoveLaws.{shaped, Stood, Arrives, Takes, MoveLaws}
use Rattle.calls.proofs.Counts.{forward_not_back, counted, stops_there, forward_state, off, forward_arrives, back_arrives, back_state}

module _ (T : Table) (r : Room) (s₀ : State) where
  -- the same walk, as found
  found_arrives : {p q : ℕ} {run : Run} → Arrives T r s₀ p q run → Arrives T r s₀ p q (found_by run)
  found_arrives a = record { trail = a.trail; steps_are = a.steps_are; carried_is = a.carried_is }

  module _ (p : ℕ) (s : State) (h : Stood T r s₀ p (moment_after T s₀ p s)) (v : Spot) where
    abbrev now : Moment
    now = moment_after T s₀ p s

    -- Forward: every visit that the count reaches is one on the way.
    module _ (c : ℕ) where
      abbrev most : ℕ
      most = p + allowed T s₀ r c p

      on_the_way : (i : ℕ) → p < i → i ≤ most → VisitedAt T s₀ v i → VisitAfter forward T r v c now (i - p)
      on_the_way i a l g =
          let k : (wind forward T r c now).steps ≡ allowed T s₀ r c p = counted T r s₀ p s h c in
          let e : i ≡ p + (i - p) = omega arith in
          let near : i - p ≤ (wind forward T r c now).steps = omega arith in
          (omega arith, near, stands_on T s₀ v (p + (i - p)) (forward_state T r s₀ p s h c (i - p) near) (subst (VisitedAt T s₀ v) e g))

      abbrev Forward : Run → Type 0
      Forward run = Takes T r s₀ forward p (course T s₀ r (forward_to v c) p) run

      forward_takes : {run : Run} → Sought forward T r v c now (wind forward T r c now) run → Forward run
      forward_takes (visited k f e) =
          subst Forward (sym e)
          (rw (next_found T s₀ v (allowed T s₀ r c p) p (p + k) first_after)
          (record {
            arrives = subst (λ i. Arrives T r s₀ p (p + i) (found_by (wind forward T r k now))) all (found_arrives (forward_arrives T r s₀ p s h k));
            unhindered = λ x. tt;
            stop_says = record {
              found_first = λ _. first_after;
              else_unvisited = λ no. absurd (no refl);
              else_there = λ no. absurd (no refl);
              else_stops = λ no. absurd (no refl);
            };
          }))
        where
          all : allowed T s₀ r k p ≡ k
          all = sym (counted T r s₀ p s h k) ∙ reaches forward T r c now k f.visit.1

          first_after : FirstAfter T s₀ v p most (p + k)
          first_after =
              let (some_step, within, there) = f.visit in
              let e : (wind forward T r c now).steps ≡ allowed T s₀ r c p = counted T r s₀ p s h c in
              record {
                later = omega arith;
                within = omega arith;
                visited = stood_on T s₀ v (p + k) (forward_state T r s₀ p s h c k within) there;
                first = λ i a l g. f.first (i - p) (omega arith) (on_the_way i a (omega arith) g);
              }
      forward_takes (unvisited away e) =
          subst Forward (sym e)
          (rw (next_none T s₀ v (allowed T s₀ r c p) p unseen)
          (record {
            arrives = forward_arrives T r s₀ p s h c;
            unhindered = λ x. absurd (forward_not_back x);
            stop_says = record {
              found_first = λ x. absurd (subst IsStop x (wind_is_stop forward T r c now));
              else_unvisited = λ _. unseen;
              else_there = λ _. refl;
              else_stops = λ _. stops_there T r s₀ p s h c;
            };
          }))
        where
          unseen : (i : ℕ) → p < i → i ≤ most → VisitedAt T s₀ v i → ⊥
          unseen i a l g = away (i - p) (on_the_way i a l g)

    -- Back, where the search goes all the way to position 0.
    all_the_way : (wind back T r p now).steps ≡ p
    all_the_way = (off T r s₀ p s h p).steps_are ∙ omega arith

    on_the_way_back : (i : ℕ) → i < p → VisitedAt T s₀ v i → VisitAfter back T r v p now (p - i)
    on_the_way_back i l g =
        let e : i ≡ p - (p - i) = omega arith in
        let k : (wind back T r p now).steps ≡ p = all_the_way in
        (omega arith, omega arith, stands_on T s₀ v (p - (p - i)) (back_state T r s₀ p s h (p - i) (omega arith)) (subst (VisitedAt T s₀ v) e g))

    abbrev Back : Run → Type 0
    Back run = Takes T r s₀ back p (course T s₀ r (back_to v) p) run

    back_takes : {run : Run} → Sought back T r v p now (ended T now Stop.none) run → Back run
    back_takes (visited k f e) =
        subst Back (sym e)
        (rw (last_found T s₀ v p (p - k) last_before)
        (record {
          arrives = subst (λ i. Arrives T r s₀ p (p - i) (found_by (wind back T r k now))) all (found_arrives (back_arrives T r s₀ p s h k));
          unhindered = λ x. tt;
          stop_says = record {
            found_or_none = inl refl;
            found_last = λ _. last_before;
            none_exactly = (λ x. absurd (found_not_none x), λ away. absurd (away (p - k) last_before.earlier last_before.visited));
            none_stays = λ x. absurd (found_not_none x);
          };
        }))
      where
        short : k ≤ p
        short = let l = f.visit.1 in let e : (wind back T r p now).steps ≡ p = all_the_way in omega arith

        all : min k p ≡ k
        all = let l : k ≤ p = short in omega arith

        last_before : LastBefore T s₀ v p (p - k)
        last_before =
            let (some_step, within, there) = f.visit in
            let l : k ≤ p = short in
            record {
              earlier = omega arith;
              visited = stood_on T s₀ v (p - k) (back_state T r s₀ p s h k l) there;
              last = λ i a g x. f.first (p - i) (omega arith) (on_the_way_back i g x);
            }
    back_takes (unvisited away e) =
        subst Back (sym e)
        (rw (last_none T s₀ v p unseen)
        (record {
          arrives = record {
            trail = h.trail;
            steps_are = omega arith;
            carried_is = sym (over_none T s₀ p) ∙ between_down T s₀ 0 p p (add-zero p);
          };
          unhindered = λ x. tt;
          stop_says = record {
            found_or_none = inr refl;
            found_last = λ x. absurd (found_not_none (sym x));
            none_exactly = (λ _. unseen, λ _. refl);
            none_stays = λ _. refl;
          };
        }))
      where
        unseen : (i : ℕ) → i < p → VisitedAt T s₀ v i → ⊥
        unseen i l g = away (p - i) (on_the_way_back i l g)

forward_to_shape : (v : Spot) (c : ℕ) (g : Given) → forward_to_of g v c ≡ shaped (forward_to v c) g
unfolding forward_to_of visit_number
forward_to_shape v c g = refl

back_to_shape : (v : Spot) (g : Given) → back_to_of g v ≡ shaped (back_to v) g
unfolding back_to_of visit_number
back_to_shape v g = refl

pub forward_to_laws : (v : Spot) (c : ℕ) → MoveLaws (forward_to v c)
forward_to_laws v c = record {
  names = λ n p. (omega arith, tt);
  shape = forward_to_shape v c;
  walks = λ T r P x w. each_sought P (λ k f. w.found k) (w.walk c) (sought forward T r v c x);
  takes = λ T r s₀ p s h. forward_takes T r s₀ p s h v c (sought forward T r v c (moment_after T s₀ p s));
}

pub back_to_laws : (v : Spot) → MoveLaws (back_to v)
back_to_laws v = record {
  names = λ n p. (omega arith, tt);
  shape = back_to_shape v;
  walks = λ T r P x w. each_sought P (λ k f. w.found k) w.none (sought_back T r v x);
  takes = λ T r s₀ p s h. back_takes T r s₀ p s h v (sought_back T r v (moment_after T s₀ p s));
}
