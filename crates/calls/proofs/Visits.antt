-- The search for a spot: it ends at the first visit among the steps that the call by its count makes, and else as that call.
use mathlib.Core.Path.{◌≡◌, refl, sym, ap, ◌∙◌, subst}
use mathlib.Core.Bool.{Bool, true, false, and-eq-true_iff, false≢true}
use mathlib.Core.Option.{Option, none, some}
use Prim.Native.Nat.{ℕ, zero, suc, ◌≤◌, zero-le}
use native.Mathlib.Omega.{arith}
use lib.Dec.{eqb-suc-zero}
use borrow.Author.Tests.{eqb-true, eq-eqb}
use Rattle.term.specs.Table.{Table}
use Rattle.machine.specs.Machine.{Dir, down, up, State}
use Rattle.calls.specs.Session.{Stop, spent, jam, far, start, log_full, tape_full, found, answer, refused}
use Rattle.calls.specs.Stops.{Way, forward, back, Moment, Room, next_by, stop_before}
use Rattle.calls.specs.Winding.{Run, ended, longer, wind}
use Rattle.calls.specs.Visits.{Spot, StandsOn, same_dir, is_on, seek, is_found, found_or_none, seek_back, VisitAfter, FirstVisit, found_by, Sought, visited, unvisited}
use Rattle.calls.proofs.Stops.{IsStop}
use Rattle.calls.proofs.Winds.{has_next, each_run, wind_is_stop}

-- The test of a visit, and the visit.
dirs_same : (d e : Dir) → same_dir d e ≡ true → d ≡ e
dirs_same down down h = refl
dirs_same down up h = absurd (false≢true h)
dirs_same up down h = absurd (false≢true h)
dirs_same up up h = refl

same_itself : (d : Dir) → same_dir d d ≡ true
same_itself down = refl
same_itself up = refl

module _ (v : Spot) (s : State) where
  pub on_spot : is_on v s ≡ true → StandsOn v s
  on_spot h =
      let tests = simp and-eq-true_iff at h in
      record { node_is = eqb-true s.node v.node tests.0; dir_is = dirs_same s.dir v.dir tests.1 }

  pub is_on_lem : StandsOn v s → is_on v s ≡ true
  is_on_lem h = rw (h.node_is, h.dir_is, eq-eqb v.node v.node refl) (same_itself v.dir)

  pub off_spot : is_on v s ≡ false → StandsOn v s → ⊥
  off_spot h k = false≢true (sym h ∙ is_on_lem k)

-- Of a count that is not used up the tests take no notice.
stop_any : (way : Way) (T : Table) (r : Room) (c d : ℕ) (m : Moment) → stop_before way T r (suc c) m ≡ stop_before way T r (suc d) m
unfolding stop_before
stop_any forward T r c d m = rw (eqb-suc-zero c, eqb-suc-zero d)
stop_any back T r c d m = rw (eqb-suc-zero c, eqb-suc-zero d)

module _ (way : Way) (T : Table) (r : Room) where
  -- A walk by its first step.
  pub wind_none : (m : Moment) → wind way T r 0 m ≡ ended T m spent
  unfolding wind
  wind_none m = refl

  module _ (c : ℕ) (m : Moment) where
    pub wind_stops : (x : Stop) → stop_before way T r (suc c) m ≡ some x → wind way T r (suc c) m ≡ ended T m x
    unfolding wind
    wind_stops x e = rw e

    pub wind_goes_on : (u : Moment) → stop_before way T r (suc c) m ≡ none → next_by way T m ≡ some u → (j : ℕ) → wind way T r (suc j) m ≡ longer way T m (wind way T r j u)
    unfolding wind
    wind_goes_on u e n j = rw (stop_any way T r j c m ∙ e, n)

  -- A call by fewer steps than another makes, makes them all.
  pub reaches : (c : ℕ) (m : Moment) (j : ℕ) → j ≤ (wind way T r c m).steps → (wind way T r j m).steps ≡ j
  reaches =
      each_run way T r (λ c m run. (j : ℕ) → j ≤ run.steps → (wind way T r j m).steps ≡ j) nowhere (λ c m x e. nowhere m)
      (λ c m u run e n more j l. further c m u e n more j l)
    where
      nowhere : (m : Moment) (j : ℕ) → j ≤ 0 → (wind way T r j m).steps ≡ j
      nowhere m zero l = ap (λ x. x.steps) (wind_none m)
      nowhere m (suc j) l = absurd (omega arith)

      further : (c : ℕ) (m u : Moment) → stop_before way T r (suc c) m ≡ none → next_by way T m ≡ some u → {k : ℕ} → ((j : ℕ) → j ≤ k → (wind way T r j u).steps ≡ j)
          → (j : ℕ) → j ≤ suc k → (wind way T r j m).steps ≡ j
      further c m u e n more zero l = nowhere m zero zero-le
      further c m u e n more (suc j) l = ap (λ x. x.steps) (wind_goes_on c m u e n j) ∙ ap suc (more j (omega arith))

  module _ (v : Spot) where
    -- A search by its first step.
    pub seek_none : (m : Moment) → seek way T r v 0 m ≡ ended T m spent
    unfolding seek
    seek_none m = refl

    module _ (c : ℕ) (m : Moment) where
      pub seek_stops : (x : Stop) → stop_before way T r (suc c) m ≡ some x → seek way T r v (suc c) m ≡ ended T m x
      unfolding seek
      seek_stops x e = rw e

      module _ (u : Moment) (e : stop_before way T r (suc c) m ≡ none) (n : next_by way T m ≡ some u) where
        pub seek_arrives : is_on v u.state ≡ true → seek way T r v (suc c) m ≡ longer way T m (ended T u found)
        unfolding seek
        seek_arrives a = rw (e, n, a)

        pub seek_goes_on : is_on v u.state ≡ false → seek way T r v (suc c) m ≡ longer way T m (seek way T r v c u)
        unfolding seek
        seek_goes_on a = rw (e, n, a)

        -- A visit after more than one step is one after the first step.
        first_visit : StandsOn v u.state → VisitAfter way T r v (suc c) m 1
        first_visit h = rw (wind_goes_on c m u e n c, wind_goes_on c m u e n 0, wind_none u) (omega arith, omega arith, h)

        later_visit : (k : ℕ) → VisitAfter way T r v c u k → VisitAfter way T r v (suc c) m (suc k)
        later_visit k h = rw (wind_goes_on c m u e n c, wind_goes_on c m u e n k) (let l = h.1 in (omega arith, omega arith, h.2))

        no_visit : (k : ℕ) → (StandsOn v u.state → ⊥) → ((j : ℕ) → suc j ≡ k → VisitAfter way T r v c u j → ⊥) → VisitAfter way T r v (suc c) m k → ⊥
        no_visit zero away none_later h = let l = h.0 in absurd (omega arith)
        no_visit (suc zero) away none_later h = away (rw (wind_goes_on c m u e n 0, wind_none u) at h.2)
        no_visit (suc (suc k)) away none_later h =
            none_later (suc k) refl
            (let l = rw (wind_goes_on c m u e n c) at h.1 in (omega arith, omega arith, rw (wind_goes_on c m u e n (suc k)) at h.2))

    pub sought : (c : ℕ) (m : Moment) → Sought way T r v c m (wind way T r c m) (seek way T r v c m)
    sought zero m = unvisited (λ k h. let l = h.0 in let z = rw (wind_none m) at h.1 in absurd (omega arith)) (seek_none m ∙ sym (wind_none m))
    sought (suc c) m = by_stop (λ u. sought c u) (stop_before way T r (suc c) m) refl
      where
        arrived : (u : Moment) → stop_before way T r (suc c) m ≡ none → next_by way T m ≡ some u → is_on v u.state ≡ true → Sought way T r v (suc c) m (wind way T r (suc c) m) (seek way T r v (suc c) m)
        arrived u e n a =
            visited 1
            (record {
              visit = first_visit c m u e n (on_spot v u.state a);
              first = λ j l h. (let g = h.0 in absurd (omega arith));
            })
            (seek_arrives c m u e n a ∙ sym (ap found_by (wind_goes_on c m u e n 0 ∙ ap (longer way T m) (wind_none u))))

        goes_on : (u : Moment) → stop_before way T r (suc c) m ≡ none → next_by way T m ≡ some u → is_on v u.state ≡ false → Sought way T r v c u (wind way T r c u) (seek way T r v c u)
            → Sought way T r v (suc c) m (wind way T r (suc c) m) (seek way T r v (suc c) m)
        goes_on u e n a (visited k f g) =
            visited (suc k)
            (record {
              visit = later_visit c m u e n k f.visit;
              first = λ j l h. no_visit c m u e n j (off_spot v u.state a) (λ i same x. f.first i (omega arith) x) h;
            })
            (seek_goes_on c m u e n a ∙ ap (longer way T m) g ∙ sym (ap found_by (wind_goes_on c m u e n k)))
        goes_on u e n a (unvisited f g) =
            unvisited (λ k h. no_visit c m u e n k (off_spot v u.state a) (λ i same x. f i x) h) (seek_goes_on c m u e n a ∙ ap (longer way T m) g ∙ sym (wind_goes_on c m u e n c))

        by_spot : (u : Moment) → stop_before way T r (suc c) m ≡ none → next_by way T m ≡ some u → Sought way T r v c u (wind way T r c u) (seek way T r v c u) → (b : Bool) → is_on v u.state ≡ b
            → Sought way T r v (suc c) m (wind way T r (suc c) m) (seek way T r v (suc c) m)
        by_spot u e n more true a = arrived u e n a
        by_spot u e n more false a = goes_on u e n a more

        by_stop : ((u : Moment) → Sought way T r v c u (wind way T r c u) (seek way T r v c u)) → (o : Option Stop) → stop_before way T r (suc c) m ≡ o → Sought way T r v (suc c) m (wind way T r (suc c) m) (seek way T r v (suc c) m)
        by_stop more (some x) e =
            unvisited (λ k h. let l = h.0 in let z = rw (wind_stops c m x e) at h.1 in absurd (omega arith)) (seek_stops c m x e ∙ sym (wind_stops c m x e))
        by_stop more none e = let (u, n) = has_next way T r c m e in by_spot u e n (more u) (is_on v u.state) refl

-- What holds of a run that ended as found, and of the other, holds of what was sought.
pub each_sought : {way : Way} {T : Table} {r : Room} {v : Spot} {c : ℕ} {m : Moment} {otherwise run : Run} (P : Run → Type 0)
    → ((k : ℕ) → FirstVisit way T r v c m k → P (found_by (wind way T r k m))) → P otherwise → Sought way T r v c m otherwise run → P run
each_sought P f h (visited k first e) = subst P (sym e) (f k first)
each_sought P f h (unvisited away e) = subst P (sym e) h

-- Back, every stop but found is none.
not_found : (x : Stop) → IsStop x → is_found x ≡ false
not_found spent h = refl
not_found jam h = refl
not_found far h = refl
not_found start h = refl
not_found log_full h = refl
not_found tape_full h = refl
not_found (answer i) h = refl
not_found found h = absurd h
not_found Stop.none h = absurd h
not_found (refused k) h = absurd h

pub sought_back : (T : Table) (r : Room) (v : Spot) (m : Moment) → Sought back T r v m.position m (ended T m Stop.none) (seek_back T r v m)
sought_back T r v m = by_search (sought back T r v m.position m)
  where
    searched : Run
    searched = seek back T r v m.position m

    by_search : Sought back T r v m.position m (wind back T r m.position m) searched → Sought back T r v m.position m (ended T m Stop.none) (seek_back T r v m)
    by_search (visited k f e) = visited k f (ap (λ x. found_or_none T m x) e)
    by_search (unvisited away e) =
        unvisited away (rw (not_found searched.stop (subst (λ x. IsStop x.stop) (sym e) (wind_is_stop back T r m.position m))))

-- No end of a walk or a search is a refusal.
abbrev pub Unrefused : Stop → Type 0
Unrefused x = (k : ℕ) → x ≡ refused k → ⊥

abbrev Named : Stop → Type 0
Named found = Unit
Named Stop.none = Unit
Named spent = ⊥
Named jam = ⊥
Named far = ⊥
Named start = ⊥
Named log_full = ⊥
Named tape_full = ⊥
Named (answer i) = ⊥
Named (refused k) = ⊥

pub found_not_none : found ≡ Stop.none → ⊥
found_not_none e = false≢true (sym (ap is_found e))

pub found_unrefused : Unrefused found
found_unrefused k e = subst Named e tt

pub none_unrefused : Unrefused Stop.none
none_unrefused k e = subst Named e tt

pub wind_unrefused : (way : Way) (T : Table) (r : Room) (c : ℕ) (m : Moment) → Unrefused (wind way T r c m).stop
wind_unrefused way T r c m k e = subst IsStop e (wind_is_stop way T r c m)

pub seek_unrefused : (T : Table) (r : Room) (v : Spot) (c : ℕ) (m : Moment) → Unrefused (seek forward T r v c m).stop
seek_unrefused T r v c m = each_sought (λ x. Unrefused x.stop) (λ k f. found_unrefused) (wind_unrefused forward T r c m) (sought forward T r v c m)

pub seek_back_unrefused : (T : Table) (r : Room) (v : Spot) (m : Moment) → Unrefused (seek_back T r v m).stop
seek_back_unrefused T r v m = each_sought (λ x. Unrefused x.stop) (λ k f. found_unrefused) none_unrefused (sought_back T r v m)
