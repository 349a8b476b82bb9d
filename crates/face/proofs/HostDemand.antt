-- The third demand for a host, from that of the calls: what a call told stands for itself again.
use mathlib.Core.Path.{◌≡◌, refl, sym, ap, ◌∙◌, subst}
use mathlib.Core.Option.{Option, none, some}
use mathlib.Core.List.{List, [], ◌∷◌}
use Prim.Native.Nat.{ℕ}
use Rattle.term.specs.Table.{Table}
use Rattle.machine.specs.Machine.{State}
use Rattle.calls.specs.Session.{Outcome}
use Rattle.calls.specs.Stops.{Room}
use Rattle.calls.specs.Looks.{Look, look_of}
use Rattle.calls.specs.Moves.{Move, outcome_of, own_number}
use Rattle.calls.specs.Demand.{Call, AllPermitted, Standing, left_by, left_by_look, given_to, position_by, AsPlain, AsOwn, Demanded}
use Rattle.calls.specs.Demand
use Rattle.calls.proofs.Third.{third_demand}
use Rattle.face.specs.Told.{outcome_told, look_told}
use Rattle.face.specs.HostDemand.{kept_of, HostCall, own, other, look, other_look, answer_to, look_from, AllPermittedCalls, kept_by, kept_by_look, ToldAsOwn, HostDemanded, HostDemand}
use Rattle.face.proofs.Codes.{told_again, look_told_again}
use Rattle.face.proofs.Refusals.{refused_told_lem, refusal_gives_back, look_refused_told}

-- the calls of its own, as the third demand has them
abbrev owns : List HostCall → List Call
owns [] = []
owns (own m u ∷ cs) = Demand.own m u ∷ owns cs
owns (other m u k h ∷ cs) = owns cs
owns (look c u ∷ cs) = Demand.look c u ∷ owns cs
owns (other_look c u k h ∷ cs) = owns cs

permitted : (w : List ℕ) (n : ℕ) (cs : List HostCall) → AllPermittedCalls w n cs → AllPermitted w n (owns cs)
permitted w n [] a = tt
permitted w n (own m u ∷ cs) a = (a.0, permitted w n cs a.1)
permitted w n (other m u k h ∷ cs) a = permitted w n cs a.1
permitted w n (look c u ∷ cs) a = (a.0, permitted w n cs a.1)
permitted w n (other_look c u k h ∷ cs) a = permitted w n cs a.1

answered : (m : Move) (u : List ℕ) (n : ℕ) (st : Standing) → answer_to m u n (kept_of st) ≡ outcome_told (outcome_of m (given_to u n st))
answered m u n st = told_again (λ g. outcome_of m g) u n st.session st.log st.tape

foreseen : (c : ℕ) (u : List ℕ) (n : ℕ) (st : Standing) → look_from c u n (kept_of st) ≡ look_told (look_of (given_to u n st) c)
foreseen c u n st = look_told_again u n st.session st.log st.tape c

module _ (T : Table) (s₀ : State) (r : Room) (n : ℕ) where
  stands : (cs : List Call) (p : ℕ) (st : Standing) → Demanded T s₀ r n cs p st → AsPlain T s₀ r p st
  unfolding Demanded
  stands [] p st d = d
  stands (c ∷ cs) p st d = d.0

  told_own : (m : Move) (p : ℕ) (u : List ℕ) (st : Standing) (o : Option ℕ) → AsOwn T s₀ r o m p (given_to u n st) (outcome_of m (given_to u n st))
      → ToldAsOwn T s₀ r o m p (kept_of st) (answer_to m u n (kept_of st))
  told_own m p u st none d = (outcome_of m (given_to u n st), d, answered m u n st)
  told_own m p u st (some k) d = answered m u n st ∙ refused_told_lem k d.0 d.1

  told_demanded : (w : List ℕ) (cs : List HostCall) (p : ℕ) (st : Standing) → AllPermittedCalls w n cs → Demanded T s₀ r n (owns cs) p st
      → HostDemanded T s₀ r n cs p (kept_of st)
  unfolding Demanded HostDemanded
  told_demanded w [] p st a d = (st, d, refl)
  told_demanded w (own m u ∷ cs) p st a d =
      let o : Outcome = outcome_of m (given_to u n st) in
      let goes_on : kept_of (left_by o) ≡ kept_by (answer_to m u n (kept_of st)) = sym (ap kept_by (answered m u n st)) in (
        (st, d.0, refl),
        told_own m p u st (own_number m T.nodes p) d.1,
        subst (λ h. HostDemanded T s₀ r n cs (position_by T s₀ r m p) h) goes_on (told_demanded w cs (position_by T s₀ r m p) (left_by o) a.1 d.2),
      )
  told_demanded w (other m u k h ∷ cs) p st a d = (
    (st, stands (owns cs) p st d, refl),
    ((answer_to m u k h).0.value, refusal_gives_back m u k h.session h.log h.tape a.0),
    told_demanded w cs p st a.1 d,
  )
  told_demanded w (look c u ∷ cs) p st a d =
      let l : Look = look_of (given_to u n st) c in
      let goes_on : kept_of (left_by_look st l) ≡ kept_by_look (kept_of st) (look_from c u n (kept_of st)) = sym (ap (kept_by_look (kept_of st)) (foreseen c u n st)) in (
        (st, d.0, refl),
        (l, d.1, foreseen c u n st),
        subst (λ h. HostDemanded T s₀ r n cs p h) goes_on (told_demanded w cs p (left_by_look st l) a.1 d.2),
      )
  told_demanded w (other_look c u k h ∷ cs) p st a d = (
    (st, stands (owns cs) p st d, refl),
    look_refused_told c u k h.session h.log h.tape a.0,
    told_demanded w cs p st a.1 d,
  )

pub host_demand : HostDemand
host_demand w n ls ts A short_log short_tape =
    let demand = third_demand w n ls ts A short_log short_tape in
    (demand.0, λ cs a. told_demanded _ _ _ n w cs 0 _ a (demand.1 (owns cs) (permitted w n cs a)))
