-- The law behind `yildreuz_top`: what the code tells of the part is what the definition tells.
use mathlib.Core.Path.{◌≡◌, refl, sym, ap, ◌∙◌}
use mathlib.Core.Logic.{⊎_elim}
use mathlib.Core.Option.{Option, none, some}
use mathlib.Core.List.{List}
use Prim.Native.Nat.{ℕ, zero, suc, ◌-◌, ◌≤◌, ◌<◌}
use native.Mathlib.Omega.{arith}
use lib.ListN.{length}
use borrow.Author.Tests.{lt-ltb, le-ltb, ne_eqb}
use Rattle.term.specs.Choice.{if_some}
use Rattle.calls.specs.Session.{Session, Given}
use Rattle.calls.specs.Calls.{call_number}
use Rattle.calls.specs.Top.{Which, log, tape, not_shown, top_of, seen, length_given}
use Rattle.calls.proofs.Unrefused.{call_names}
use Rattle.calls.proofs.Entering.{entered}
use Rattle.calls.proofs.Top.{top_or_empty, top_refused, top_empty, top_points, points, refused_nowhere, part_size, cut_fits}
use Rattle.face.specs.declared.HostSession.{HostSession}
use Rattle.face.specs.declared.HostPart.{HostPart}
use Rattle.face.specs.Numbers.{which_in}
use Rattle.face.specs.Told.{no_session_number, no_list_number, top_told, top_of_list, top_called}
use Rattle.face.proofs.Codes.{toward}
use Rattle.yildreuz.specs.Given.{made_with}
use Rattle.yildreuz.specs.TopTold.{list_named, number_told, part_told, shown_told, told_of}
use Rattle.yildreuz.proofs.Given.{nowhere}

-- how many words the part has
module _ (list : Which) (g : Given) {part : List ℕ} {number : ℕ} (is : (part, number) ≡ seen (top_of list g)) where
  size_is : length part ≡ (top_of list g).size
  size_is = ap (λ p. length p.0) is ∙ part_size list g

  pub size_short : length part ≤ 16384
  size_short = let same = size_is in omega (arith, (cut_fits list g).1)

pub refused_number : (which k : ℕ) → (k ≡ 0 → ⊥) → number_told which k ≡ k
refused_number which k z = rw (ne_eqb k 0 z)

refused_part : (which k end size : ℕ) → (k ≡ 0 → ⊥) → ◌≡◌ {A = HostPart × ℕ} (part_told (number_told which k) end size, number_told which k) (record { offset = 0; len = 0 }, k)
refused_part which k end size z =
    let nowhere : part_told k end size ≡ record { offset = 0; len = 0 } = rw (ne_eqb k 0 z) in
    (λ i. (part_told (refused_number which k z i) end size, refused_number which k z i)) ∙ (λ i. (nowhere i, k))

refused_told_lem : (which k end : ℕ) → (k ≡ 0 → ⊥) → shown_told which (not_shown k) end ≡ top_told (not_shown k)
refused_told_lem which k end z = refused_part which k end 0 z

module _ (g : Given) (which : ℕ) where
  -- a list is named
  listed_told : (list : Which) → which ≤ 1 → shown_told which (top_of list g) (length_given list g.session) ≡ top_told (top_of list g)
  listed_told list few = by_number (top_of list g).refusal refl
    where
      by_number : (k : ℕ) → (top_of list g).refusal ≡ k → shown_told which (top_of list g) (length_given list g.session) ≡ top_told (top_of list g)
      by_number zero e =
          let (s, x, at) = points list g e in
          let start : length_given list g.session - (top_of list g).size ≡ (top_of list g).offset = omega (arith, at.ends) in
          rw (e, le-ltb 1 which few, start)
      by_number (suc k) e =
          let refused : (top_of list g).refusal ≡ 0 → ⊥ = λ z. omega arith in
          let nowhere = refused_nowhere list g refused in
          ap (λ a. shown_told which a (length_given list g.session)) nowhere ∙ refused_told_lem which (top_of list g).refusal (length_given list g.session) refused ∙ sym (ap top_told nowhere)

  -- none is named, and the log was looked at
  unlisted_told : (end : ℕ) → 1 < which → shown_told which (top_of log g) end ≡ top_told (not_shown (no_list_number g))
  unlisted_told end above = by_number (call_number g) refl
    where
      by_number : (o : Option ℕ) → call_number g ≡ o → shown_told which (top_of log g) end ≡ top_told (not_shown (if_some o (λ k. k) (λ _. 10)))
      by_number (some k) e =
          let from_seven = (call_names g k e).0 in
          ap (λ a. shown_told which a end) (top_refused log g k e) ∙ refused_told_lem which k end (λ z. omega arith)
      by_number none e =
          let (s, h) = entered g e in
          ⊎_elim
          (λ z. ap (λ a. shown_told which a end) (top_empty log g s h z) ∙ refused_told_lem which 10 end (λ z. omega arith))
          (λ p. rw ((top_points log g s h p.0 p.1).unrefused, lt-ltb 1 which above))
          (top_or_empty log s)

module _ (w : List ℕ) (n : ℕ) (s : HostSession) (ls ts : List ℕ) (which : ℕ) where
  abbrev given : Session → Given
  given se = record { table = w; n = n; session = se; log = ls; tape = ts }

  abbrev told_from : Session → HostPart × ℕ
  told_from se = shown_told which (top_of (list_named which) (given se)) (length_given (list_named which) se)

  -- on a session
  on_session : (se : Session) → told_from se ≡ top_told (top_of_list (which_in which) (given se))
  on_session se = by_which which
    where
      by_which : (k : ℕ) → shown_told k (top_of (list_named k) (given se)) (length_given (list_named k) se) ≡ top_told (top_of_list (which_in k) (given se))
      by_which zero = listed_told (given se) 0 log (omega arith)
      by_which (suc zero) = listed_told (given se) 1 tape (omega arith)
      by_which (suc (suc k)) = rw (ne_eqb (suc (suc k)) 1 (λ z. omega arith)) (unlisted_told (given se) (suc (suc k)) se.log_length (omega arith))

  called_so : top_called w n s ls ts which ≡ told_from (made_with s)
  unfolding top_called
  called_so = by_direction s.direction
    where
      by_direction : (d : ℕ) → top_called w n (toward s d) ls ts which ≡ told_from (made_with (toward s d))
      by_direction zero = sym (on_session (made_with (toward s zero)))
      by_direction (suc zero) = sym (on_session (made_with (toward s (suc zero))))
      by_direction (suc (suc k)) =
          let se = made_with (toward s (suc (suc k))) in
          let refused = nowhere (given se) (rw (lt-ltb 1 (suc (suc k)) (omega arith))) in
          let from_seven = (call_names (given se) (no_session_number w n ls ts) refused).0 in
          sym
          (ap (λ a. shown_told which a (length_given (list_named which) se)) (top_refused (list_named which) (given se) (no_session_number w n ls ts) refused)
          ∙ refused_told_lem which (no_session_number w n ls ts) (length_given (list_named which) se) (λ z. omega arith))

  -- as the code goes about it
  pub told_so : {se : Session} {r : HostPart × ℕ} → se ≡ made_with s → r ≡ told_of which (list_named which) (given se) → r ≡ top_called w n s ls ts which
  told_so e p = p ∙ ap told_from e ∙ sym called_so

-- What the code answers, of the part that it was shown or of the refusal.
module _ (which : ℕ) (list : Which) (g : Given) {list_as : Which} (same : list ≡ list_as) where
  abbrev to_same : told_of which list g ≡ told_of which list_as g
  to_same = ap (λ l. told_of which l g) same

  module _ {part : List ℕ} (e : (part, 0) ≡ seen (top_of list g)) where
    unrefused : (top_of list g).refusal ≡ 0
    unrefused = sym (ap (λ p. p.1) e)

    pub fits_so : {end : ℕ} → end ≡ length_given list g.session → length part ≤ end
    fits_so end_is =
        let (s, x, at) = points list g unrefused in
        let same_size = size_is list g e in
        omega (arith, at.ends)

    pub shown_so : {end : ℕ} → end ≡ length_given list g.session → which ≤ 1 → ◌≡◌ {A = HostPart × ℕ} (record { offset = end - length part; len = length part }, 0) (told_of which list_as g)
    shown_so end_is h =
        let here : ◌≡◌ {A = HostPart × ℕ} (shown_told which (top_of list g) (length_given list g.session)) (record { offset = length_given list g.session - (top_of list g).size; len = (top_of list g).size }, 0) =
        rw (unrefused, le-ltb 1 which h) in
        (λ i. (record { offset = end_is i - size_is list g e i; len = size_is list g e i }, 0)) ∙ sym here ∙ to_same
