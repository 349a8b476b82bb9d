-- Which number refuses a call, test by test, and when none does.
use mathlib.Core.Path.{◌≡◌, refl, sym, ◌∙◌}
use mathlib.Core.Logic.{◌↔◌, ◌⊎◌, inl, inr}
use mathlib.Core.Bool.{Bool, true, false, false≢true, or-true}
use mathlib.Core.Option.{Option, none, some, some-ne-none, some-injective}
use mathlib.Core.List.{List, [], ◌∷◌, ◌++◌}
use Prim.Native.Nat.{ℕ, ◌≤◌, ◌<◌}
use native.Mathlib.Omega.{arith}
use lib.ListN.{length}
use lib.Dec.{eqb}
use borrow.Author.Tests.{eqb-true, ltb-true, eq-eqb, ne_eqb, lt-ltb, le-ltb}
use Rattle.term.specs.Choice.{◌⇒◌, first, is_none, if_some}
use Rattle.term.specs.Accepted.{accepted}
use Rattle.machine.specs.Machine.{State}
use Rattle.calls.specs.Session.{Given}
use Rattle.calls.specs.Calls.{longest, too_long, lent_tests, lent_number, state_given, call_tests, call_number}
use Rattle.calls.specs.Visits.{off_term, visit_number}
use Rattle.calls.specs.Looks.{elsewhere, go_number}
use Rattle.calls.proofs.Order.{first_of_both, first_names}

-- 7 and 8, of what every call is lent
module _ (w : List ℕ) (n : ℕ) (ls ts : List ℕ) where
  pub lent_names : (k : ℕ) → lent_number w n ls ts ≡ some k → (7 ≤ k) × (k ≤ 8)
  unfolding lent_number
  lent_names = first_names (λ k. (7 ≤ k) × (k ≤ 8)) (lent_tests w n ls ts) ((omega arith, omega arith), ((omega arith, omega arith), tt))

  pub lent_seven : accepted w n ≡ false → lent_number w n ls ts ≡ some 7
  unfolding lent_number
  lent_seven a = rw a

  module _ (a : accepted w n ≡ true) where
    lent_eight : too_long ls ts ≡ true → lent_number w n ls ts ≡ some 8
    unfolding lent_number
    lent_eight l = rw (a, l)

    pub lent_log_eight : longest < length ls → lent_number w n ls ts ≡ some 8
    lent_log_eight h = lent_eight (rw (lt-ltb longest (length ls) h))

    pub lent_tape_eight : longest < length ts → lent_number w n ls ts ≡ some 8
    lent_tape_eight h = lent_eight (rw (lt-ltb longest (length ts) h, or-true))

    pub lent_unrefused : length ls ≤ longest → length ts ≤ longest → lent_number w n ls ts ≡ none
    unfolding lent_number
    lent_unrefused h k = rw (a, le-ltb longest (length ls) h, le-ltb longest (length ts) k)

-- forward, back and go-to: these, and then 9
module _ (g : Given) where
  pub call_names : (k : ℕ) → call_number g ≡ some k → (7 ≤ k) × (k ≤ 9)
  unfolding call_number
  call_names = first_names (λ k. (7 ≤ k) × (k ≤ 9)) (call_tests g) ((omega arith, omega arith), ((omega arith, omega arith), ((omega arith, omega arith), tt)))

  call_by : call_number g ≡ if_some (lent_number g.table g.n g.log g.tape) (λ k. some k) (λ _. first ((is_none (state_given g) ⇒ 9) ∷ []))
  unfolding lent_number call_number
  call_by = first_of_both (lent_tests g.table g.n g.log g.tape) ((is_none (state_given g) ⇒ 9) ∷ [])

  pub call_as_lent : (k : ℕ) → lent_number g.table g.n g.log g.tape ≡ some k → call_number g ≡ some k
  call_as_lent k e = rw (call_by, e)

  module _ (e : lent_number g.table g.n g.log g.tape ≡ none) where
    pub call_nine : state_given g ≡ none → call_number g ≡ some 9
    call_nine h = rw (call_by, e, h)

    pub call_unrefused : (s : State) → state_given g ≡ some s → call_number g ≡ none
    call_unrefused s h = rw (call_by, e, h)

-- These, and then a test of the call's own, that names k.
module _ (g : Given) (b : Bool) (k : ℕ) where
  abbrev lastly : Option ℕ
  lastly = first (call_tests g ++ ((b ⇒ k) ∷ []))

  own_by : lastly ≡ if_some (call_number g) (λ j. some j) (λ _. first ((b ⇒ k) ∷ []))
  unfolding call_number
  own_by = first_of_both (call_tests g) ((b ⇒ k) ∷ [])

  own_as_call : (j : ℕ) → call_number g ≡ some j → lastly ≡ some j
  own_as_call j e = rw (own_by, e)

  module _ (e : call_number g ≡ none) where
    own_applies : b ≡ true → lastly ≡ some k
    own_applies h = rw (own_by, e, h)

    own_passes : b ≡ false → lastly ≡ none
    own_passes h = rw (own_by, e, h)

  own_none : lastly ≡ none → call_number g ≡ none
  own_none h = by_call (call_number g) refl
    where
      by_call : (o : Option ℕ) → call_number g ≡ o → call_number g ≡ none
      by_call (some j) e = absurd (some-ne-none j (sym (own_as_call j e) ∙ h))
      by_call none e = e

  -- It names k exactly where none of 7 to 9 applies and the test does.
  own_exactly : 9 < k → (lastly ≡ some k) ↔ ((call_number g ≡ none) × (b ≡ true))
  own_exactly above = (λ h. by_call h (call_number g) refl, λ h. own_applies h.0 h.1)
    where
      by_test : lastly ≡ some k → call_number g ≡ none → (d : Bool) → b ≡ d → (call_number g ≡ none) × (b ≡ true)
      by_test h e true o = (e, o)
      by_test h e false o = absurd (some-ne-none k (sym h ∙ own_passes e o))

      by_call : lastly ≡ some k → (q : Option ℕ) → call_number g ≡ q → (call_number g ≡ none) × (b ≡ true)
      by_call h (some j) e =
          let to_nine : j ≤ 9 = (call_names g j e).1 in
          let same : k ≡ j = some-injective k j (sym h ∙ own_as_call j e) in
          absurd (omega arith)
      by_call h none e = by_test h e b refl

-- the calls to a spot: 12
module _ (i : ℕ) (g : Given) where
  pub visit_as_call : (k : ℕ) → call_number g ≡ some k → visit_number i g ≡ some k
  unfolding visit_number
  visit_as_call = own_as_call g (off_term g.n i) 12

  module _ (e : call_number g ≡ none) where
    pub visit_twelve : off_term g.n i ≡ true → visit_number i g ≡ some 12
    unfolding visit_number
    visit_twelve = own_applies g (off_term g.n i) 12 e

    pub visit_unrefused : off_term g.n i ≡ false → visit_number i g ≡ none
    unfolding visit_number
    visit_unrefused = own_passes g (off_term g.n i) 12 e

  -- "12, after 9, when the node is 0 or over n", and no other time.
  off_term_lem : off_term g.n i ≡ true → (i ≡ 0) ⊎ (g.n < i)
  off_term_lem h = by_zero (eqb i 0) refl
    where
      by_zero : (b : Bool) → eqb i 0 ≡ b → (i ≡ 0) ⊎ (g.n < i)
      by_zero true e = inl (eqb-true i 0 e)
      by_zero false e = inr (ltb-true g.n i (rw e at h))

  named_off : (i ≡ 0) ⊎ (g.n < i) → off_term g.n i ≡ true
  named_off (inl e) = rw (eq-eqb i 0 e)
  named_off (inr l) = rw (lt-ltb g.n i l, or-true)

  pub twelve_exactly : (visit_number i g ≡ some 12) ↔ ((call_number g ≡ none) × ((i ≡ 0) ⊎ (g.n < i)))
  unfolding visit_number
  twelve_exactly =
      let exactly = own_exactly g (off_term g.n i) 12 (omega arith) in
      (λ h. ((exactly.0 h).0, off_term_lem (exactly.0 h).1), λ h. exactly.1 (h.0, named_off h.1))

-- go: 15
module _ (q : ℕ) (g : Given) where
  pub go_as_call : (k : ℕ) → call_number g ≡ some k → go_number q g ≡ some k
  unfolding go_number
  go_as_call = own_as_call g (elsewhere g.session.position q) 15

  pub go_none : go_number q g ≡ none → call_number g ≡ none
  unfolding go_number
  go_none = own_none g (elsewhere g.session.position q) 15

  module _ (e : call_number g ≡ none) where
    pub go_fifteen : elsewhere g.session.position q ≡ true → go_number q g ≡ some 15
    unfolding go_number
    go_fifteen = own_applies g (elsewhere g.session.position q) 15 e

    pub go_unrefused : elsewhere g.session.position q ≡ false → go_number q g ≡ none
    unfolding go_number
    go_unrefused = own_passes g (elsewhere g.session.position q) 15 e

  -- "15, after 9, when the session's position is not the one handed out", and no other time.
  named_elsewhere : (g.session.position ≡ q → ⊥) → elsewhere g.session.position q ≡ true
  named_elsewhere h = rw (ne_eqb g.session.position q h)

  not_here : elsewhere g.session.position q ≡ true → g.session.position ≡ q → ⊥
  not_here h e = false≢true (rw (eq-eqb g.session.position q e) at h)

  pub fifteen_exactly : (go_number q g ≡ some 15) ↔ ((call_number g ≡ none) × (g.session.position ≡ q → ⊥))
  unfolding go_number
  fifteen_exactly =
      let exactly = own_exactly g (elsewhere g.session.position q) 15 (omega arith) in
      (λ h. ((exactly.0 h).0, not_here (exactly.0 h).1), λ h. exactly.1 (h.0, named_elsewhere h.1))
