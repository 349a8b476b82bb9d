-- First look, then go: what a look tells and leaves, that go answers as forward does, and that its results are those foretold.
use mathlib.Core.Path.{◌≡◌, refl, sym, ap, ◌∙◌}
use mathlib.Core.Bool.{false}
use mathlib.Core.Option.{Option, none, some}
use Prim.Native.Nat.{ℕ}
use borrow.Author.Tests.{eq-eqb}
use Rattle.term.specs.Table.{table_in}
use Rattle.calls.specs.Session.{refused, Given}
use Rattle.calls.specs.Stops.{forward, moment_of, room}
use Rattle.calls.specs.Calls.{call_number, forward_of}
use Rattle.calls.specs.Looks.{Look, looked, refused_look, look_of, elsewhere, go_of, foretold, results_of, after_look, AsForetold}
use Rattle.calls.specs.Moves.{by, go}
use Rattle.calls.specs.Demand.{Standing, left_by_look, NothingTold}
use Rattle.calls.proofs.Unrefused.{go_as_call, go_unrefused}
use Rattle.calls.proofs.Entering.{entered}
use Rattle.calls.proofs.Answers.{run_unrefused, move_refused, moved}

module _ (g : Given) (c : ℕ) where
  -- What holds of a refused look and of one that is not holds of every look.
  each_look : (P : Look → Type 0) → ((k : ℕ) → call_number g ≡ some k → P (refused_look k g.log g.tape)) → (call_number g ≡ none → P (looked g c (forward_of g c))) → P (look_of g c)
  unfolding look_of
  each_look P refuses tells = by_number (call_number g) refl
    where
      by_number : (o : Option ℕ) → call_number g ≡ o → P (look_of g c)
      by_number (some k) e = rw e (refuses k e)
      by_number none e = rw e (tells e)

  pub look_tells : call_number g ≡ none → look_of g c ≡ looked g c (forward_of g c)
  unfolding look_of
  look_tells e = rw e

  pub look_refused : (k : ℕ) → call_number g ≡ some k → look_of g c ≡ refused_look k g.log g.tape
  unfolding look_of
  look_refused k e = rw e

  -- "leaves session and slices with every word as given"
  pub look_leaves : ((look_of g c).log ≡ g.log) × ((look_of g c).tape ≡ g.tape)
  look_leaves = each_look (λ l. (l.log ≡ g.log) × (l.tape ≡ g.tape)) (λ k e. (refl, refl)) (λ e. (refl, refl))

  -- It tells what forward answers, of every session, refused or not.
  pub look_as_forward : foretold (look_of g c) ≡ results_of (forward_of g c)
  look_as_forward = each_look (λ l. foretold l ≡ results_of (forward_of g c)) (λ k e. sym (ap results_of (move_refused (by forward c) g k e))) (λ e. refl)

  -- A look that tells a refusal is refused by one of 7 to 9, and tells nothing else.
  pub look_refused_by : (k : ℕ) → (look_of g c).stop ≡ refused k → (j : ℕ) × (call_number g ≡ some j)
  look_refused_by k told = by_number (call_number g) refl
    where
      by_number : (o : Option ℕ) → call_number g ≡ o → (j : ℕ) × (call_number g ≡ some j)
      by_number (some j) e = (j, e)
      by_number none e =
          let (s, h) = entered g e in
          absurd (run_unrefused (by forward c) (table_in g.table g.n) (room g.log g.tape) (moment_of g.session s) k
          (sym (ap (λ o. o.stop) (moved (by forward c) g s h refl)) ∙ sym (ap (λ l. l.stop) (look_tells e)) ∙ told))

  pub nothing_told : (k : ℕ) → (look_of g c).stop ≡ refused k → NothingTold g (look_of g c)
  nothing_told k told =
      let (j, e) = look_refused_by k told in
      rw (look_refused j e) (record { log_is = refl; tape_is = refl; no_steps = refl; no_peak = refl; nothing_carried = refl; no_position = refl; no_count = refl })

-- what stands after a look is what stood before it
pub left_by_look_lem : (st : Standing) (l : Look) → (l.log ≡ st.log) × (l.tape ≡ st.tape) → left_by_look st l ≡ st
left_by_look_lem st l e = λ i. record { session = st.session; log = e.0 i; tape = e.1 i }

-- "answers as forward by that count"
pub go_is_forward : (g : Given) (q c : ℕ) → g.session.position ≡ q → go_of g q c ≡ forward_of g c
unfolding go_of
go_is_forward g q c here = by_number (call_number g) refl
  where
    near : elsewhere g.session.position q ≡ false
    near = rw (eq-eqb g.session.position q here)

    by_number : (o : Option ℕ) → call_number g ≡ o → go_of g q c ≡ forward_of g c
    by_number (some k) e = rw (go_as_call q g k e) (sym (move_refused (by forward c) g k e))
    by_number none e = rw (go_unrefused q g e near)

-- "if table, session and slices are unaltered in between, its results are those foretold"
pub as_foretold : AsForetold
as_foretold g c =
    each_look g c (λ l. results_of (go_of (after_look g l) l.position l.count) ≡ foretold l)
    (λ k e. ap results_of (move_refused (go 0 0) g k e))
    (λ e. ap results_of (go_is_forward g g.session.position c refl))
