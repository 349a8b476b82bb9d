-- The calls on a session give on columns what they gave on rows.
use mathlib.Core.Path.{◌≡◌, refl, ap, ◌∙◌}
use mathlib.Core.Option.{Option, none, some}
use mathlib.Core.List.{List, ◌++◌}
use Prim.Native.Nat.{ℕ}
use Rattle.term.specs.Choice.{first, if_some}
use Rattle.term.specs.Table.{rows, columns}
use Rattle.term.specs.ByRows.{by_rows, Sight, sight, sight_by}
use Rattle.term.proofs.ByRows.{sight_by_columns, same_sight}
use Rattle.machine.specs.Machine.{State}
use Rattle.calls.specs.Session.{Given}
use Rattle.calls.specs.Stops.{forward, Moment, room}
use Rattle.calls.specs.Winding.{Run}
use Rattle.calls.specs.Calls.{lent_number, call_number, open_of, outcome_by}
use Rattle.calls.specs.Top.{Which, top_number, top_of}
use Rattle.calls.specs.Looks.{looked, refused_look, look_of}
use Rattle.calls.specs.Moves.{Move, by, outcome_of, own_tests, run_of}
use Rattle.calls.specs.ByRows.{open_seen, state_seen, tests_seen, outcome_seen, look_seen, top_seen, open_by, wind_by, look_by, top_of_by, on_rows, SameOpening, SameOutcome, SameLook, SameTop}
use Rattle.calls.proofs.EachMove.{laws}

-- What a call answers, it answers by what it sees.
opens_seen : (w : List ℕ) (n : ℕ) (ls ts : List ℕ) → open_of w n ls ts ≡ open_seen (sight w n) ls ts
unfolding open_of lent_number
opens_seen w n ls ts = refl

winds_seen : (m : Move) (g : Given) → outcome_of m g ≡ outcome_seen (sight g.table g.n) g m
winds_seen m g = (laws m).shape g

looks_seen : (g : Given) (c : ℕ) → look_of g c ≡ look_seen (sight g.table g.n) g c
unfolding look_of call_number
looks_seen g c = ap (λ o. if_some (call_number g) (λ k. refused_look k g.log g.tape) (λ _. looked g c o)) (winds_seen (by forward c) g)

tops_seen : (which : Which) (g : Given) → top_of which g ≡ top_seen (sight g.table g.n) g which
unfolding top_number top_of
tops_seen which g = refl

-- By columns the definitions are the calls' own.
pub opens_by_columns : (w : List ℕ) (n : ℕ) (ls ts : List ℕ) → open_of w n ls ts ≡ open_by columns w n ls ts
opens_by_columns w n ls ts = opens_seen w n ls ts ∙ ap (λ s. open_seen s ls ts) (sight_by_columns w n)

pub winds_by_columns : (m : Move) (g : Given) → outcome_of m g ≡ wind_by columns m g
winds_by_columns m g = winds_seen m g ∙ ap (λ s. outcome_seen s g m) (sight_by_columns g.table g.n)

pub looks_by_columns : (g : Given) (c : ℕ) → look_of g c ≡ look_by columns g c
looks_by_columns g c = looks_seen g c ∙ ap (λ s. look_seen s g c) (sight_by_columns g.table g.n)

pub tops_by_columns : (which : Which) (g : Given) → top_of which g ≡ top_of_by columns which g
tops_by_columns which g = tops_seen which g ∙ ap (λ s. top_seen s g which) (sight_by_columns g.table g.n)

-- Of the table itself nothing stands in an answer.
same_run : (k : Option ℕ) (o : Option State) (g : Given) (run : Moment → Run) → outcome_by k o g run ≡ outcome_by k o (on_rows g) run
same_run (some k) o g run = refl
same_run none (some s) g run = refl
same_run none none g run = refl

same_seen : (s : Sight) (g : Given) (m : Move) → outcome_seen s g m ≡ outcome_seen s (on_rows g) m
same_seen s g m =
    same_run (first (tests_seen s g ++ own_tests m g.n g.session.position)) (state_seen s g) g (λ x. run_of m s.fields (room g.log g.tape) x)

same_look_seen : (s : Sight) (g : Given) (c : ℕ) → look_seen s g c ≡ look_seen s (on_rows g) c
same_look_seen s g c = ap (λ o. if_some (first (tests_seen s g)) (λ k. refused_look k g.log g.tape) (λ _. looked g c o)) (same_seen s g (by forward c))

-- And so they give what they gave by rows.
pub same_opening : SameOpening
same_opening w n ls ts = opens_seen w n ls ts ∙ ap (λ s. open_seen s ls ts) (same_sight w n)

pub same_outcome : SameOutcome
same_outcome m g =
    winds_seen m g ∙ ap (λ s. outcome_seen s g m) (same_sight g.table g.n) ∙ same_seen (sight_by rows (by_rows g.table g.n) g.n) g m

pub same_look : SameLook
same_look g c =
    looks_seen g c ∙ ap (λ s. look_seen s g c) (same_sight g.table g.n) ∙ same_look_seen (sight_by rows (by_rows g.table g.n) g.n) g c

pub same_top : SameTop
same_top which g = tops_seen which g ∙ ap (λ s. top_seen s g which) (same_sight g.table g.n)
