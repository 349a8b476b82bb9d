-- `top_place` by its number: refused, or what the state that it is given shows of the chosen list.
use mathlib.Core.Path.{◌≡◌, sym, ap, ◌∙◌}
use Rattle.std.proofs.lemmas.Result.{err_from_is_err_and}
use Rattle.term.specs.Table.{table_in}
use Rattle.term.specs.Refusal.{refusal_number}
use Rattle.calls.specs.Top.{as_told}
use Rattle.calls.proofs.Top.{top_refused, top_of_state}
use Rattle.session.specs.Types.{lent, which_meant}
use Rattle.session.specs.Steps.{Ready}
use Rattle.session.specs.Part.{place_in, placed}
use Rattle.session.proofs.Calls.{call_ready}
use Rattle.session.proofs.Places.{told_place, told_fits, told_part}
use Rattle.session.proofs.part.top_place.Goals as goal
use Rattle.session.proofs.part.top_place.Goals.{After-choose-len}

pub returns-in_err-tree : goal.returns-in_err-tree
returns-in_err-tree c =
    let a = c.args in
    let p = err_from_is_err_and c.from_residual.result c.from_residual.ensures.1 in
    rw (p.1, p.2)
    (sym (ap placed (top_refused (which_meant a.which) (lent a.table.now a.n a.session a.log.now a.tape.now) (refusal_number c.in_err-tree.field-0.0) (sym c.in_err-tree.ensures.number))))

-- past the test no number refuses the call, so that there is a state
ready : (u : After-choose-len) → (let a = u.args in Ready a.table.now a.n a.session a.log.now a.tape.now)
ready u = let a = u.args in call_ready a.table.now a.n a.session a.log.now a.tape.now (sym u.in_ok-tree.ensures.number)

-- the words of the list that is told
words : (u : After-choose-len) → (let a = u.args in u.choose-words.result.now ≡ as_told (which_meant a.which) a.log.now a.tape.now)
words u = let a = u.args in ap (λ x. x.now) u.choose-words.ensures ∙ told_part (λ x. x.now) (which_meant a.which) a.log a.tape

pub place_in-requires : goal.place_in-requires
place_in-requires c =
    let u = (goal.at.place_in-requires c).After-choose-len in
    rw (words u, u.choose-len.ensures) (told_fits (ready u).token (which_meant u.args.which))

pub returns : goal.returns
returns c =
    let u = (goal.at.returns c).After-choose-len in
    let a = u.args in
    c.place_in.ensures
    ∙ (λ i. place_in (table_in (u.in_ok-tree.ensures.same.0 i) (u.in_ok-tree.ensures.same.1 i)) u.choose-words.result.now u.choose-len.result)
    ∙ (λ i. place_in (table_in a.table.now a.n) (words u i) (u.choose-len.ensures i))
    ∙ told_place (ready u).token (which_meant a.which)
    ∙ sym (ap placed (top_of_state (which_meant a.which) (lent a.table.now a.n a.session a.log.now a.tape.now) (ready u).state (ready u).token.enters))
