-- `top` cuts the chosen slice where `top_place` says.
use mathlib.Core.Path.{◌≡◌, ap, ◌∙◌}
use Prim.Native.Nat.{◌+◌, ◌-◌, ◌≤◌}
use native.Mathlib.Omega.{arith}
use lib.ListN.{length, take, drop}
use Rattle.std.proofs.lemmas.Result.{err_from_is_err_and}
use Rattle.calls.specs.Session.{Given}
use Rattle.calls.specs.Top.{as_told, slice_given}
use Rattle.session.specs.Types.{lent, which_meant, word_ptr}
use Rattle.session.proofs.Places.{told_part, place_fits, place_cut, place_refused}
use Rattle.session.proofs.top.Goals as goal
use Rattle.session.proofs.top.Goals.{After-choose-words}

pub returns-in_err-place-clause-shown : goal.returns-in_err-place-clause-shown
returns-in_err-place-clause-shown c =
    let a = c.args in
    let p = err_from_is_err_and c.from_residual.result c.from_residual.ensures.1 in
    rw (p.1, p.2) (place_refused (which_meant a.which) (lent a.table.now a.n a.session a.log.now a.tape.now) c.in_err-place.ensures)

pub returns-in_err-place-clause-there : goal.returns-in_err-place-clause-there
returns-in_err-place-clause-there c =
    let a = c.args in
    let p = err_from_is_err_and c.from_residual.result c.from_residual.ensures.1 in
    let start = as_told (which_meant a.which) a.log.ref_ptr a.tape.ref_ptr in
    let at = ap (λ x. x.offset) c.in_err-place.ensures in
    let first : start ≡ word_ptr start 0 = ap (λ y. (start.0, y)) (omega arith) in
    rw p.1 (first ∙ ap (word_ptr start) at)

-- what the call was lent, and of it the words of the list that is told
abbrev given : After-choose-words → Given
given u = let a = u.args in lent a.table.now a.n a.session a.log.now a.tape.now

words : (u : After-choose-words) → u.choose-words.result.now ≡ slice_given (which_meant u.args.which) (given u)
words u = let a = u.args in ap (λ x. x.now) u.choose-words.ensures ∙ told_part (λ x. x.now) (which_meant a.which) a.log a.tape

fits : (u : After-choose-words) → (let p = u.in_ok-place.place in (p.offset + p.size ≤ length u.choose-words.result.now) × (p.offset + p.size ≤ 16384))
fits u = rw (words u) (place_fits (which_meant u.args.which) (given u) u.in_ok-place.ensures)

pub overflow_add-result : goal.overflow_add-result
overflow_add-result c = omega (arith, (fits (goal.at.overflow_add-result c).After-choose-words).1)

pub offset_bounds-words-place : goal.offset_bounds-words-place
offset_bounds-words-place c = omega (arith, (fits (goal.at.offset_bounds-words-place c).After-choose-words).1)

pub slice_bounds-result-end : goal.slice_bounds-result-end
slice_bounds-result-end c = omega (arith, (fits (goal.at.slice_bounds-result-end c).After-choose-words).0)

pub returns-clause-shown : goal.returns-clause-shown
returns-clause-shown c =
    let u = (goal.at.returns-clause-shown c).After-choose-words in
    let p = u.in_ok-place.place in
    (λ i. (take (p.offset + p.size - p.offset) (drop p.offset (words u i)), 0)) ∙ place_cut (which_meant u.args.which) (given u) u.in_ok-place.ensures

pub returns-clause-there : goal.returns-clause-there
returns-clause-there c =
    let u = (goal.at.returns-clause-there c).After-choose-words in
    let a = u.args in
    let ptr = ap (λ x. x.ref_ptr) u.choose-words.ensures ∙ told_part (λ x. x.ref_ptr) (which_meant a.which) a.log a.tape in
    let at = ap (λ x. x.offset) u.in_ok-place.ensures in
    λ i. word_ptr (ptr i) (at i)
