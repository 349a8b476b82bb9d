-- `seek_back`: where the search ends as found, and else as it began.
use mathlib.Core.Path.{◌≡◌}
use mathlib.Core.Bool.{false}
use native.Mathlib.Omega.{arith}
use Rattle.calls.specs.Visits.{spot, is_found}
use Rattle.session.specs.Types.{dir_meant, stop_meant}
use Rattle.session.proofs.Searches.{not_found, search_ready, search_home, search_none}
use Rattle.session.proofs.visits.seek_back.Goals as goal
use Rattle.session.proofs.visits.seek_back.Goals.{After-wind-home}

-- past the test the search has not found
missed : (e : After-wind-home) → is_found (stop_meant e.seek-there.result.stop) ≡ false
missed e = not_found e.seek-there.result.stop (λ f. grind arith)

pub wind-home-requires : goal.wind-home-requires
wind-home-requires c =
    let a = c.args in
    let p = c.requires in
    let k = c.seek-there in
    search_ready p.token (spot a.node (dir_meant a.dir)) k.result k.new.log k.new.tape (k.ensures p.state p.token)

-- Forward again, both slices are those given.
home : (e : After-wind-home) → (let a = e.args in (e.wind-home.new.log ≡ a.log.now) × (e.wind-home.new.tape ≡ a.tape.now))
home e =
    let u = e in
    let k = e.seek-there in
    search_home u.requires.token (spot u.args.node (dir_meant u.args.dir)) k.result k.new.log k.new.tape (k.ensures u.requires.state u.requires.token)
    (missed e)
    (omega (arith, u.well_formed)) e.wind-home.result e.wind-home.new.log e.wind-home.new.tape e.wind-home.ensures

pub wind-here-requires : goal.wind-here-requires
wind-here-requires c =
    let e = (goal.at.wind-here-requires c).After-wind-home in
    rw ((home e).0, (home e).1) e.requires

pub returns : goal.returns
returns c = λ s h.
    let e = (goal.at.returns c).After-wind-home in
    let a = e.args in
    let k = e.seek-there in
    let last = c.wind-here in
    rw c.halted.ensures
    (search_none h (spot a.node (dir_meant a.dir)) k.result k.new.log k.new.tape (k.ensures s h) (missed e)
    (home e) last.result last.new.log last.new.tape last.ensures)
