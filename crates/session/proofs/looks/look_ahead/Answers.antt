-- `look_ahead`: forward, and back again by the steps made, so that every word is as it was.
use Rattle.session.proofs.Ahead.{there_ready, looks_ahead}
use Rattle.session.proofs.looks.look_ahead.Goals as goal

pub wind-home-requires : goal.wind-home-requires
wind-home-requires c =
    let u = c in
    let k = c.wind-there in
    there_ready u.requires.token u.args.count k.result k.new.log k.new.tape k.ensures

pub returns : goal.returns
returns c =
    let u = c in
    let k = c.wind-there in
    let home = c.wind-home in
    rw c.told.ensures
    (looks_ahead u.requires.token u.args.count k.result k.new.log k.new.tape k.ensures home.result home.new.log home.new.tape home.ensures)
