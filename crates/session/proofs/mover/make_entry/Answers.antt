-- `make_entry`: the mover gets all of the part but one word, and the own word goes above what it moved.
use native.Mathlib.Omega.{arith}
use Rattle.term.specs.Table.{table_in}
use Rattle.session.proofs.MovedWords.{entry_put}
use Rattle.session.proofs.mover.make_entry.Goals as goal

pub returns : goal.returns
returns c =
    let a = c.args in
    let moved = rw c.in_ok-last.ensures.1 at c.in_ok-k.ensures in
    rw c.in_ok-last.ensures.1
    (entry_put (table_in a.tree.now.words a.tree.now.n) a.from.now a.top a.owed a.own a.to.now (λ z. omega (arith, c.in_ok-last.ensures.0)) c.in_ok-k.k _ _ c.requires.0.0 moved)
