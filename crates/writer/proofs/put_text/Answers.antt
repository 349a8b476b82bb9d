-- `put_text` puts the text of the whole table in the dialect that it is told.
use mathlib.Core.Path.{sym}
use Rattle.term.proofs.Accepted.{tree_accepted}
use Rattle.writer.proofs.Whole.{whole_puttable, names_put}
use Rattle.writer.proofs.put_text.Goals as goal

pub put_part-requires : goal.put_part-requires
put_part-requires c = let A = tree_accepted c.args.tree.now in (A.term, (_, whole_puttable _ _ A))

pub returns-in-Names : goal.returns-in-Names
returns-in-Names c =
    let a = c.args in
    rw c.in-Names.is (names_put a.tree.now.words a.tree.now.n c.put_part.ensures)

pub returns-in-Numbers : goal.returns-in-Numbers
returns-in-Numbers c =
    let same = c.copied.ensures in
    rw (c.in-Numbers.is, sym same.0, sym same.1) c.put_numbers.ensures
