-- `level` is that field of the table that lies in the slice.
use Rattle.term.specs.Table.{table_in}
use Rattle.term.proofs.level.Goals as goal

pub returns : goal.returns
unfolding table_in
returns c = c.word.ensures
