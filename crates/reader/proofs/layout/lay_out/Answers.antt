-- `lay_out` lays out a whole term, from node 1 on.
use Rattle.reader.proofs.Laid.{whole_layable, whole_laid}
use Rattle.reader.proofs.layout.lay_out.Goals as goal

pub returns : goal.returns
returns c = λ t w. whole_laid _ c.args.table.now _ _ _ _ t w.all w.room (c.columns.ensures t (whole_layable w))
