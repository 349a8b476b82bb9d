-- `name_first` finds a name where the bytes after the gap begin with one.
use Rattle.reader.proofs.NextToken.{first_found, first_missing}
use Rattle.reader.proofs.token.name_first.Goals as goal

pub returns-then-i-end : goal.returns-then-i-end
returns-then-i-end c =
    let a = c.args in
    first_found a.text.now a.at c.skip-i.result c.skip-i.ensures c.name_end-end.result c.requires c.name_end-end.ensures c.if-i-end.true

pub returns-else-i-end : goal.returns-else-i-end
returns-else-i-end c =
    let a = c.args in
    first_missing a.text.now a.at c.skip-i.result c.skip-i.ensures c.name_end-end.result c.name_end-end.ensures c.if-i-end.false
