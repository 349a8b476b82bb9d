-- `yildreuz_open`: the promise of open, told in numbers.
use mathlib.Core.Path.{ap, ◌∙◌}
use Rattle.face.specs.Told.{open_told}
use Rattle.yildreuz.proofs.yildreuz_open.Goals as goal

pub returns : goal.returns
returns c = c.opening_told.ensures _ _ ∙ ap (λ o. open_told o) c.open.ensures
