-- `yildreuz_read_numbers`: the number reader's own promise, told in numbers.
use mathlib.Core.Path.{ap, ◌∙◌}
use Rattle.face.specs.Told.{read_told}
use Rattle.yildreuz.proofs.yildreuz_read_numbers.Goals as goal

pub returns : goal.returns
returns c = c.reading_told.ensures _ ∙ ap (λ r. read_told r) c.read_numbers.ensures
