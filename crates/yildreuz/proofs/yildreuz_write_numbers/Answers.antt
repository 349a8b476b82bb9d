-- `yildreuz_write_numbers`: the number writer's own promise, told in numbers.
use mathlib.Core.Path.{ap, ◌∙◌}
use Rattle.face.specs.Told.{write_told}
use Rattle.yildreuz.proofs.yildreuz_write_numbers.Goals as goal

pub returns : goal.returns
returns c = c.written_told.ensures _ ∙ ap (λ r. write_told r) c.write_numbers.ensures
