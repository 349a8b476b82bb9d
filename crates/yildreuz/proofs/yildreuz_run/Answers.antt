-- `yildreuz_run`: the run's own promise, told in numbers.
use mathlib.Core.Path.{ap, ◌∙◌}
use Rattle.face.specs.Told.{run_told}
use Rattle.yildreuz.proofs.yildreuz_run.Goals as goal

pub returns : goal.returns
returns c = c.run_told.ensures _ ∙ ap (λ r. run_told r) c.run.ensures
