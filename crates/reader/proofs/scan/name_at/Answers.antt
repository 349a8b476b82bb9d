-- `name_at` takes the bytes of a name.
use mathlib.Core.Path.{ap, ◌∙◌}
use lib.ListN.{take, drop}
use Rattle.text.specs.Bytes.{in_name, class_of}
use Rattle.reader.proofs.Runs.{run_prefix}
use Rattle.reader.proofs.scan.name_at.Goals as goal

pub returns : goal.returns
returns c =
    let bytes = drop c.args.at c.args.text.now in
    c.run.ensures (λ b. in_name (class_of b)) (λ b r e. e) ∙ ap (λ n. take n bytes) (run_prefix in_name bytes)
