-- `name_end` is as many bytes on as the name has.
use mathlib.Core.Path.{◌≡◌, ap, ◌∙◌}
use Prim.Native.Nat.{◌+◌}
use native.Mathlib.Omega.{arith}
use lib.ListN.{length, drop, length-drop}
use Rattle.reader.specs.Scanning.{name_run}
use Rattle.reader.proofs.Scanning.{name_length, name_fits}
use Rattle.reader.proofs.scan.name_end.Goals as goal
use Rattle.reader.proofs.scan.name_end.Goals.{After-name_at}

-- how many there are
many : (c : After-name_at) → length c.name_at.result.now ≡ name_run (drop c.args.at c.args.text.now)
many c = ap length c.name_at.ensures ∙ name_length (drop c.args.at c.args.text.now)

pub overflow_add-result : goal.overflow_add-result
overflow_add-result c = omega (arith, many c, name_fits (drop c.args.at c.args.text.now), length-drop c.args.at c.args.text.now)

pub returns : goal.returns
returns c = ap (λ n. c.args.at + n) (many c)
