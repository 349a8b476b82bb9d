-- `skip` is as many bytes on as the gap has.
use mathlib.Core.Path.{◌≡◌, ap, ◌∙◌}
use Prim.Native.Nat.{◌+◌}
use native.Mathlib.Omega.{arith}
use lib.ListN.{length, drop, length-drop}
use Rattle.text.specs.Bytes.{class_of}
use Rattle.std.proofs.lemmas.List.Folds.{length-prefix_len}
use Rattle.reader.specs.Scanning.{in_gap, gap_run}
use Rattle.reader.proofs.Runs.{run_prefix}
use Rattle.reader.proofs.Scanning.{gap_fits}
use Rattle.reader.proofs.scan.skip.Goals as goal
use Rattle.reader.proofs.scan.skip.Goals.{After-run}

-- how many there are
many : (c : After-run) → length c.run.result.now ≡ gap_run (drop c.args.at c.args.text.now)
many c =
    let bytes = drop c.args.at c.args.text.now in
    ap length (c.run.ensures (λ b. in_gap (class_of b)) (λ b r e. e)) ∙ length-prefix_len (λ b. in_gap (class_of b)) bytes ∙ run_prefix in_gap bytes

pub overflow_add-result : goal.overflow_add-result
overflow_add-result c = omega (arith, many c, gap_fits (drop c.args.at c.args.text.now), length-drop c.args.at c.args.text.now)

pub returns : goal.returns
returns c = ap (λ n. c.args.at + n) (many c)
