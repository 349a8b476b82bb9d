-- `digits_at` takes the digits.
use mathlib.Core.Path.{◌∙◌}
use lib.ListN.{drop}
use Rattle.text.specs.Bytes.{is_digit, class_of}
use Rattle.reader.proofs.Digits.{digits_while}
use Rattle.reader.proofs.scan.digits_at.Goals as goal

pub returns : goal.returns
returns c = c.run.ensures (λ b. is_digit (class_of b)) (λ b r e. e) ∙ digits_while (drop c.args.at c.args.text.now)
