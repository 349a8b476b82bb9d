-- `any_bad_name` cuts the text at each byte that is in no name, and asks each part.
use mathlib.Core.Path.{◌∙◌}
use mathlib.Core.Bool.{not}
use Rattle.std.proofs.Common.{rules, tests}
use Rattle.std.proofs.lemmas.Iterator.Search.{any_from_yields_List}
use Rattle.std.proofs.lemmas.Iterator.Splits.{YieldsList-from_slice_split}
use Rattle.text.specs.Bytes.{class_of, in_name}
use Rattle.text.specs.Tokens.{is_bad_name}
use Rattle.reader.proofs.Refusing.{bad_part}
use Rattle.reader.proofs.scan.any_bad_name.Goals as goal

pub returns : goal.returns
returns c =
    let text = c.args.text.now in
    any_from_yields_List is_bad_name _ _ c.any.result c.any.ensures.ran
    (YieldsList-from_slice_split _ (λ b. not (in_name (class_of b))) text c.split.ensures.rest c.split.ensures.done c.split.ensures.closure (λ x b q k. search (rules, tests)))
    (λ x b q k. search (rules, tests))
    ∙ bad_part text
