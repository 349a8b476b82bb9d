-- `any_foreign` asks each byte.
use mathlib.Core.Path.{◌∙◌}
use Rattle.std.proofs.Common.{rules, tests}
use Rattle.std.proofs.lemmas.Iterator.{YieldsList-from_slice}
use Rattle.std.proofs.lemmas.Iterator.Search.{any_from_yields_List}
use Rattle.text.specs.Bytes.{class_of, is_foreign}
use Rattle.reader.proofs.Refusing.{foreign_any}
use Rattle.reader.proofs.scan.any_foreign.Goals as goal

pub returns : goal.returns
returns c =
    let text = c.args.text.now in
    any_from_yields_List (λ b. is_foreign (class_of b)) _ _ c.any.result c.any.ensures.ran (YieldsList-from_slice text c.iter.ensures.rest) (λ x b q k. search (rules, tests))
    ∙ foreign_any text
