-- `run` takes the bytes that pass.
use mathlib.Core.Path.{sym, ap, ap₂, ◌∙◌}
use lib.ListN.{length, take, drop, length-map}
use Rattle.std.proofs.Common.{rules, tests}
use Rattle.std.proofs.lemmas.List.Folds.{length-prefix_len}
use Rattle.std.proofs.lemmas.Iterator.{YieldsList-from_slice, items_from_drains}
use Rattle.std.proofs.lemmas.Iterator.Consumers.{YieldsList-at}
use Rattle.std.proofs.lemmas.Iterator.Search.{YieldsList-from_take_while}
use Rattle.reader.proofs.scan.run.Goals as goal

pub returns : goal.returns
returns g c kind h =
    let bytes = drop c.args.at c.args.text.now in
    let all = YieldsList-at c.take_while.ensures.source (YieldsList-from_slice bytes (c.iter.ensures.rest ∙ c.rest-bytes.ensures)) in
    let d = c.count-many.ensures.ran.1 in
    let taken = items_from_drains c.count-many.ensures.ran.0 (d.1.0, d.1.1, λ _. (d.0, d.1.2))
    (YieldsList-from_take_while _ kind all c.take_while.ensures.closure c.take_while.ensures.done (λ x b q k. search (rules, tests, h))) in
    ap₂ take (c.count-many.ensures.ran.2 ∙ sym (length-map _ _) ∙ ap length taken ∙ length-prefix_len kind bytes) c.rest-bytes.ensures
