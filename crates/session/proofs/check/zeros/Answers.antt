-- `zeros`: every word is 0, or one is not.
use mathlib.Core.Path.{◌≡◌}
use borrow.Author.Tests.{tests}
use Rattle.std.proofs.Common.{rules}
use Rattle.std.proofs.lemmas.Iterator.{YieldsList-from_slice, cases_from_all}
use Rattle.session.proofs.Words.{zeros_told}
use Rattle.session.proofs.check.zeros.Goals as goal

pub returns : goal.returns
returns c =
    zeros_told c.args.words.now c.all.result
    (cases_from_all _ _ _ (λ x. x ≡ 0) (λ x. x ≡ 0 → ⊥) c.all.ensures.ran (YieldsList-from_slice c.args.words.now cc)
    (λ x q k. search (rules, tests)) (λ x q k. search (rules, tests)))
