-- `variable_word` looks for the name among the binders' from the innermost outwards.
use mathlib.Core.Path.{◌≡◌, sym, ap, ◌∙◌}
use mathlib.Core.List.{reverse}
use Rattle.std.proofs.Common.{rules}
use Rattle.std.specs.List.{position}
use Rattle.std.proofs.lemmas.Iterator.Adapters.{YieldsList-from_rev_slice}
use Rattle.std.proofs.lemmas.Iterator.Search.{position_from_yields_List}
use Rattle.text.specs.Binding.{same_name}
use Rattle.reader.specs.Scanning.{name_at}
use Rattle.reader.proofs.Naming.{word_found, binder_word}
use Rattle.reader.proofs.scan.variable_word.Goals as goal
use Rattle.reader.proofs.scan.variable_word.Goals.{After-position-binder}

-- which binder, counted from the innermost
found : (c : After-position-binder) → let a = c.args in
    c.position-binder.result ≡ position (λ b. same_name (name_at a.text.now a.at) (name_at a.text.now b)) (reverse a.scope.now)
found c =
    let a = c.args in
    position_from_yields_List (λ b. same_name (name_at a.text.now a.at) (name_at a.text.now b)) _ _ c.position-binder.result c.position-binder.ensures.ran
    (YieldsList-from_rev_slice a.scope.now (search rules)) (λ x b q k. search rules)

pub returns-in-Some : goal.returns-in-Some
returns-in-Some c =
    let a = c.args in
    sym (ap word_found c.in-Some.is)
    ∙ binder_word (name_at a.text.now a.at) a.text.now a.scope.now _ (found (goal.at.returns-in-Some c).After-position-binder)

pub returns-in-None : goal.returns-in-None
returns-in-None c =
    let a = c.args in
    sym (ap word_found c.in-None.is)
    ∙ binder_word (name_at a.text.now a.at) a.text.now a.scope.now _ (found (goal.at.returns-in-None c).After-position-binder)
