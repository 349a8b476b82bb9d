-- `put_node` puts a sign, or the number by the depths of a variable and of its binder.
use mathlib.Core.Path.{◌≡◌, refl, sym, ap, ◌∙◌}
use mathlib.Core.List.{[], ◌∷◌}
use Prim.Native.Nat.{◌-◌}
use native.Mathlib.Omega.{arith}
use Rattle.decimal.specs.Decimal.{decimal}
use Rattle.term.specs.Table.{table_in}
use Rattle.text.specs.Bytes.{lambda}
use Rattle.text.specs.NumberGrammar.{at_sign}
use Rattle.writer.specs.NumberParts.{depth_in}
use Rattle.writer.proofs.KindWords
use Rattle.writer.proofs.Putting.{digits_put}
use Rattle.writer.proofs.NumberParts.{Part, variable_part, abstraction_part, application_part}
use Rattle.writer.proofs.numbers.put_node.Goals as goal
use Rattle.writer.proofs.numbers.put_node.Goals.{After-left-binder, Else-eq-2, Then-eq-2}

-- At a variable.
is_variable : (e : After-left-binder) → let a = e.args in (table_in a.tree.now.words a.tree.now.n).kind a.node ≡ 1
is_variable e = KindWords.is_variable _ refl refl refl e.kind-kind.result _ e.kind-kind.ensures (sym e.eq.ensures ∙ e.if-eq.true)

variable : (e : After-left-binder) → let a = e.args in
    Part (table_in a.tree.now.words a.tree.now.n) (depth_in a.depths.now) a.node (decimal (depth_in a.depths.now a.node - depth_in a.depths.now e.left-binder.result - 1))
variable e = let a = e.args in variable_part (table_in a.tree.now.words a.tree.now.n) (depth_in a.depths.now) a.node e.left-binder.result e.left-binder.ensures (is_variable e)

pub bounds-depths-binder : goal.bounds-depths-binder
bounds-depths-binder c = omega (arith, c.requires.binder_there (is_variable (goal.at.bounds-depths-binder c).After-left-binder), c.left-binder.ensures)

pub overflow_sub-index : goal.overflow_sub-index
overflow_sub-index c =
    let s = c in
    omega (arith, s.requires.binder_around (is_variable (goal.at.overflow_sub-index c).After-left-binder), ap (depth_in s.args.depths.now) c.left-binder.ensures)

pub overflow_sub-index-then-eq : goal.overflow_sub-index-then-eq
overflow_sub-index-then-eq c =
    let s = c in
    omega (arith, s.requires.binder_around (is_variable (goal.at.overflow_sub-index-then-eq c).After-left-binder), ap (depth_in s.args.depths.now) c.left-binder.ensures)

pub overflow_add-result : goal.overflow_add-result
overflow_add-result c = omega (arith, c.requires.short, (variable (goal.at.overflow_add-result c).After-left-binder).size_is, ap (λ x. x.0) c.put.ensures)

pub returns-then-eq : goal.returns-then-eq
returns-then-eq c = (variable (goal.at.returns-then-eq c).After-left-binder).put (digits_put _ _ _ _ _ c.put.ensures)

-- At an abstraction.
abstraction : (e : Then-eq-2) → let a = e.args in Part (table_in a.tree.now.words a.tree.now.n) (depth_in a.depths.now) a.node (lambda ∷ [])
abstraction e = let a = e.args in abstraction_part (table_in a.tree.now.words a.tree.now.n) (depth_in a.depths.now) a.node (KindWords.is_abstraction _ refl refl refl e.kind-kind.result _ e.kind-kind.ensures (sym e.eq-2.ensures ∙ e.if-eq-2.true))

pub put_byte-requires : goal.put_byte-requires
put_byte-requires c = omega (arith, c.requires.short, (abstraction (goal.at.put_byte-requires c).Then-eq-2).size_is)

pub returns-then-eq-2 : goal.returns-then-eq-2
returns-then-eq-2 c = (abstraction (goal.at.returns-then-eq-2 c).Then-eq-2).put c.put_byte.ensures

-- At an application.
application : (e : Else-eq-2) → let a = e.args in Part (table_in a.tree.now.words a.tree.now.n) (depth_in a.depths.now) a.node (at_sign ∷ [])
application e =
    let a = e.args in
    let k = e.kind-kind in
    application_part (table_in a.tree.now.words a.tree.now.n) (depth_in a.depths.now) a.node
    (KindWords.no_variable _ refl refl refl k.result _ k.ensures (sym e.eq.ensures ∙ e.if-eq.false))
    (KindWords.no_abstraction _ refl refl refl k.result _ k.ensures (sym e.eq-2.ensures ∙ e.if-eq-2.false))

pub put_byte-requires-2 : goal.put_byte-requires-2
put_byte-requires-2 c = omega (arith, c.requires.short, (application (goal.at.put_byte-requires-2 c).Else-eq-2).size_is)

pub returns : goal.returns
returns c = (application (goal.at.returns c).Else-eq-2).put c.put_byte-2.ensures
