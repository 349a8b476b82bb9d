-- `put_part` and `put_enclosed` put the text of every part that stands at the node. The measure is the nodes from this one on, and then the function's rank.
use Prim.Native.Nat.{ℕ, ◌+◌}
use mathlib.Core.Path.{◌≡◌, refl, sym, ap, ◌∙◌}
use mathlib.Core.Bool.{Bool, not}
use native.Mathlib.Omega.{arith}
use lib.ListN.{length}
use lib.Dec.{eqb}
use Rattle.text.specs.Written.{node_name}
use Rattle.term.specs.Table.{table_in}
use Rattle.term.proofs.Accepted.{tree_accepted}
use Rattle.writer.proofs.KindWords
use Rattle.writer.proofs.Parts.{name_room, variable_put, BodyRoom, body_room, abstraction_put, SidesRoom, sides_room, application_put, brackets_put}
use Rattle.writer.proofs.part.+put_enclosed_put_part.Goals as goal
use Rattle.writer.proofs.part.+put_enclosed_put_part.Goals.{put_part-Else-eq-2, put_part-Then-eq-2}

pub put_enclosed-returns : goal.put_enclosed-returns
put_enclosed-returns t c =
    let a = c.args in
    brackets_put a.tree.now.words a.tree.now.n a.node a.at a.brackets c.if-not-brackets.false
    c.put_byte-inner.ensures c.put_part-end.ensures c.put_byte.ensures

pub put_part-put_name-requires : goal.put_part-put_name-requires
put_part-put_name-requires t c =
    let s = c in
    let a = s.args in
    let h = s.requires in
    omega (arith, ap (λ i. length (node_name i)) c.left.ensures, name_room a.tree.now.words a.tree.now.n a.node a.at h.0 h.1.0 h.1.1 (KindWords.is_variable _ refl refl refl c.kind-kind.result _ c.kind-kind.ensures (sym c.eq.ensures ∙ c.if-eq.true)))

pub put_part-returns-then-eq : goal.put_part-returns-then-eq
put_part-returns-then-eq t c =
    let a = c.args in
    variable_put a.tree.now.words a.tree.now.n a.node a.at (KindWords.is_variable _ refl refl refl c.kind-kind.result _ c.kind-kind.ensures (sym c.eq.ensures ∙ c.if-eq.true))
    (rw c.left.ensures at c.put_name.ensures)

-- At an abstraction: what its body has room for.
is_abstraction : (t : ℕ) (e : put_part-Then-eq-2 t) → (table_in e.args.tree.now.words e.args.tree.now.n).kind e.args.node ≡ 2
is_abstraction t e = KindWords.is_abstraction _ refl refl refl e.kind-kind.result _ e.kind-kind.ensures (sym e.eq-2.ensures ∙ e.if-eq-2.true)

body : (t : ℕ) (e : put_part-Then-eq-2 t) → BodyRoom e.args.tree.now.words e.args.tree.now.n e.args.node e.args.at e.requires.0 e.requires.1.0
body t e = body_room _ _ _ _ e.requires.0 e.requires.1.0 e.requires.1.1 (is_abstraction t e)

pub put_part-put_binder-body-requires : goal.put_part-put_binder-body-requires
put_part-put_binder-body-requires t c = (body t (goal.at.put_part-put_binder-body-requires t c).Then-eq-2).binder_room

pub put_part-overflow_add-node : goal.put_part-overflow_add-node
put_part-overflow_add-node t c = omega (arith, (body t (goal.at.put_part-overflow_add-node t c).Then-eq-2).within, (tree_accepted c.args.tree.now).few_nodes)

pub put_part-put_part-requires : goal.put_part-put_part-requires
put_part-put_part-requires t c =
    let x = body t (goal.at.put_part-put_part-requires t c).Then-eq-2 in
    (omega (arith, x.within), (x.body, (_, x.puttable _ c.put_binder-body.ensures.next)))

pub put_part-returns-then-eq-2 : goal.put_part-returns-then-eq-2
put_part-returns-then-eq-2 t c =
    let a = c.args in
    abstraction_put a.tree.now.words a.tree.now.n a.node a.at (is_abstraction t (goal.at.put_part-returns-then-eq-2 t c).Then-eq-2) c.put_binder-body.ensures c.put_part.ensures

-- At an application: what its function and its argument, node j, have room for, each in brackets or not.
no_variable : (t : ℕ) (e : put_part-Else-eq-2 t) → (table_in e.args.tree.now.words e.args.tree.now.n).kind e.args.node ≡ 1 → ⊥
no_variable t e = KindWords.no_variable _ refl refl refl e.kind-kind.result _ e.kind-kind.ensures (sym e.eq.ensures ∙ e.if-eq.false)

no_abstraction : (t : ℕ) (e : put_part-Else-eq-2 t) → (table_in e.args.tree.now.words e.args.tree.now.n).kind e.args.node ≡ 2 → ⊥
no_abstraction t e = KindWords.no_abstraction _ refl refl refl e.kind-kind.result _ e.kind-kind.ensures (sym e.eq-2.ensures ∙ e.if-eq-2.false)

sides : (t : ℕ) (e : put_part-Else-eq-2 t) (j : ℕ) (b c : Bool) → (let T = table_in e.args.tree.now.words e.args.tree.now.n in
    (j_is : j ≡ T.right e.args.node) (b_is : b ≡ eqb (T.kind (e.args.node + 1)) 2) (c_is : c ≡ not (eqb (T.kind j) 1))
    → SidesRoom e.args.tree.now.words e.args.tree.now.n e.args.node e.args.at j b c j_is b_is c_is e.requires.0 e.requires.1.0)
sides t e j b c j_is b_is c_is =
    sides_room e.args.tree.now.words e.args.tree.now.n e.args.node e.args.at j b c j_is b_is c_is e.requires.0 e.requires.1.0 e.requires.1.1 (no_variable t e) (no_abstraction t e)

pub put_part-overflow_add-function : goal.put_part-overflow_add-function
put_part-overflow_add-function t c = let x = sides t (goal.at.put_part-overflow_add-function t c).Else-eq-2 _ _ _ refl refl refl in omega (arith, x.within, x.later, (tree_accepted c.args.tree.now).few_nodes)

pub put_part-put_enclosed-space-requires : goal.put_part-put_enclosed-space-requires
put_part-put_enclosed-space-requires t c =
    let e = (goal.at.put_part-put_enclosed-space-requires t c).Else-eq-2 in
    let x = sides t e _ _ _ refl (c.eq-abstracts.ensures ∙ KindWords.abstraction_same _ refl refl refl c.kind.result _ c.kind.ensures) refl in
    (omega (arith, x.within, x.later), (x.function, (_, x.function_puttable)))

pub put_part-put_byte-next-requires : goal.put_part-put_byte-next-requires
put_part-put_byte-next-requires t c =
    let x = sides t (goal.at.put_part-put_byte-next-requires t c).Else-eq-2 _ _ _ refl (c.eq-abstracts.ensures ∙ KindWords.abstraction_same _ refl refl refl c.kind.result _ c.kind.ensures) refl in
    x.space_room _ (c.put_enclosed-space.ensures x.function _ x.function_puttable).next

pub put_part-put_enclosed-requires : goal.put_part-put_enclosed-requires
put_part-put_enclosed-requires t c =
    let e = (goal.at.put_part-put_enclosed-requires t c).Else-eq-2 in
    let x = sides t e _ _ _ c.right-argument.ensures (c.eq-abstracts.ensures ∙ KindWords.abstraction_same _ refl refl refl c.kind.result _ c.kind.ensures) (c.ne-compound.ensures ∙ ap not (KindWords.variable_same _ refl refl refl c.kind-2.result _ c.kind-2.ensures)) in (
      omega (arith, x.within, x.later),
      (x.argument, (_, x.argument_puttable _ _ (c.put_enclosed-space.ensures x.function _ x.function_puttable).next c.put_byte-next.ensures.next)),
    )

pub put_part-returns : goal.put_part-returns
put_part-returns t c =
    let e = (goal.at.put_part-returns t c).Else-eq-2 in
    let a = e.args in
    application_put a.tree.now.words a.tree.now.n a.node a.at _ _ _ c.right-argument.ensures (c.eq-abstracts.ensures ∙ KindWords.abstraction_same _ refl refl refl c.kind.result _ c.kind.ensures) (c.ne-compound.ensures ∙ ap not (KindWords.variable_same _ refl refl refl c.kind-2.result _ c.kind-2.ensures))
    (no_variable t e) (no_abstraction t e) c.put_enclosed-space.ensures c.put_byte-next.ensures c.put_enclosed.ensures
