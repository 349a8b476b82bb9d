-- `put_numbers` puts the parts of the nodes one after another: those put so far are the text of the first nodes, whose depths are told.
use mathlib.Core.Path.{◌≡◌, refl, ◌∙◌}
use mathlib.Core.List.{List}
use Prim.Native.Nat.{ℕ, ◌+◌}
use native.Mathlib.Omega.{arith}
use lib.ListN.{set, replicate, length-set, length-replicate}
use Rattle.term.specs.Table.{table_in}
use Rattle.term.specs.Accepted.{Accepted}
use Rattle.term.proofs.Accepted.{tree_accepted}
use Rattle.writer.specs.Putting.{Put}
use Rattle.writer.proofs.PartList.{text_to}
use Rattle.writer.proofs.NodesPut.{Depths, no_depths, first_depths, first_room, first_put, depth_room, next_depths, next_room, space_room, next_put, all_put}
use Rattle.writer.proofs.numbers.put_numbers.Goals as goal
use Rattle.writer.proofs.numbers.put_numbers.Goals.{After-depth_of, After-put_node-at, At-loop-last}

-- before the loop no depth is told
abbrev zeros : List ℕ
zeros = replicate 3001 0

pub put_node-at-requires : goal.put_node-at-requires
put_node-at-requires c = first_room _ _ (tree_accepted c.args.tree.now) zeros (no_depths 3001)

pub loop-last-init : goal.loop-last-init
loop-last-init c =
    let s = c in
    (omega arith, (tree_accepted s.args.tree.now).some_node, length-replicate {A = ℕ} 3001 0, refl, λ A. (first_depths _ _ A zeros (no_depths 3001), λ o x. x))

-- The first part was put before the loop, and in it those of the nodes up to this.
so_far : (e : At-loop-last) (A : Accepted e.args.tree.now.words e.args.tree.now.n)
    → Put e.args.out.now 0 (text_to A.term e.loop-last.last) e.loop-last.at e.loop-last.out
so_far e A = (e.loop-last.invariant.4 A).1 _ (first_put e.args.tree.now.words e.args.tree.now.n A zeros (no_depths 3001) e.put_node-at.ensures)

pub depth_of-requires : goal.depth_of-requires
depth_of-requires c =
    let s = c in
    let l = c.loop-last in
    depth_room s.args.tree.now.words s.args.tree.now.n (tree_accepted s.args.tree.now) l.last l.invariant.0 (rw c.n-last-end.ensures at c.loop-last-test.true) l.depths (l.invariant.4 (tree_accepted s.args.tree.now)).0

-- The next node's depth is told then.
told : (e : After-depth_of) (A : Accepted e.args.tree.now.words e.args.tree.now.n)
    → Depths (table_in e.args.tree.now.words e.args.tree.now.n) (set e.loop-last.depths (e.loop-last.last + 1) e.depth_of.result) (e.loop-last.last + 1)
told e A =
    let a = e.args in
    let l = e.loop-last in
    next_depths a.tree.now.words a.tree.now.n A l.last l.invariant.0 (rw e.n-last-end.ensures at e.loop-last-test.true) l.depths (l.invariant.4 A).0 e.depth_of.result
    (omega (arith, l.invariant.2, A.few_nodes, (rw e.n-last-end.ensures at e.loop-last-test.true))) e.depth_of.ensures

pub put_byte-next-requires : goal.put_byte-next-requires
put_byte-next-requires c =
    let s = c in
    let l = c.loop-last in
    space_room s.args.tree.now.words s.args.tree.now.n (tree_accepted s.args.tree.now) l.last l.invariant.0 (rw c.n-last-end.ensures at c.loop-last-test.true) _ (told (goal.at.put_byte-next-requires c).After-depth_of (tree_accepted s.args.tree.now)) l.at (l.at + 1) (omega (arith, (so_far (goal.at.put_byte-next-requires c).At-loop-last (tree_accepted s.args.tree.now)).next)) refl

pub put_node-at-requires-in-loop-last : goal.put_node-at-requires-in-loop-last
put_node-at-requires-in-loop-last c =
    let s = c in
    let l = c.loop-last in
    next_room s.args.tree.now.words s.args.tree.now.n (tree_accepted s.args.tree.now) l.last l.invariant.0 (rw c.n-last-end.ensures at c.loop-last-test.true) _ (told (goal.at.put_node-at-requires-in-loop-last c).After-depth_of (tree_accepted s.args.tree.now)) l.at _ (omega (arith, (so_far (goal.at.put_node-at-requires-in-loop-last c).At-loop-last (tree_accepted s.args.tree.now)).next)) c.put_byte-next.ensures.next

pub loop-last-preserved : goal.loop-last-preserved
loop-last-preserved c =
    let a = c.args in
    let l = c.loop-last in
    let more = (rw c.n-last-end.ensures at c.loop-last-test.true) in (
      omega arith,
      omega arith,
      length-set l.depths (l.last + 1) c.depth_of.result ∙ l.invariant.2,
      c.put_node-at-in-loop-last.auto.out ∙ c.put_byte-next.auto.out ∙ l.invariant.3,
      λ A.
          let d = told (goal.at.loop-last-preserved c).After-depth_of A in (
            d,
            λ o x.
                let y = (l.invariant.4 A).1 o x in
                next_put a.tree.now.words a.tree.now.n A l.last l.invariant.0 more _ d l.at _ (omega (arith, y.next)) c.put_byte-next.ensures.next y c.put_byte-next.ensures c.put_node-at-in-loop-last.ensures,
          ),
    )

pub returns : goal.returns
returns c = λ A.
    let a = c.args in
    let l = c.loop-last in
    let whole : l.last ≡ a.tree.now.n = omega (arith, l.invariant.1) in
    all_put a.tree.now.words a.tree.now.n A whole (so_far (goal.at.returns c).At-loop-last A)

pub bounds-depths-node : goal.bounds-depths-node
bounds-depths-node c = omega (arith, (tree_accepted c.args.tree.now).few_nodes, (rw c.n-last-end.ensures at c.loop-last-test.true))
