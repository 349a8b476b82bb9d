-- `word` reads a field of a node in its column, and 0 where there is none.
use mathlib.Core.Path.{sym}
use Prim.Native.Nat.{◌+◌, ◌-◌, ◌*◌, ◌<◌}
use native.Mathlib.Omega.{arith}
use Rattle.term.specs.Table.{columns}
use Rattle.term.proofs.Table.{in_columns, word_short, word_beyond, word_there}
use Rattle.term.proofs.word.Goals as goal
use Rattle.term.proofs.word.Goals.{Else-n-node}

pub returns-then-table-nodes : goal.returns-then-table-nodes
returns-then-table-nodes c = let a = c.args in sym (word_short columns a.table.now a.n a.node a.field c.if-table-nodes.true)

pub returns-then-n-node : goal.returns-then-n-node
returns-then-n-node c = let a = c.args in sym (word_beyond columns a.table.now a.n a.node a.field c.if-n-node.true)

-- the word's place is one of the table's
place : (c : Else-n-node) → let a = c.args in a.field * a.n + (a.node - 1) < 5 * a.n
place c = let s = c.before.before.before in in_columns s.args.field (s.args.node - 1) s.args.n s.requires (omega (arith, c.if-n-node.false, c.if-node-eq0.false))

pub overflow_mul-result : goal.overflow_mul-result
overflow_mul-result c = omega (arith, place (goal.at.overflow_mul-result c).Else-n-node, c.well_formed)

pub overflow_add-result : goal.overflow_add-result
overflow_add-result c = omega (arith, place (goal.at.overflow_add-result c).Else-n-node, c.well_formed)

pub offset_bounds-table-field : goal.offset_bounds-table-field
offset_bounds-table-field c = omega (arith, place (goal.at.offset_bounds-table-field c).Else-n-node, c.well_formed)

pub bounds-table-field : goal.bounds-table-field
bounds-table-field c = omega (arith, place (goal.at.bounds-table-field c).Else-n-node, c.if-table-nodes.false)

pub overflow_cast-result-3 : goal.overflow_cast-result-3
overflow_cast-result-3 c = let a = c.args in omega (arith, c.type_inv.table (a.field * a.n + (a.node - 1)))

pub returns : goal.returns
returns c =
    let a = c.args in
    word_there a.table.now a.n a.node a.field c.if-node-eq0.false c.if-n-node.false c.if-table-nodes.false
