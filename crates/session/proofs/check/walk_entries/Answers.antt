-- `walk_entries`: above the tops all is 0, so the node, the turns and the two counts decide.
use mathlib.Core.Path.{◌∙◌}
use Prim.Native.Nat.{◌≤◌}
use native.Mathlib.Omega.{arith}
use lib.ListN.{take}
use Rattle.term.specs.Table.{table_in}
use Rattle.term.proofs.Table.{nodes_are}
use Rattle.session.specs.Counting.{have_log}
use Rattle.session.specs.Types.{session_meant}
use Rattle.session.proofs.Words.{counted_to}
use Rattle.session.proofs.Counting.{no_node, past_nodes, turns_over, log_miscounted, tape_decides}
use Rattle.session.proofs.check.walk_entries.Goals as goal

pub returns-then-node-eq0 : goal.returns-then-node-eq0
returns-then-node-eq0 c =
    let a = c.args in
    no_node (table_in a.tree.now.words a.tree.now.n) (session_meant a.session) a.log.now a.tape.now (omega arith)

pub returns-then-n-node : goal.returns-then-n-node
returns-then-n-node c =
    let a = c.args in
    past_nodes (table_in a.tree.now.words a.tree.now.n) (session_meant a.session) a.log.now a.tape.now (omega (arith, nodes_are a.tree.now.words a.tree.now.n))

pub returns-then-session : goal.returns-then-session
returns-then-session c =
    let a = c.args in
    turns_over (table_in a.tree.now.words a.tree.now.n) (session_meant a.session) a.log.now a.tape.now (omega arith)

pub returns-then-not-is_log : goal.returns-then-not-is_log
returns-then-not-is_log c =
    let a = c.args in
    let T = table_in a.tree.now.words a.tree.now.n in
    log_miscounted T (session_meant a.session) a.log.now a.tape.now
    (counted_to (have_log T (take a.session.log_len a.log.now) 0) c.level-level.result (T.level a.session.node)
    c.level-level.ensures c.is_log.ensures c.if-not-is_log.true)

pub returns : goal.returns
returns c =
    let a = c.args in
    let T = table_in a.tree.now.words a.tree.now.n in
    let from_one : 1 ≤ a.session.node = omega arith in
    let to_last : a.session.node ≤ T.nodes = omega (arith, nodes_are a.tree.now.words a.tree.now.n) in
    let few : a.session.turns ≤ a.session.position = omega arith in
    c.is_tape.ensures
    ∙ tape_decides T (session_meant a.session) a.log.now a.tape.now
    from_one to_last c.requires.log_len_in_bounds.0 c.requires.log_len_in_bounds.1 c.requires.log_value.0 c.requires.log_value.1 few
    (counted_to (have_log T (take a.session.log_len a.log.now) 0) c.level-level.result (T.level a.session.node)
    c.level-level.ensures c.is_log.ensures c.if-not-is_log.false)
