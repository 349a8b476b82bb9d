-- `columns` lays out every part that is ready. Its measure is the words of the code that are left.
use Prim.Native.Nat.{ℕ}
use native.Mathlib.Omega.{arith}
use lib.ListN.{length, length-set}
use Rattle.reader.proofs.Parts.{NodeRoom, node_room, layable_as, body_layable, parts_layable, index_layable}
use Rattle.reader.proofs.Laid.{lam_laid, var_laid, app_laid}
use Rattle.reader.proofs.layout.+columns.Goals as goal
use Rattle.reader.proofs.layout.+columns.Goals.{Start}

here : (t : ℕ) (s : Start t) → let a = s.args in NodeRoom a.code.now (length a.code.now) a.laid a.depth (length a.scope.now) (length a.table.now)
here t s = node_room _ _ _ _ _ _ s.requires.1.0 s.requires.1.1

pub bounds-code-laid : goal.bounds-code-laid
bounds-code-laid t c = omega (arith, here t (goal.at.bounds-code-laid t c).Start)

pub bounds-scope-depth : goal.bounds-scope-depth
bounds-scope-depth t c = omega (arith, here t (goal.at.bounds-scope-depth t c).Start)

pub columns-requires : goal.columns-requires
columns-requires t c =
    let s = (goal.at.columns-requires t c).Start in
    let x = body_layable _ _ _ _ _ _ s.requires.1.0 s.requires.1.1 c.in-1.is in
    let h = here t s in
    (omega (arith, h), (omega (arith, s.requires), (x.0, layable_as (simp length-set) (omega (arith, c.put_node.auto)) x.2)))

pub columns-next-requires : goal.columns-next-requires
columns-next-requires t c =
    let s = (goal.at.columns-next-requires t c).Start in
    let x = parts_layable _ _ _ _ _ _ s.requires.1.0 s.requires.1.1 c.in-2.is in
    let h = here t s in
    (omega (arith, h), (omega (arith, s.requires), (x.function, x.function_layable)))

pub columns-end-requires : goal.columns-end-requires
columns-end-requires t c =
    let s = (goal.at.columns-end-requires t c).Start in
    let x = parts_layable _ _ _ _ _ _ s.requires.1.0 s.requires.1.1 c.in-2.is in
    let h = here t s in
    let n = (c.columns-next.ensures x.function x.function_layable).next in
    (omega (arith, h, n), (omega (arith, s.requires, n), (x.argument, layable_as (omega (arith, c.columns-next.auto)) (omega (arith, c.columns-next.auto)) (x.argument_layable _ n))))

pub overflow_add-application-in-2 : goal.overflow_add-application-in-2
overflow_add-application-in-2 t c =
    let x = parts_layable _ _ _ _ _ _ c.requires.1.0 c.requires.1.1 c.in-2.is in
    omega (arith, (c.columns-next.ensures x.function x.function_layable).next, x.function_layable)

pub overflow_sub-binder : goal.overflow_sub-binder
overflow_sub-binder t c = let x = index_layable _ _ _ _ _ _ c.requires.1.0 c.requires.1.1 (omega (arith, c.in_default)) (omega (arith, c.in_default)) in omega (arith, x.2, x.3)

pub bounds-scope-depth-in_default : goal.bounds-scope-depth-in_default
bounds-scope-depth-in_default t c = let x = index_layable _ _ _ _ _ _ c.requires.1.0 c.requires.1.1 (omega (arith, c.in_default)) (omega (arith, c.in_default)) in omega (arith, x.2, x.3, here t (goal.at.bounds-scope-depth-in_default t c).Start)

pub put_node-requires-in_default : goal.put_node-requires-in_default
put_node-requires-in_default t c = omega (arith, here t (goal.at.put_node-requires-in_default t c).Start)

pub returns-in-1 : goal.returns-in-1
returns-in-1 t c =
    let a = c.args in
    lam_laid a.code.now (length a.code.now) a.laid a.parent a.level a.depth a.scope.now a.table.now _ _ _ _
    c.in-1.is c.put_node.ensures c.columns.ensures

pub returns-in-2 : goal.returns-in-2
returns-in-2 t c =
    let a = c.args in
    app_laid a.code.now (length a.code.now) a.laid a.parent a.level a.depth a.scope.now a.table.now _ _ _ _ _ _ _
    c.in-2.is c.columns-next.auto.scope c.columns-next.auto.table
    c.columns-next.ensures c.columns-end.ensures c.put_node-in-2.ensures

pub returns-in_default : goal.returns-in_default
returns-in_default t c =
    let a = c.args in
    var_laid a.code.now (length a.code.now) a.laid a.parent a.level a.depth a.scope.now a.table.now _
    (omega (arith, c.in_default)) (omega (arith, c.in_default)) c.put_node-in_default.ensures
