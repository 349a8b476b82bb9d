-- `part_end` walks over one part: what it answers follows, case by case, from what it answers below.
use Prim.Native.Nat.{ℕ, ◌+◌, ◌≤◌}
use mathlib.Core.List.{List}
use mathlib.Core.Path.{◌≡◌, sym, ◌∙◌, subst}
use native.Mathlib.Omega.{arith}
use Rattle.std.specs.Prelude.{Some}
use Rattle.term.specs.Table.{table_in}
use Rattle.term.specs.declared.kinds.Kind.TheVariants.{Variable, Abstraction, Application}
use Rattle.term.specs.Walk.{RootIs, PartWalked, end_said, binders_in}
use Rattle.term.proofs.Table.{nodes_are}
use Rattle.term.proofs.Scope.{is_around, room_in_body, room_in_function, room_in_argument}
use Rattle.term.proofs.Walk.{root_there, walked_variable, walked_unbound, walked_abstraction, walked_no_function, walked_elsewhere, walked_application, end_some}
use Rattle.term.proofs.+part_end.Goals as goal
use Rattle.term.proofs.+part_end.Goals.{In-Variable, In-Abstraction, In-Application, Else-j-eq0}

-- a node that may be a root is one of the table's
there : (w : List ℕ) (n i p v : ℕ) (k : _) → RootIs (table_in w n) i p v (Some k) → i ≤ n
there w n i p v k h = rw nodes_are at (root_there (table_in w n) i p v k h)

-- what is known of the root in each case
variable : (t : ℕ) (c : In-Variable t) → RootIs (table_in c.args.table.now c.args.n) c.args.i c.args.p c.args.v (Some Variable)
variable t c = let a = c.args in subst (λ k. RootIs (table_in a.table.now a.n) a.i a.p a.v (Some k)) c.in-Variable.is c.in-Some.ensures

abstraction : (t : ℕ) (c : In-Abstraction t) → RootIs (table_in c.args.table.now c.args.n) c.args.i c.args.p c.args.v (Some Abstraction)
abstraction t c = let a = c.args in subst (λ k. RootIs (table_in a.table.now a.n) a.i a.p a.v (Some k)) c.in-Abstraction.is c.in-Some.ensures

application : (t : ℕ) (c : In-Application t) → RootIs (table_in c.args.table.now c.args.n) c.args.i c.args.p c.args.v (Some Application)
application t c = let a = c.args in subst (λ k. RootIs (table_in a.table.now a.n) a.i a.p a.v (Some k)) c.in-Application.is c.in-Some.ensures

pub in_scope-requires : goal.in_scope-requires
in_scope-requires t c =
    let a = c.args in
    let h = there a.table.now a.n a.i a.p a.v c.in-Some.kind c.in-Some.ensures in
    (omega (arith, c.requires.few_nodes, c.requires.long, c.requires.binders), c.requires.rising)

pub overflow_add-result : goal.overflow_add-result
overflow_add-result t c =
    let a = c.args in
    let h = there a.table.now a.n a.i a.p a.v c.in-Some.kind c.in-Some.ensures in
    omega (arith, c.requires.few_nodes)

pub returns-then-in_scope : goal.returns-then-in_scope
returns-then-in_scope t c =
    let a = c.args in
    subst (PartWalked (table_in a.table.now a.n) a.scope.now a.scope.now a.depth a.i a.p a.v) (sym (end_some (a.i + 1) (omega arith)))
    (walked_variable (table_in a.table.now a.n) a.scope.now a.depth a.i a.p a.v (variable t (goal.at.returns-then-in_scope t c).In-Variable)
    (subst (λ b. is_around b (binders_in a.scope.now a.depth) ≡ _) c.left-b.ensures (sym c.in_scope.ensures ∙ c.if-in_scope.true)))

pub returns-else-in_scope : goal.returns-else-in_scope
returns-else-in_scope t c =
    let a = c.args in
    walked_unbound (table_in a.table.now a.n) a.scope.now a.depth a.i a.p a.v (variable t (goal.at.returns-else-in_scope t c).In-Variable)
    (subst (λ b. is_around b (binders_in a.scope.now a.depth) ≡ _) c.left-b.ensures (sym c.in_scope.ensures ∙ c.if-in_scope.false))

pub bounds-scope-depth : goal.bounds-scope-depth
bounds-scope-depth t c =
    let a = c.args in
    let h = there a.table.now a.n a.i a.p a.v c.in-Some.kind c.in-Some.ensures in
    omega (arith, c.requires.few_nodes, c.requires.long, c.requires.binders)

pub overflow_add-i : goal.overflow_add-i
overflow_add-i t c =
    let a = c.args in
    let h = there a.table.now a.n a.i a.p a.v c.in-Some.kind c.in-Some.ensures in
    omega (arith, c.requires.few_nodes)

pub part_end-requires : goal.part_end-requires
part_end-requires t c =
    let a = c.args in
    let h = there a.table.now a.n a.i a.p a.v c.in-Some.kind c.in-Some.ensures in
    (omega arith, room_in_body a.scope.now a.n a.depth a.i a.v (omega arith) c.requires)

pub returns-in-Abstraction : goal.returns-in-Abstraction
returns-in-Abstraction t c =
    let a = c.args in
    let b = c.part_end in
    let h = there a.table.now a.n a.i a.p a.v c.in-Some.kind c.in-Some.ensures in
    walked_abstraction (table_in a.table.now a.n) a.scope.now a.depth a.i a.p a.v
    (abstraction t (goal.at.returns-in-Abstraction t c).In-Abstraction) (omega arith)
    b.new.scope _ b.ensures

pub overflow_add-i-in-Application : goal.overflow_add-i-in-Application
overflow_add-i-in-Application t c =
    let a = c.args in
    let h = there a.table.now a.n a.i a.p a.v c.in-Some.kind c.in-Some.ensures in
    omega (arith, c.requires.few_nodes)

pub part_end-j-requires : goal.part_end-j-requires
part_end-j-requires t c =
    let a = c.args in
    let h = there a.table.now a.n a.i a.p a.v c.in-Some.kind c.in-Some.ensures in
    (omega arith, room_in_function a.scope.now a.n a.depth a.i a.v c.requires)

-- what is known of the function, where there is one
function : (t : ℕ) (c : Else-j-eq0 t) → let a = c.args in let f = c.part_end-j in PartWalked (table_in a.table.now a.n) a.scope.now f.new.scope a.depth (a.i + 1) a.i a.v (Some f.result)
function t c =
    let a = c.args in
    let f = c.part_end-j in
    subst (PartWalked (table_in a.table.now a.n) a.scope.now f.new.scope a.depth (a.i + 1) a.i a.v) (end_some f.result (omega (arith, c.if-j-eq0.false))) f.ensures

pub returns-then-j-eq0 : goal.returns-then-j-eq0
returns-then-j-eq0 t c =
    let a = c.args in
    let f = c.part_end-j in
    walked_no_function (table_in a.table.now a.n) a.scope.now a.depth a.i a.p a.v (application t (goal.at.returns-then-j-eq0 t c).In-Application) f.new.scope
    (subst (λ r. PartWalked (table_in a.table.now a.n) a.scope.now f.new.scope a.depth (a.i + 1) a.i a.v (end_said r)) c.if-j-eq0.true f.ensures)

pub returns-then-right-j : goal.returns-then-right-j
returns-then-right-j t c =
    let a = c.args in
    walked_elsewhere (table_in a.table.now a.n) a.scope.now a.depth a.i a.p a.v (application t (goal.at.returns-then-right-j t c).In-Application) c.part_end-j.new.scope _
    (function t (goal.at.returns-then-right-j t c).Else-j-eq0) (λ e. omega (arith, c.right.ensures, c.if-right-j.true))

pub part_end-requires-in-Application : goal.part_end-requires-in-Application
part_end-requires-in-Application t c =
    let a = c.args in
    let f = c.part_end-j in
    let e = function t (goal.at.part_end-requires-in-Application t c).Else-j-eq0 in
    let l = e.answer.later in
    (omega (arith, l, e.answer.inside, nodes_are a.table.now a.n), room_in_argument a.scope.now f.new.scope a.n a.depth a.i _ a.v (omega (arith, f.auto.scope)) e.same (omega (arith, l)) c.requires)

pub returns-else-right-j : goal.returns-else-right-j
returns-else-right-j t c =
    let a = c.args in
    let b = c.part_end-in-Application in
    walked_application (table_in a.table.now a.n) a.scope.now a.depth a.i a.p a.v (application t (goal.at.returns-else-right-j t c).In-Application) c.part_end-j.new.scope _
    (function t (goal.at.returns-else-right-j t c).Else-j-eq0) (sym c.right.ensures ∙ c.if-right-j.false) b.new.scope _ b.ensures
