-- `before_step`: each answer by the law of its case.
use mathlib.Core.Path.{◌≡◌, sym, ap₂, ◌∙◌, subst}
use mathlib.Core.Bool.{false}
use mathlib.Core.List.{List}
use Prim.Native.Nat.{ℕ}
use native.Mathlib.Omega.{arith}
use Rattle.term.specs.Table.{table_in}
use Rattle.machine.specs.Machine.{State}
use Rattle.machine.specs.Turns.{turn_between}
use Rattle.calls.specs.Stops.{moment_of}
use Rattle.session.specs.Types.{way_meant, session_meant}
use Rattle.session.specs.Steps.{TokenAt}
use Rattle.session.specs.Rules.{FitIs}
use Rattle.session.specs.Passes.{facing, is_end, BeforeIs}
use Rattle.session.proofs.Facing.{token_facing}
use Rattle.session.specs.declared.Stop.TheVariants.{Jam}
use Rattle.session.proofs.Refused.{passed_on, refused_by}
use Rattle.session.proofs.Passes.{by_rule, ends, jams, ends_far, makes}
use Rattle.session.proofs.winding.before_step.Goals as goal
use Rattle.session.proofs.winding.before_step.Goals.{After-chosen}

pub returns-then-is_end : goal.returns-then-is_end
returns-then-is_end c =
    let a = c.args in
    rw c.end_stop.ensures
    (λ ls s h. ends h (way_meant a.way) (sym (c.is_end.ensures ls a.tape.now s h) ∙ c.if-is_end.true))

-- The walk has not come to its end.
on : (c : After-chosen) (ls : List ℕ) (s : State) → (let a = c.args in
    TokenAt a.tree.now.words a.tree.now.n a.session ls a.tape.now s → is_end (way_meant a.way) (table_in a.tree.now.words a.tree.now.n) (moment_of (session_meant a.session) s) ≡ false)
on c ls s h = sym (c.is_end.ensures ls c.args.tape.now s h) ∙ c.if-is_end.false

-- The state that the step is made from, and what was chosen for it.
faced : (c : After-chosen) (ls : List ℕ) (s : State) → (let a = c.args in
    TokenAt a.tree.now.words a.tree.now.n a.session ls a.tape.now s → TokenAt a.tree.now.words a.tree.now.n c.facing-about.result ls a.tape.now (facing (way_meant a.way) s))
faced c ls s h = token_facing h (way_meant c.args.way) c.facing-about.ensures

fit : (c : After-chosen) (ls : List ℕ) (s : State) → (let a = c.args in
    TokenAt a.tree.now.words a.tree.now.n a.session ls a.tape.now s → FitIs (table_in a.tree.now.words a.tree.now.n) (facing (way_meant a.way) s) c.chosen.result)
fit c ls s h = c.chosen.ensures ls _ (faced c ls s h)

pub returns-in_err-rule : goal.returns-in_err-rule
returns-in_err-rule c ls s h =
    let k = (goal.at.returns-in_err-rule c).After-chosen in
    let none = c.in_err-rule.ensures in
    rw (refused_by k.chosen.result Jam c.from_residual.result none.ok_part none.value c.from_residual.ensures.1)
    (jams h (way_meant k.args.way) (on k ls s h) (rw none.ok_part at (fit k ls s h)))

pub returns-then-is_far : goal.returns-then-is_far
returns-then-is_far c ls s h =
    let k = (goal.at.returns-then-is_far c).After-chosen in
    ends_far h (way_meant k.args.way) (on k ls s h) c.in_ok-rule.rule (rw c.in_ok-rule.ensures.ok_part at (fit k ls s h)) (sym c.is_far.ensures ∙ c.if-is_far.true)

-- The turns after the step, or the jam: what `with_turns` answered.
pub returns : goal.returns
returns c ls s h =
    let a = c.args in
    let k = (goal.at.returns c).After-chosen in
    let way = way_meant a.way in
    subst (λ x. BeforeIs a.tree.now.words a.tree.now.n a.session way s (by_rule c.in_ok-rule.rule x)) (sym c.in_ok-turns.ensures)
    (makes h way (on k ls s h) c.in_ok-rule.rule (rw c.in_ok-rule.ensures.ok_part at (fit k ls s h)) (sym c.is_far.ensures ∙ c.if-is_far.false) (omega (arith, k.well_formed))
    c.turn_between-turn.result (c.turn_between-turn.ensures ∙ ap₂ turn_between (faced k ls s h).enters.holds.dir_is c.rule_dir.ensures))

pub returns-in_err-turns : goal.returns-in_err-turns
returns-in_err-turns c ls s h =
    let a = c.args in
    let k = (goal.at.returns-in_err-turns c).After-chosen in
    let way = way_meant a.way in
    rw (passed_on c.from_residual-in_err-turns.result c.from_residual-in_err-turns.ensures.1)
    (subst (λ x. BeforeIs a.tree.now.words a.tree.now.n a.session way s (by_rule c.in_ok-rule.rule x)) (sym c.in_err-turns.ensures)
    (makes h way (on k ls s h) c.in_ok-rule.rule (rw c.in_ok-rule.ensures.ok_part at (fit k ls s h)) (sym c.is_far.ensures ∙ c.if-is_far.false) (omega (arith, k.well_formed))
    c.turn_between-turn.result (c.turn_between-turn.ensures ∙ ap₂ turn_between (faced k ls s h).enters.holds.dir_is c.rule_dir.ensures)))
