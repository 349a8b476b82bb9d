-- `term` tells an abstraction by its `\`, and hands on the rest. `abstraction` puts its name into the scope, and reads the body there. `application` writes the
-- atoms in a row, for as long as one begins, and then the marks before them. `atom` writes the word of a name, or hands a term in brackets on. `brackets` reads a
-- term, and then the closing bracket.
use mathlib.Core.Path.{refl, ◌∙◌, ◌≡◌, sym}
use Prim.Native.Nat.{◌+◌, ◌-◌, ◌<◌}
use native.Mathlib.Omega.{arith}
use lib.ListN.{length}
use Rattle.text.specs.Bytes.{class_of}
use Rattle.reader.specs.Grammar.{cursor}
use Rattle.reader.proofs.Descent.{abstraction_body, application_none, application_done, underway_first, underway_more, underway_none, underway_last, atom_name, atom_brackets, atom_none, brackets_closed, term_abstraction, term_application}
use Rattle.reader.proofs.grammar.+abstraction_application_atom_brackets_term.Goals as goal

pub abstraction-after_mark-requires : goal.abstraction-after_mark-requires
unfolding class_of
abstraction-after_mark-requires t c =
    let n = c.in_ok-x.ensures in
    (n.within, refl)

pub abstraction-returns : goal.abstraction-returns
abstraction-returns t c =
    let a = c.args in
    let n = c.in_ok-x.ensures in
    let d = c.in_ok-q.ensures in
    let r = c.term in
    let h : a.depth < length a.scope.now = omega (arith, n, c.requires) in
    abstraction_body _ _ _ _ r.result r.new.scope r.new.out n d h r.ensures

pub application-loop-scope-init : goal.application-loop-scope-init
application-loop-scope-init t c =
    underway_first _ c.requires.within

pub application-returns-in_err-p : goal.application-returns-in_err-p
application-returns-in_err-p t c =
    let a = c.args in
    let w = cursor a.text.now a.at a.scope.now a.depth a.out.now a.node in
    rw c.from_residual.ensures (underway_none w _ _ _ _ _ c.loop-scope.invariant (sym c.starts_atom.ensures ∙ c.loop-scope-test.true) c.in_err-p.ensures)

pub application-loop-scope-preserved : goal.application-loop-scope-preserved
application-loop-scope-preserved t c =
    underway_more _ _ _ _ _ _ c.loop-scope.invariant _ _ _ _ c.atom.auto.scope c.atom.auto.out
    (sym c.starts_atom.ensures ∙ c.loop-scope-test.true) c.in_ok-p.ensures

pub application-returns-then-k-eq0 : goal.application-returns-then-k-eq0
application-returns-then-k-eq0 t c =
    let a = c.args in
    let w = cursor a.text.now a.at a.scope.now a.depth a.out.now a.node in
    let r = underway_last w _ _ _ _ _ c.loop-scope.invariant (sym c.starts_atom.ensures ∙ c.loop-scope-test.false) in
    application_none w _ _ _ _ (rw c.if-k-eq0.true at r)

pub application-returns : goal.application-returns
application-returns t c =
    let r = underway_last _ _ _ _ _ _ c.loop-scope.invariant (sym c.starts_atom.ensures ∙ c.loop-scope-test.false) in
    let k : c.loop-scope.k ≡ c.loop-scope.k - 1 + 1 = omega (arith, c.if-k-eq0.false) in
    application_done _ _ _ _ _ _ (rw k at r) _ c.marks.ensures

pub atom-after_mark-requires : goal.atom-after_mark-requires
unfolding class_of
atom-after_mark-requires t c = (c.requires.within, refl)

pub atom-returns-in_err-inner : goal.atom-returns-in_err-inner
atom-returns-in_err-inner t c =
    let a = c.args in
    let w = cursor a.text.now a.at a.scope.now a.depth a.out.now a.node in
    rw c.from_residual.ensures (atom_none w c.in_default.ensures c.in_err-inner.ensures)

pub atom-returns-in_default : goal.atom-returns-in_default
atom-returns-in_default t c =
    let r = c.brackets in
    atom_brackets _ _ r.result r.new.scope r.new.out c.in_default.ensures c.in_ok-inner.ensures r.ensures

pub atom-returns : goal.atom-returns
atom-returns t c =
    atom_name _ _ _ _ c.in-Some.ensures c.variable_word.ensures

pub brackets-after_mark-requires : goal.brackets-after_mark-requires
unfolding class_of
brackets-after_mark-requires t c =
    let i = c.in_ok-p.ensures in
    (i.within, refl)

pub brackets-returns : goal.brackets-returns
brackets-returns t c =
    brackets_closed _ _ _ _ _ c.in_ok-p.ensures _ c.in_ok-end.ensures

pub term-after_mark-requires : goal.term-after_mark-requires
unfolding class_of
term-after_mark-requires t c = (c.requires.within, refl)

pub term-returns-in-Some : goal.term-returns-in-Some
term-returns-in-Some t c =
    let r = c.abstraction in
    term_abstraction _ _ r.result r.new.scope r.new.out c.in-Some.ensures r.ensures

pub term-returns-in-None : goal.term-returns-in-None
term-returns-in-None t c =
    let a = c.args in
    let w = cursor a.text.now a.at a.scope.now a.depth a.out.now a.node in
    let r = c.application in
    term_application w r.result r.new.scope r.new.out c.in-None.ensures r.ensures
