-- `entries_in`: what is left to count from here is the whole count.
use mathlib.Core.Path.{sym, ap, ◌∙◌}
use Prim.Native.Nat.{◌+◌}
use native.Mathlib.Omega.{arith}
use lib.ListN.{drop, get_or}
use Rattle.term.specs.Table.{table_in}
use Rattle.session.specs.Counting.{have_words}
use Rattle.session.proofs.Words.{count_most, words_end, words_bullet, words_stop, words_more}
use Rattle.session.proofs.check.entries_in.Goals as goal
use Rattle.session.proofs.check.entries_in.Goals.{then-is_bullet, else-is_bullet+in_ok-have}

pub returns-in_err-have : goal.returns-in_err-have
returns-in_err-have c =
    let a = c.args in
    let l = c.loop-word in
    rw c.from_residual.ensures
    (l.invariant.1
    ∙ words_stop (table_in a.tree.now.words a.tree.now.n) a.bullets a.words.now l.word-index l.have c.loop-word-test.true (sym c.is_bullet.ensures ∙ c.if-is_bullet.false) (c.in_err-have.ensures))

pub loop-word-preserved : goal.loop-word-preserved
loop-word-preserved c =
    let a = c.args in
    let T = table_in a.tree.now.words a.tree.now.n in
    let s = a.words.now in
    let l = c.loop-word in
    let i = l.word-index in
    let e = sym c.is_bullet.ensures in
    elim c.if-is_bullet.branch [
      | then-is_bullet w ↦ (
        omega (arith, w.have-is),
        l.invariant.1 ∙ words_bullet T a.bullets s i l.have c.loop-word-test.true (e ∙ w.if-is_bullet.true) ∙ ap (λ k. have_words a.bullets T (drop (i + 1) s) k) (sym w.have-is),
      )
      | else-is_bullet+in_ok-have w ↦ (
        omega (arith, count_most T (get_or s i 0) l.have w.in_ok-have.have (w.in_ok-have.ensures), w.have-is),
        l.invariant.1
            ∙ words_more T a.bullets s i l.have c.loop-word-test.true (e ∙ w.if-is_bullet.false) w.in_ok-have.have (w.in_ok-have.ensures)
            ∙ ap (λ k. have_words a.bullets T (drop (i + 1) s) k) (sym w.have-is),
      )
    ]

pub returns : goal.returns
returns c =
    let a = c.args in
    let l = c.loop-word in
    l.invariant.1 ∙ words_end (table_in a.tree.now.words a.tree.now.n) a.bullets a.words.now l.word-index l.have c.loop-word-test.false
