-- `number` writes the word of the digits, if they are a number.
use mathlib.Core.Path.{sym, ap, ◌∙◌}
use mathlib.Core.List.{[]}
use Prim.Native.Nat.{◌+◌}
use native.Mathlib.Omega.{arith}
use lib.ListN.{length, set}
use Rattle.decimal.specs.Decimal.{value_after}
use Rattle.text.specs.NumberParse.{is_number}
use Rattle.reader.specs.Numbers.{word_under, PhraseTo}
use Rattle.reader.proofs.Phrases.{number_read, number_none}
use Rattle.reader.proofs.numbers.number.Goals as goal
use Rattle.reader.proofs.numbers.number.Goals.{After-number_word}

-- what is read
read : (c : After-number_word) → let a = c.args in
    PhraseTo [] a.text.now a.at a.depth a.out.now a.node (a.at + length c.digits_at-digits.result.now) (a.node + 1) (set a.out.now a.node c.number_word.result)
read c =
    let a = c.args in
    let d = c.digits_at-digits.ensures in
    number_read a.text.now a.at a.depth a.out.now a.node _ c.requires.within (ap (λ s. a.at + length s) d)
    (ap is_number (sym d) ∙ sym c.if-not-is_number.ensures) _ (c.number_word.ensures ∙ ap (λ s. word_under a.depth (value_after 0 s)) d)

pub returns-then-not-is_number : goal.returns-then-not-is_number
returns-then-not-is_number c l a =
    let d = c.digits_at-digits.ensures in
    number_none c.args.text.now c.args.at c.args.depth c.args.out.now c.args.node _ c.requires.within (ap (λ s. c.args.at + length s) d)
    (ap is_number (sym d) ∙ sym c.if-not-is_number.ensures) l a

pub bounds-out-node : goal.bounds-out-node
bounds-out-node c =
    let x = read (goal.at.bounds-out-node c).After-number_word in
    omega (arith, x.on, x.within, c.requires)

pub returns : goal.returns
returns c l a = read (goal.at.returns c).After-number_word
