-- `numbers_code` writes the code of what the text spells, if one phrase takes all of it.
use native.Mathlib.Omega.{arith}
use Rattle.reader.proofs.NumberSteps.{no_phrase_read, bytes_left, numbers_coded}
use Rattle.reader.proofs.numbers_code.Goals as goal

pub returns-in_err-end : goal.returns-in_err-end
returns-in_err-end c = rw c.from_residual.ensures (no_phrase_read c.args.text.now c.in_err-end.ensures)

pub returns-then-end-text : goal.returns-then-end-text
returns-then-end-text c = bytes_left c.args.text.now c.args.code.now _ _ _ c.in_ok-end.ensures (omega (arith, c.if-end-text.true))

pub returns : goal.returns
returns c = numbers_coded c.args.text.now c.args.code.now _ _ _ c.in_ok-end.ensures (omega (arith, c.if-end-text.false)) c.requires.0 c.requires.1
