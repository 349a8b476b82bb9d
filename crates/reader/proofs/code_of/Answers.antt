-- `code_of` writes the code of what the text spells, if it is a term.
use native.Mathlib.Omega.{arith}
use Rattle.reader.proofs.Encoded.{text_not, text_left, text_coded}
use Rattle.reader.proofs.code_of.Goals as goal

pub returns-in_err-end : goal.returns-in_err-end
returns-in_err-end c = rw c.from_residual.ensures (text_not c.args.text.now c.in_err-end.ensures)

pub returns-then-skip-text : goal.returns-then-skip-text
returns-then-skip-text c = text_left c.args.text.now _ _ _ _ _ _ _ c.in_ok-end.ensures c.skip.ensures (omega arith)

pub returns : goal.returns
returns c = text_coded c.args.text.now _ c.args.code.now _ _ _ _ _ c.in_ok-end.ensures c.skip.ensures (omega arith) c.requires.0 c.requires.1
