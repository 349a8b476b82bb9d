-- `read_numbers` answers what the definition of reading numbers answers, and leaves what it leaves.
use mathlib.Core.Path.{sym, ◌∙◌}
use Rattle.text.specs.NumberReading.{closed_only}
use Rattle.reader.proofs.NumberSteps.{too_long, no_phrase, a_phrase}
use Rattle.reader.proofs.Answering.{code_taken}
use Rattle.reader.proofs.read_numbers.Goals as goal

pub returns-then-text-gt3000 : goal.returns-then-text-gt3000
returns-then-text-gt3000 c = sym (too_long c.args.text.now c.args.table.now c.if-text-gt3000.true)

pub returns-in_default : goal.returns-in_default
returns-in_default c = sym (no_phrase c.args.text.now c.args.table.now c.if-text-gt3000.false c.in_default.ensures)

pub returns : goal.returns
returns c =
    let k = c.in-Some.ensures in
    c.answer_for.ensures (closed_only k.value) (code_taken k.in_code)
    ∙ sym (a_phrase c.args.text.now c.args.table.now c.if-text-gt3000.false k.value k.is)
