-- `read_spelled` answers what the definition of reading answers, and leaves what it leaves.
use mathlib.Core.Path.{sym, ◌∙◌}
use mathlib.Core.List.{[]}
use native.Mathlib.Omega.{arith}
use Rattle.text.specs.Grammar.{phrase_tree}
use Rattle.text.specs.Binding.{nameless}
use Rattle.reader.proofs.Steps.{few_bytes, no_term, a_phrase}
use Rattle.reader.proofs.Answering.{code_taken}
use Rattle.reader.proofs.read_spelled.Goals as goal

pub code_of-requires : goal.code_of-requires
code_of-requires c = (few_bytes c.args.text.now c.args.table.now (sym c.requires), omega arith)

pub returns-in_default : goal.returns-in_default
returns-in_default c = sym (no_term c.args.text.now c.args.table.now (sym c.requires) c.in_default.ensures)

pub returns : goal.returns
returns c =
    let k = c.in-Some.ensures in
    c.answer_for.ensures (nameless (phrase_tree k.value) []) (code_taken k.in_code)
    ∙ sym (a_phrase c.args.text.now c.args.table.now (sym c.requires) k.value k.is)
