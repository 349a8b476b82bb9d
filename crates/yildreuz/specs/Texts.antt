-- What a reader, a writer or a conversion answers, in two numbers.
use Rattle.std.specs.Prelude.{Result, Ok, Err, ℕ}
use Rattle.term.specs.declared.refusal.Refusal.{Refusal}
use Rattle.term.specs.Refusal.{refusal_number}

abbrev pub numbers_meant : Result ℕ Refusal → ℕ × ℕ
numbers_meant (Ok number) = (number, 0)
numbers_meant (Err refusal) = (0, refusal_number refusal)
