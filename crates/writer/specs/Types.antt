-- The declared types of the writer as the definitions' own.
use Rattle.std.specs.Prelude.{List, ℕ, Result, Ok, Err}
use Rattle.term.specs.Refusal.{refusal_number}
use Rattle.term.specs.declared.refusal.Refusal.{Refusal}
use Rattle.text.specs.Writing.{Write, refused}
use Rattle.text.specs.Dialects
use Rattle.writer.specs.declared.Dialect.{Dialect}
use Rattle.writer.specs.declared.Dialect.TheVariants.{Names, Numbers}

abbrev pub dialect_meant : Dialect → Dialects.Dialect
dialect_meant Names = Dialects.names
dialect_meant Numbers = Dialects.numbers

-- The declared answer, with the lent bytes at exit, as the definition's.
abbrev pub write_meant : Result ℕ Refusal → List ℕ → Write
write_meant (Ok len) text = record { len = len; refusal = 0; text = text }
write_meant (Err k) text = refused (refusal_number k) text
