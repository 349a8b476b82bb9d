-- The declared types of the reader as the definitions' own.
use Rattle.std.specs.Prelude.{List, ℕ, Option, Result, Ok, Err}
use Rattle.term.specs.Refusal.{refusal_number}
use Rattle.term.specs.declared.refusal.Refusal.{Refusal}
use Rattle.text.specs.Bytes
use Rattle.text.specs.Reading.{Read}
use Rattle.reader.specs.declared.bytes.Class.{Class}
use Rattle.reader.specs.declared.bytes.Class.TheVariants.{Letter, Digit, Blank, Sign, Foreign}

-- The position after what was read, and the word after its code.
abbrev pub Got : Type 0
Got = Option (ℕ × ℕ)

abbrev pub class_meant : Class → Bytes.Class
class_meant Letter = Bytes.letter
class_meant Digit = Bytes.digit
class_meant Blank = Bytes.blank
class_meant Sign = Bytes.sign
class_meant Foreign = Bytes.foreign

-- The declared answer, with the table slice at exit, as the definition's.
abbrev pub read_meant : Result ℕ Refusal → List ℕ → Read
read_meant (Ok n) table = record { n = n; refusal = 0; table = table }
read_meant (Err r) table = record { n = 0; refusal = refusal_number r; table = table }

-- the number of a refusal, and 0 for none
abbrev pub number_meant : Result (Unit {0}) Refusal → ℕ
number_meant (Ok u) = 0
number_meant (Err r) = refusal_number r
