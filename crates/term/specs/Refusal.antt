-- The number of each refusal: document 01, "The nine numbers, in order of test", and those of document 02, whose changes 1, 3, 5, 7, 10 and 11 add the others.
use Rattle.std.specs.Prelude.{ℕ}
use Rattle.term.specs.declared.refusal.Refusal.{Refusal}
use Rattle.term.specs.declared.refusal.Refusal.TheVariants.{TextTooLong, ForeignByte, BadName, NotATerm, FreeName, TableTooShort, NotATable, SliceTooLong, NotAState, NothingOnTop, NoRoom, NoSuchNode, NotInNumbers, FreeNumber, Elsewhere, RecordsTooLong}

abbrev pub refusal_number : Refusal → ℕ
refusal_number TextTooLong = 1
refusal_number ForeignByte = 2
refusal_number BadName = 3
refusal_number NotATerm = 4
refusal_number FreeName = 5
refusal_number TableTooShort = 6
refusal_number NotATable = 7
refusal_number SliceTooLong = 8
refusal_number NotAState = 9
refusal_number NothingOnTop = 10
refusal_number NoRoom = 11
refusal_number NoSuchNode = 12
refusal_number NotInNumbers = 13
refusal_number FreeNumber = 14
refusal_number Elsewhere = 15
refusal_number RecordsTooLong = 16
