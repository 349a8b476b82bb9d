-- What the private functions behind `yildreuz_top` promise: which list is looked at, the number told, and the place below the list's end.
use Rattle.std.specs.Prelude.{Result, Ok, Err, cond, ℕ, ◌-◌, ltb, eqb}
use Rattle.term.specs.declared.refusal.Refusal.{Refusal}
use Rattle.term.specs.Refusal.{refusal_number}
use Rattle.calls.specs.Session.{Given}
use Rattle.calls.specs.Top.{Which, log, tape, Shown, top_of, length_given}
use Rattle.face.specs.declared.HostPart.{HostPart}

-- Where a number names no list, the log is looked at, for the numbers that come before 10.
abbrev pub list_named : ℕ → Which
list_named k = cond (eqb k 1) tape log

abbrev pub number_told : ℕ → ℕ → ℕ
number_told which number = cond (eqb number 0) (cond (ltb 1 which) 10 0) number

abbrev pub part_told : ℕ → ℕ → ℕ → HostPart
part_told refusal end size = cond (eqb refusal 0) (record { offset = end - size; len = size }) (record { offset = 0; len = 0 })

-- What is told of what top shows, of a list that ends there, and the number,
abbrev pub shown_told : ℕ → Shown → ℕ → HostPart × ℕ
shown_told which a end = (part_told (number_told which a.refusal) end a.size, number_told which a.refusal)

-- of the list that is looked at.
abbrev pub told_of : ℕ → Which → Given → HostPart × ℕ
told_of which list g = shown_told which (top_of list g) (length_given list g.session)

-- The code's answer likewise: the part, or nothing and the number.
abbrev pub part_meant : Result HostPart Refusal → HostPart × ℕ
part_meant (Ok part) = (part, 0)
part_meant (Err r) = (record { offset = 0; len = 0 }, refusal_number r)
