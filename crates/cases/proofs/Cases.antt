-- T1 to T12, the example's arities, its states and its turns are what documents 01 and 02 say: both lists compute to the same.
use Rattle.std.proofs.Common.{◌≡◌, refl}
use Rattle.term.specs.Table.{column_of, table_of, table_in, kind_of, place_under}
use Rattle.term.specs.Accepted.{part_by, part_at, accepted}
use Rattle.text.specs.Bytes.{class_of}
use Rattle.text.specs.Tokens.{pieces}
use Rattle.text.specs.Parse.{phrase_at, parse}
use Rattle.text.specs.Binding.{index_of, nameless}
use Rattle.text.specs.Reading.{meant, reader_number, read_of}
use Rattle.machine.specs.Machine.{go_down, go_up, step_by, after_from}
use Rattle.machine.specs.Carried.{carried_down, carried_up, carried_from}
use Rattle.machine.specs.Turns.{turns_after}
use Rattle.machine.specs.Slice.{slice, put_on_log, read_log, put_on_tape, read_tape, all_zero}
use Rattle.calls.specs.Stops.{stop_before}
use Rattle.calls.specs.Digits.{digits_in, digits}
use Rattle.calls.specs.Weight.{weight}
use Rattle.calls.specs.Winding.{wind}
use Rattle.calls.specs.Held.{well_formed, state_in}
use Rattle.calls.specs.Calls.{lent_number, call_number, open_of, wind_of, go_to_of}
use Rattle.cases.specs.Cases.{example_text, identity_text, open_text, example, example_table, identity, fresh, afterwards, stranded, states, turns, cases, session_made, leaf, stood_at, results}

pub cases_hold : cases example ≡ results
unfolding example_text identity_text open_text example example_table identity fresh afterwards stranded states turns cases session_made leaf stood_at results
    column_of table_of table_in kind_of place_under part_by part_at accepted
    class_of pieces phrase_at parse index_of nameless meant reader_number read_of
    go_down go_up step_by after_from carried_down carried_up carried_from turns_after slice put_on_log read_log put_on_tape read_tape all_zero
    stop_before digits_in digits weight wind well_formed state_in lent_number call_number open_of wind_of go_to_of
cases_hold = refl
