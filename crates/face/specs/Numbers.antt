-- Directions, sessions, stops, halts, lists and spots in numbers, as a host in another language holds them (host/yildreuz.h).
use Rattle.std.proofs.Math.Option.{Option, none, some}
use Rattle.std.specs.Prelude.{ℕ, zero, suc}
use Rattle.term.specs.Choice.{◌>>=◌, if_some}
use Rattle.machine.specs.Machine.{Dir, down, up}
use Rattle.calls.specs.Session.{Session, Stop, spent, jam, far, start, log_full, tape_full, found, answer, refused}
use Rattle.calls.specs.Top.{Which, log, tape}
use Rattle.calls.specs.Visits.{Spot, spot}
use Rattle.kam.specs.Runs
use Rattle.face.specs.declared.HostSession.{HostSession}

-- A direction is 0 down, 1 up,
abbrev pub dir_number : Dir → ℕ
dir_number down = 0
dir_number up = 1

-- and a greater number is no direction.
abbrev pub dir_in : ℕ → Option Dir
dir_in zero = some down
dir_in (suc zero) = some up
dir_in (suc (suc k)) = none

-- A session in numbers,
abbrev pub session_numbers : Session → HostSession
session_numbers s = record {
  node = s.node;
  direction = dir_number s.dir;
  position = s.position;
  log_len = s.log_length;
  tape_len = s.tape_length;
  turns = s.turns;
}

-- and the session that numbers stand for, if their direction is one.
abbrev pub session_in : HostSession → Option Session
session_in s =
    dir_in s.direction >>= λ d.
    some (record { node = s.node; dir = d; position = s.position; log_length = s.log_len; tape_length = s.tape_len; turns = s.turns })

-- the code of a refusal
abbrev pub refused_code : ℕ
refused_code = 7

-- A stop is a code
abbrev pub stop_code : Stop → ℕ
stop_code spent = 0
stop_code (answer i) = 1
stop_code jam = 2
stop_code far = 3
stop_code start = 4
stop_code log_full = 5
stop_code tape_full = 6
stop_code (refused k) = refused_code
stop_code found = 8
stop_code Stop.none = 9

-- and a value: the answer's node, the refusal's number, and 0 with every other.
abbrev pub stop_value : Stop → ℕ
stop_value spent = 0
stop_value (answer i) = i
stop_value jam = 0
stop_value far = 0
stop_value start = 0
stop_value log_full = 0
stop_value tape_full = 0
stop_value (refused k) = k
stop_value found = 0
stop_value Stop.none = 0

-- A halt of Krivine's machine is a code
abbrev pub halt_code : Runs.Halt → ℕ
halt_code Runs.spent = 0
halt_code Runs.answer = 1
halt_code Runs.full = 2
halt_code (Runs.refused k) = 3

-- and a value: the refusal's number, and 0 with every other.
abbrev pub halt_value : Runs.Halt → ℕ
halt_value Runs.spent = 0
halt_value Runs.answer = 0
halt_value Runs.full = 0
halt_value (Runs.refused k) = k

-- A list is 0 the log, 1 the tape (`list_told`, proofs/Codes.antt: each is named by its number),
abbrev pub which_number : Which → ℕ
which_number log = 0
which_number tape = 1

-- and a greater number names none.
abbrev pub which_in : ℕ → Option Which
which_in zero = some log
which_in (suc zero) = some tape
which_in (suc (suc k)) = none

-- A node and a direction are a spot. A greater number is no direction, and then the spot is on node 0, which no term has: the call to it is a 12, after 9 (`no_spot`, proofs/Refusals.antt).
abbrev pub spot_in : ℕ → ℕ → Spot
spot_in i k = if_some (dir_in k) (λ d. spot i d) (λ _. spot 0 down)
