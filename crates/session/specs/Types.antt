-- The declared types as the definitions' own, with document 01's name and values for each of their cases; what a call was lent, what a refusal answers, and where a word lies in memory.
use Rattle.std.specs.Prelude.{List, [], ℕ, ◌+◌, ◌*◌, Result, Ok, Err}
use Rattle.std.proofs.Math.Option.{Option, none, some}
use denote.Ref.{Bor}
use Rattle.term.specs.Refusal.{refusal_number}
use Rattle.term.specs.declared.refusal.Refusal.{Refusal}
use Rattle.machine.specs.Machine
use Rattle.calls.specs.Session
use Rattle.calls.specs.Stops
use Rattle.calls.specs.Top
use Rattle.calls.specs.Looks
use Rattle.calls.specs.Calls.{no_session}
use Rattle.session.specs.declared.Dir.{Dir}
use Rattle.session.specs.declared.Dir.TheVariants.{Down, Up}
use Rattle.session.specs.declared.Session as Declared
use Rattle.session.specs.declared.Stop.{Stop}
use Rattle.session.specs.declared.Stop.TheVariants.{Spent, Answer, Jam, Far, Start, LogFull, TapeFull, Found, None}
use Rattle.session.specs.declared.Which.{Which}
use Rattle.session.specs.declared.Which.TheVariants.{Log, Tape}
use Rattle.session.specs.declared.Outcome.{Outcome}
use Rattle.session.specs.declared.looks.Look.{Look}
use Rattle.session.specs.declared.winding.Way.{Way}
use Rattle.session.specs.declared.winding.Way.TheVariants.{Forward, Back}

abbrev pub dir_meant : Dir → Machine.Dir
dir_meant Down = Machine.down
dir_meant Up = Machine.up

abbrev pub which_meant : Which → Top.Which
which_meant Log = Top.log
which_meant Tape = Top.tape

abbrev pub way_meant : Way → Stops.Way
way_meant Forward = Stops.forward
way_meant Back = Stops.back

abbrev pub session_meant : Declared.Session → Session.Session
session_meant se = record {
  node = se.node;
  dir = dir_meant se.dir;
  position = se.position;
  log_length = se.log_len;
  tape_length = se.tape_len;
  turns = se.turns;
}

abbrev pub stop_meant : Stop → Session.Stop
stop_meant Spent = Session.spent
stop_meant (Answer i) = Session.answer i
stop_meant Jam = Session.jam
stop_meant Far = Session.far
stop_meant Start = Session.start
stop_meant LogFull = Session.log_full
stop_meant TapeFull = Session.tape_full
stop_meant Found = Session.found
stop_meant None = Session.none

-- An answer together with both slices at exit. A refusal answers its number and what the definitions say of one: no session,
abbrev pub opening_meant : Result Declared.Session Refusal → List ℕ → List ℕ → Session.Opening
opening_meant (Ok se) ls ts = record { session = session_meant se; refusal = 0; log = ls; tape = ts }
opening_meant (Err r) ls ts = record { session = no_session; refusal = refusal_number r; log = ls; tape = ts }

-- What a walk comes to: it is never refused.
abbrev pub walk_meant : Outcome → List ℕ → List ℕ → Session.Outcome
walk_meant o ls ts = record {
  session = session_meant o.session;
  steps = o.steps;
  stop = stop_meant o.stop;
  peak = o.peak;
  carried = o.carried;
  log = ls;
  tape = ts;
}

-- the session given, with the number in place of a stop and nothing done,
abbrev pub outcome_meant : Declared.Session → Result Outcome Refusal → List ℕ → List ℕ → Session.Outcome
outcome_meant se (Ok o) ls ts = walk_meant o ls ts
outcome_meant se (Err r) ls ts = record {
  session = session_meant se;
  steps = 0;
  stop = Session.refused (refusal_number r);
  peak = 0;
  carried = 0;
  log = ls;
  tape = ts;
}

-- and the number in place of a stop alone.
abbrev pub look_meant : Result Look Refusal → List ℕ → List ℕ → Looks.Look
look_meant (Ok l) ls ts = record {
  steps = l.steps;
  stop = stop_meant l.stop;
  peak = l.peak;
  carried = l.carried;
  position = l.position;
  count = l.count;
  log = ls;
  tape = ts;
}
look_meant (Err r) ls ts = Looks.refused_look (refusal_number r) ls ts

-- What a call was lent.
abbrev pub lent : List ℕ → ℕ → Declared.Session → List ℕ → List ℕ → Session.Given
lent w n se ls ts = record { table = w; n = n; session = session_meant se; log = ls; tape = ts }

-- The number of the refusal, if there is one.
abbrev pub refused_by : {A : Type 0} → Result A Refusal → Option ℕ
refused_by (Ok x) = none
refused_by (Err r) = some (refusal_number r)

-- What the caller gets of a part: the words and 0, or no word and the number.
abbrev pub part_meant : Result (Bor (List ℕ)) Refusal → List ℕ × ℕ
part_meant (Ok part) = (part.now, 0)
part_meant (Err r) = ([], refusal_number r)

-- Where the part begins, of a slice that begins there: in place of a refusal a caller takes the empty part at the slice's beginning.
abbrev pub part_start : Result (Bor (List ℕ)) Refusal → ℕ × ℕ → ℕ × ℕ
part_start (Ok part) start = part.ref_ptr
part_start (Err r) start = start

-- Where the word at index i lies in memory, of a slice that begins there. (A pointer is a block of memory and a byte in it; a word has four bytes.)
abbrev pub word_ptr : ℕ × ℕ → ℕ → ℕ × ℕ
word_ptr p i = (p.0, i * 4 + p.1)
