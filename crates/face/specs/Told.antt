-- What each call answers a host: the answer that its definition gives, told in numbers, with the lent slices after the call.
use Rattle.std.proofs.Math.Option.{Option, none, some}
use Rattle.std.specs.Prelude.{List, ℕ}
use Rattle.term.specs.Choice.{if_some}
use Rattle.text.specs.Reading.{Read}
use Rattle.text.specs.Writing.{Write}
use Rattle.calls.specs.Session.{Session, Outcome, Opening, Given}
use Rattle.calls.specs.Calls.{lent_number, call_number}
use Rattle.calls.specs.Top.{Which, Shown, not_shown, top_of}
use Rattle.calls.specs.Looks.{Look, look_of}
use Rattle.kam.specs.Runs.{Ran}
use Rattle.face.specs.declared.HostReading.{HostReading}
use Rattle.face.specs.declared.HostWritten.{HostWritten}
use Rattle.face.specs.declared.HostSession.{HostSession}
use Rattle.face.specs.declared.HostOpening.{HostOpening}
use Rattle.face.specs.declared.HostOutcome.{HostOutcome}
use Rattle.face.specs.declared.HostLook.{HostLook}
use Rattle.face.specs.declared.HostPart.{HostPart}
use Rattle.face.specs.declared.HostRun.{HostRun}
use Rattle.face.specs.Numbers.{session_numbers, session_in, refused_code, stop_code, stop_value, halt_code, halt_value, which_in}

abbrev pub read_told : Read → HostReading × List ℕ
read_told r = (record { n = r.n; refusal = r.refusal }, r.table)

abbrev pub write_told : Write → HostWritten × List ℕ
write_told r = (record { len = r.len; refusal = r.refusal }, r.text)

abbrev pub open_told : Opening → HostOpening × List ℕ × List ℕ
open_told o = (record { session = session_numbers o.session; refusal = o.refusal }, o.log, o.tape)

-- An outcome with these numbers as its session (no stop has a second value),
abbrev pub told_with : HostSession → Outcome → HostOutcome × List ℕ × List ℕ
told_with s o = (
  record { session = s; steps = o.steps; stop = stop_code o.stop; value = stop_value o.stop; value2 = 0; peak = o.peak; carried = o.carried },
  o.log,
  o.tape,
)

-- and with its own.
abbrev pub outcome_told : Outcome → HostOutcome × List ℕ × List ℕ
outcome_told o = told_with (session_numbers o.session) o

-- A refusal gives the numbers back as they were given, and nothing is done.
abbrev pub refused_told : ℕ → HostSession → List ℕ → List ℕ → HostOutcome × List ℕ × List ℕ
refused_told k s ls ts = (record { session = s; steps = 0; stop = refused_code; value = k; value2 = 0; peak = 0; carried = 0 }, ls, ts)

-- Numbers that stand for no session are refused with 9, after 7 and 8.
abbrev pub no_session_number : List ℕ → ℕ → List ℕ → List ℕ → ℕ
no_session_number w n ls ts = if_some (lent_number w n ls ts) (λ k. k) (λ _. 9)

-- A call on the session that a host's numbers stand for.
abbrev pub called_on : Option Session → (Given → Outcome) → List ℕ → ℕ → HostSession → List ℕ → List ℕ → HostOutcome × List ℕ × List ℕ
called_on (some se) call w n s ls ts = outcome_told (call (record { table = w; n = n; session = se; log = ls; tape = ts }))
called_on none call w n s ls ts = refused_told (no_session_number w n ls ts) s ls ts

unfoldable pub called : (Given → Outcome) → List ℕ → ℕ → HostSession → List ℕ → List ℕ → HostOutcome × List ℕ × List ℕ
called call w n s ls ts = called_on (session_in s) call w n s ls ts

-- A look, told as an outcome is; it has no session.
abbrev pub look_told : Look → HostLook × List ℕ × List ℕ
look_told l = (
  record {
    steps = l.steps;
    stop = stop_code l.stop;
    value = stop_value l.stop;
    value2 = 0;
    peak = l.peak;
    carried = l.carried;
    position = l.position;
    count = l.count;
  },
  l.log,
  l.tape,
)

-- A refused one tells and hands out nothing.
abbrev pub nothing_told : ℕ → List ℕ → List ℕ → HostLook × List ℕ × List ℕ
nothing_told k ls ts = (record { steps = 0; stop = refused_code; value = k; value2 = 0; peak = 0; carried = 0; position = 0; count = 0 }, ls, ts)

-- A look from the session that a host's numbers stand for.
abbrev pub look_on : Option Session → List ℕ → ℕ → List ℕ → List ℕ → ℕ → HostLook × List ℕ × List ℕ
look_on (some se) w n ls ts c = look_told (look_of (record { table = w; n = n; session = se; log = ls; tape = ts }) c)
look_on none w n ls ts c = nothing_told (no_session_number w n ls ts) ls ts

unfoldable pub look_called : List ℕ → ℕ → HostSession → List ℕ → List ℕ → ℕ → HostLook × List ℕ × List ℕ
look_called w n s ls ts c = look_on (session_in s) w n ls ts c

-- Of what top shows a host gets the place in its own slice; the number goes out through the pointer.
abbrev pub top_told : Shown → HostPart × ℕ
top_told a = (record { offset = a.offset; len = a.size }, a.refusal)

-- Where no list is named, 10 comes after 7 to 9.
abbrev pub no_list_number : Given → ℕ
no_list_number g = if_some (call_number g) (λ k. k) (λ _. 10)

abbrev pub top_of_list : Option Which → Given → Shown
top_of_list (some which) g = top_of which g
top_of_list none g = not_shown (no_list_number g)

-- The top of the list that a host's number names, on the session that its numbers stand for.
abbrev pub top_on : Option Session → Option Which → List ℕ → ℕ → List ℕ → List ℕ → Shown
top_on (some se) which w n ls ts = top_of_list which (record { table = w; n = n; session = se; log = ls; tape = ts })
top_on none which w n ls ts = not_shown (no_session_number w n ls ts)

unfoldable pub top_called : List ℕ → ℕ → HostSession → List ℕ → List ℕ → ℕ → HostPart × ℕ
top_called w n s ls ts which = top_told (top_on (session_in s) (which_in which) w n ls ts)

-- A run, and the words of its records after it.
abbrev pub run_told : Ran → HostRun × List ℕ
run_told r = (record { node = r.node; steps = r.steps; halt = halt_code r.halt; value = halt_value r.halt }, r.records)
