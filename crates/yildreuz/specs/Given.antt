-- What the private functions promise: with which session a call is made, and the numbers given back where it is refused.
use Rattle.std.specs.Prelude.{cond, List, ℕ, ltb, eqb}
use Rattle.machine.specs.Machine.{down, up}
use Rattle.calls.specs.Session.{Session, Outcome}
use Rattle.face.specs.declared.HostSession.{HostSession}
use Rattle.face.specs.declared.HostOutcome.{HostOutcome}
use Rattle.face.specs.Numbers.{session_numbers, refused_code, stop_code}
use Rattle.face.specs.Told.{told_with}

-- Numbers without a direction are taken to stand at node 0, which no table has, so that the call itself finds 7, 8 or 9.
abbrev pub made_with : HostSession → Session
made_with s = record {
  node = cond (ltb 1 s.direction) 0 s.node;
  dir = cond (eqb s.direction 0) down up;
  position = s.position;
  log_length = s.log_len;
  tape_length = s.tape_len;
  turns = s.turns;
}

-- what the host keeps as its session: the numbers given where the call is refused, and else those after it
abbrev pub kept_session : HostSession → ℕ → HostSession → HostSession
kept_session given code next = cond (eqb code refused_code) given next

abbrev pub given_back : HostSession → Outcome → HostOutcome × List ℕ × List ℕ
given_back given o = told_with (kept_session given (stop_code o.stop) (session_numbers o.session)) o
