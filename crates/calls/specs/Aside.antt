-- Document 02, change 9, put aside: a call forward answers, but for the turns, the same whatever turns its session has. The theorem is `same_but_turns` (proofs/Aside.antt).
use Rattle.std.specs.Prelude.{◌≡◌, ℕ, ◌≤◌}
use Rattle.calls.specs.Session.{Session, Outcome, Given}
use Rattle.calls.specs.Calls.{forward_of}

-- a session, what a call is given, and what it answers, with no turns
abbrev pub unturned : Session → Session
unturned se = record {
  node = se.node;
  dir = se.dir;
  position = se.position;
  log_length = se.log_length;
  tape_length = se.tape_length;
  turns = 0;
}

abbrev pub given_unturned : Given → Given
given_unturned g = record { table = g.table; n = g.n; session = unturned g.session; log = g.log; tape = g.tape }

abbrev pub answered_unturned : Outcome → Outcome
answered_unturned o = record {
  session = unturned o.session;
  steps = o.steps;
  stop = o.stop;
  peak = o.peak;
  carried = o.carried;
  log = o.log;
  tape = o.tape;
}

-- "Refusal 9 also covers turns greater than the position": from every other session, the same node, direction, position, lengths, slices, steps, stop, peak and words carried.
abbrev pub SameButTurns : Type 0
SameButTurns = (g : Given) (c : ℕ) → g.session.turns ≤ g.session.position → answered_unturned (forward_of g c) ≡ answered_unturned (forward_of (given_unturned g) c)
