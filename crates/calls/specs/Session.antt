-- Document 01, "A session and its calls": what a session carries, and what each call is given and answers.
use Rattle.std.specs.Prelude.{List, ℕ}
use Rattle.machine.specs.Machine.{Dir}

-- "A session carries node, direction as one of two named cases, position, and the lengths in words of log and tape." It "shall also carry its turns: how many of the steps from the start to
-- the present position changed direction" (document 02, change 9).
pub record Session : Type 0 where
  pub node : ℕ
  pub dir : Dir
  pub position : ℕ
  pub log_length : ℕ
  pub tape_length : ℕ
  pub turns : ℕ

-- "A stop is one of several named cases, the answer case carrying its node." "A refusal's number comes instead of a stop", in its place.
-- Document 02, change 5, has "the new stop found", and its call back "says none".
pub data Stop : Type 0 where
  spent jam far start log_full tape_full found none : Stop
  answer : ℕ → Stop
  refused : ℕ → Stop

-- What the calls that wind answer, "the session, the steps made, the stop, and the peak", the sum of the words carried (document 02, change 6), and both slices after the call.
pub record Outcome : Type 0 where
  pub session : Session
  pub steps : ℕ
  pub stop : Stop
  pub peak : ℕ
  pub carried : ℕ
  pub log : List ℕ
  pub tape : List ℕ

-- What open answers, a refusal's number beside the session (0 for none), and both slices after the call.
pub record Opening : Type 0 where
  pub session : Session
  pub refusal : ℕ
  pub log : List ℕ
  pub tape : List ℕ

-- What a call on a session is given besides its own numbers.
pub record Given : Type 0 where
  pub table : List ℕ
  pub n : ℕ
  pub session : Session
  pub log : List ℕ
  pub tape : List ℕ
