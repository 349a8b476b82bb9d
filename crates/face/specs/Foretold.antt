-- Document 02, change 10, for a host: what go answers by the position and the count that a look handed out, on what the look left, is what the look told. The theorem is `told_as_foretold` (proofs/Foretold.antt).
use Rattle.std.specs.Prelude.{◌≡◌, List, ℕ}
use Rattle.calls.specs.Looks.{go_of}
use Rattle.face.specs.declared.HostSession.{HostSession}
use Rattle.face.specs.declared.HostOutcome.{HostOutcome}
use Rattle.face.specs.declared.HostLook.{HostLook}
use Rattle.face.specs.Told.{called, look_called}

-- steps, stop, both its values, peak and words carried: of a look, and of an outcome
abbrev pub numbers_foretold : HostLook → ℕ × ℕ × ℕ × ℕ × ℕ × ℕ
numbers_foretold l = (l.steps, l.stop, l.value, l.value2, l.peak, l.carried)

abbrev pub numbers_come : HostOutcome → ℕ × ℕ × ℕ × ℕ × ℕ × ℕ
numbers_come o = (o.steps, o.stop, o.value, o.value2, o.peak, o.carried)

-- Whatever a host hands to the look, a direction above 1 too.
abbrev pub ToldAsForetold : Type 0
ToldAsForetold =
    (w : List ℕ) (n : ℕ) (s : HostSession) (ls ts : List ℕ) (c : ℕ)
    → (let (l, log, tape) = look_called w n s ls ts c in numbers_come (called (λ g. go_of g l.position l.count) w n s log tape).0 ≡ numbers_foretold l)
