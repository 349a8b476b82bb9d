-- What the functions of a look promise.
use Rattle.std.specs.Prelude.{ℕ}
use Rattle.session.specs.declared.Outcome as Came
use Rattle.session.specs.declared.looks.Look.{Look}

-- what a walk came to, with the position and the count that it was looked at from
abbrev pub told_from : Came.Outcome → ℕ → ℕ → Look
told_from o p c = record { steps = o.steps; stop = o.stop; peak = o.peak; carried = o.carried; position = p; count = c }
