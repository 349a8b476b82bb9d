-- The declared types as the definitions' own, with a name and values for each of their cases.
use Rattle.std.specs.Prelude.{List, ℕ, Result, Ok, Err}
use Rattle.term.specs.Refusal.{refusal_number}
use Rattle.term.specs.declared.refusal.Refusal.{Refusal}
use Rattle.kam.specs.Runs
use Rattle.krivine.specs.declared.Halt.{Halt}
use Rattle.krivine.specs.declared.Halt.TheVariants.{Spent, Answer, Full}
use Rattle.krivine.specs.declared.runs.Run.{Run}

abbrev pub halt_meant : Halt → Runs.Halt
halt_meant Spent = Runs.spent
halt_meant Answer = Runs.answer
halt_meant Full = Runs.full

-- A run, with the lent words at exit, as the definition's.
abbrev pub run_meant : Run → List ℕ → Runs.Ran
run_meant r records = record { node = r.node; steps = r.steps; halt = halt_meant r.halt; records = records }

-- The declared answer, likewise: a refused run stands at no node and has made no step.
abbrev pub ran_meant : Result Run Refusal → List ℕ → Runs.Ran
ran_meant (Ok r) records = run_meant r records
ran_meant (Err k) records = Runs.refused_run (refusal_number k) records
