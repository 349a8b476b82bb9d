-- No two declared values mean the same: the mappings of specs/Types.antt are injective.
use mathlib.Core.Path.{◌≡◌, refl, sym, ap, ◌∙◌}
use mathlib.Core.List.{List}
use Prim.Native.Nat.{ℕ}
use Rattle.std.specs.Prelude.{Result, Ok, Err}
use Rattle.term.specs.Refusal.{refusal_number}
use Rattle.term.specs.declared.refusal.Refusal.{Refusal}
use Rattle.term.proofs.Refusals.{refusal_once}
use Rattle.kam.specs.Runs
use Rattle.krivine.specs.Types.{halt_meant, run_meant, ran_meant}
use Rattle.krivine.specs.declared.Halt.{Halt}
use Rattle.krivine.specs.declared.Halt.TheVariants.{Spent, Answer, Full}
use Rattle.krivine.specs.declared.runs.Run.{Run}

-- a halt by what it means; no halt is a refusal
halt_back : Runs.Halt → Halt
halt_back Runs.spent = Spent
halt_back Runs.answer = Answer
halt_back Runs.full = Full
halt_back (Runs.refused k) = Spent

halt_back_lem : (h : Halt) → halt_back (halt_meant h) ≡ h
unfolding halt_back
halt_back_lem Spent = refl
halt_back_lem Answer = refl
halt_back_lem Full = refl

pub halt_once : (g h : Halt) → halt_meant g ≡ halt_meant h → g ≡ h
halt_once g h e = sym (halt_back_lem g) ∙ ap halt_back e ∙ halt_back_lem h

pub not_refused : (h : Halt) (k : ℕ) → halt_meant h ≡ Runs.refused k → ⊥
not_refused Spent k e = cc
not_refused Answer k e = cc
not_refused Full k e = cc

run_once : (r s : Run) (a b : List ℕ) → run_meant r a ≡ run_meant s b → r ≡ s
run_once r s a b e = λ i. record { node = (e i).node; steps = (e i).steps; halt = halt_once r.halt s.halt (ap (λ x. x.halt) e) i }

pub ran_once : (r s : Result Run Refusal) (a b : List ℕ) → ran_meant r a ≡ ran_meant s b → (r ≡ s) × (a ≡ b)
ran_once (Ok r) (Ok s) a b e = (ap Ok (run_once r s a b e), ap (λ x. x.records) e)
ran_once (Err j) (Err k) a b e = (ap Err (refusal_once j k (let h = ap (λ x. x.halt) e in cc)), ap (λ x. x.records) e)
ran_once (Ok r) (Err k) a b e = absurd (not_refused r.halt (refusal_number k) (ap (λ x. x.halt) e))
ran_once (Err k) (Ok r) a b e = absurd (not_refused r.halt (refusal_number k) (sym (ap (λ x. x.halt) e)))
