-- When the variable of the entry on top of the tape is bound at the node, as rule 4 asks: before each step, and after each step back.
use mathlib.Core.Path.{◌≡◌, refl, sym, ap, ◌∙◌, subst}
use mathlib.Core.Bool.{true, and-eq-true_iff, false≢true}
use mathlib.Core.Option.{some, none-ne-some}
use mathlib.Core.List.{[], ◌∷◌}
use Prim.Native.Nat.{ℕ}
use lib.Dec.{leb, eqb}
use Rattle.term.specs.Table.{Table, arity, Kind, variable, abstraction, application, nothing, kind_at, is_variable, Place, body_of, function_of, argument_of, nowhere, place_at}
use Rattle.term.specs.Facts.{Facts}
use Rattle.term.proofs.Choice.{passes}
use Rattle.machine.specs.Entries.{entry, Log, ε, ◌▸◌, how_many, bullet, held, Tape}
use Rattle.machine.specs.Machine.{Dir, down, up, State, state, bound_at, go_down, go_up, step_by, step, turned, step_back}
use Rattle.machine.proofs.Tests.{bound_at_lem}
use Rattle.machine.proofs.Nodes.{Placed, placed}
use Rattle.machine.proofs.Reverse.{step_turned}
use Rattle.machine.proofs.Stuck.{Stuck, stuck_unbound}
use Rattle.machine.proofs.Led.{Led, led_test}

abbrev pub TopBound : Table → ℕ → Tape → Type 0
TopBound T i [] = Unit
TopBound T i (bullet ∷ t) = Unit
TopBound T i (held (entry v es) ∷ t) = bound_at T i v ≡ true

-- where rule 4 asks for it: down at an abstraction
abbrev pub BoundHere : Table → State → Type 0
BoundHere T s = s.dir ≡ down → kind_at T s.node ≡ abstraction → TopBound T s.node s.tape

module _ (T : Table) where
  top_bound : (i : ℕ) (d : Dir) (L : Log) (t : Tape) → ¬ (Stuck T (state i d L t)) → d ≡ down → kind_at T i ≡ abstraction → TopBound T i t
  top_bound i d L [] n c k = tt
  top_bound i d L (bullet ∷ t) n c k = tt
  top_bound i d L (held (entry v es) ∷ t) n c k =
      passes (bound_at T i v) (λ z. n (ap (λ e. step T (state i e L (held (entry v es) ∷ t))) c ∙ stuck_unbound T i L t v es k z))

  pub step_bound : (s u : State) → step T s ≡ some u → BoundHere T s
  step_bound s u e = top_bound s.node s.dir s.log s.tape (λ z. none-ne-some u (sym z ∙ e))

  -- Up at an abstraction: only rule 3, which comes from a variable bound there, leaves an entry on top.
  abbrev UpBound : State → Type 0
  UpBound u = u.dir ≡ up → kind_at T u.node ≡ abstraction → TopBound T u.node u.tape

  abbrev IsDown : Dir → Type 0
  IsDown down = Unit
  IsDown up = ⊥

  abbrev NoAbstraction : Kind → Type 0
  NoAbstraction variable = Unit
  NoAbstraction abstraction = ⊥
  NoAbstraction application = Unit
  NoAbstraction nothing = Unit

  arrived_down : (i : ℕ) (k : Kind) → kind_at T i ≡ k → (L : Log) (t : Tape) → Led UpBound (go_down T i k L t)
  unfolding go_down
  arrived_down i application e L t = λ c k. absurd (subst IsDown c tt)
  arrived_down i abstraction e L [] = tt
  arrived_down i abstraction e L (bullet ∷ t) = λ c k. absurd (subst IsDown c tt)
  arrived_down i abstraction e L (held (entry v es) ∷ t) = led_test UpBound (bound_at T i v) _ (λ b c k.
      absurd (false≢true (ap is_variable (sym k) ∙ ((and-eq-true_iff (is_variable (kind_at T v)) (eqb (T.left v) i)).0 b).0)))
  arrived_down i variable e L t = led_test UpBound (leb (arity T i) (how_many L)) _ (λ b c k. bound_at_lem T i e)
  arrived_down i nothing e L t = tt

  arrived_up : (i : ℕ) (q : Place) → Placed T i q → (L : Log) (t : Tape) → Led UpBound (go_up T q L t)
  unfolding go_up
  arrived_up i (function_of p) h L [] = tt
  arrived_up i (function_of p) h L (bullet ∷ t) = λ c k. absurd (subst NoAbstraction (sym h.0 ∙ k) tt)
  arrived_up i (function_of p) h L (held e ∷ t) = λ c k. absurd (subst IsDown c tt)
  arrived_up i (body_of p) h L t = λ c k. tt
  arrived_up i (argument_of p) h ε t = tt
  arrived_up i (argument_of p) h (e ▸ L) t = λ c k. absurd (subst IsDown c tt)
  arrived_up i nowhere h L t = tt

  arrived_by : (i : ℕ) (d : Dir) (L : Log) (t : Tape) → Led UpBound (step_by T i d L t)
  unfolding step_by
  arrived_by i down L t = arrived_down i (kind_at T i) refl L t
  arrived_by i up L t = arrived_up i (place_at T i) (placed T i) L t

  arrived : (s u : State) → step T s ≡ some u → UpBound u
  arrived s u e = subst (Led UpBound) e (arrived_by s.node s.dir s.log s.tape)

  pub back_bound : Facts T → (s u : State) → step_back T u ≡ some s → BoundHere T s
  back_bound F s u e c k = arrived _ _ (step_turned T F s u e) (ap turned c) k
