-- The turns of a step, by its directions and by its rule, and of the steps to a position: no more than there are steps, and the direction at first, turned as often, is the direction there.
use mathlib.Core.Path.{◌≡◌, refl, sym, ap, ◌∙◌, subst}
use mathlib.Core.Logic.{◌↔◌}
use mathlib.Core.Bool.{Bool, true, false, cond}
use mathlib.Core.Option.{Option, none, some}
use mathlib.Core.List.{[], ◌∷◌}
use Prim.Native.Nat.{ℕ, zero, suc, ◌+◌, ◌≤◌, zero-le}
use native.Mathlib.Nat.{add-zero}
use native.Mathlib.Numerals.{add-one}
use native.Mathlib.Omega.{arith}
use lib.Dec.{leb}
use Rattle.term.specs.Choice.{if_some}
use Rattle.term.specs.Table.{Table, arity, Kind, variable, abstraction, application, nothing, kind_at, Place, body_of, function_of, argument_of, nowhere, place_at}
use Rattle.machine.specs.Entries.{entry, Log, ε, ◌▸◌, how_many, bullet, held, Tape}
use Rattle.machine.specs.Machine.{Dir, down, up, State, bound_at, go_down, go_up, step_by, step, turned, after_from}
use Rattle.machine.specs.Rule.{rule_down, rule_up, rule_by, rule_at}
use Rattle.machine.specs.Turns.{turn_between, turn_by, turn_after, turns_after, turned_times}
use Rattle.machine.proofs.Led.{Led}

abbrev IsDown : Dir → Type 0
IsDown down = Unit
IsDown up = ⊥

-- A step has no turn exactly if it leads on in its direction, and at most one.
pub turn_exactly : (d e : Dir) → (turn_between d e ≡ 0) ↔ (d ≡ e)
turn_exactly down down = (λ _. refl, λ _. refl)
turn_exactly down up = (λ z. absurd (omega arith), λ e. absurd (subst IsDown e tt))
turn_exactly up down = (λ z. absurd (omega arith), λ e. absurd (subst IsDown (sym e) tt))
turn_exactly up up = (λ _. refl, λ _. refl)

pub turn_once : (d e : Dir) → turn_between d e ≤ 1
turn_once down down = omega arith
turn_once down up = omega arith
turn_once up down = omega arith
turn_once up up = omega arith

-- It has as many the other way,
pub turn_back : (d e : Dir) → turn_between d e ≡ turn_between e d
turn_back down down = refl
turn_back down up = refl
turn_back up down = refl
turn_back up up = refl

-- and from a direction turned as many as to one turned.
pub turn_turned : (d e : Dir) → turn_between (turned d) e ≡ turn_between d (turned e)
turn_turned down down = refl
turn_turned down up = refl
turn_turned up down = refl
turn_turned up up = refl

-- By its rule.
abbrev Turns : Dir → ℕ → Option State → Type 0
Turns d k = Led (λ u. turn_between d u.dir ≡ turn_by k)

-- where a rule has a test, as rules 3 and 4
turns_test : (d : Dir) (b : Bool) (k : ℕ) (u : State) → turn_between d u.dir ≡ turn_by k → Turns d (cond b k 0) (cond b (some u) none)
turns_test d true k u e = e
turns_test d false k u e = tt

by_kind : (T : Table) (i : ℕ) (L : Log) (t : Tape) (k : Kind) → Turns down (rule_down T i k L t) (go_down T i k L t)
unfolding go_down rule_down
by_kind T i L t application = refl
by_kind T i L [] abstraction = tt
by_kind T i L (bullet ∷ t) abstraction = refl
by_kind T i L (held (entry v es) ∷ t) abstraction = turns_test down (bound_at T i v) 4 _ refl
by_kind T i L t variable = turns_test down (leb (arity T i) (how_many L)) 3 _ refl
by_kind T i L t nothing = tt

by_place : (T : Table) (p : Place) (L : Log) (t : Tape) → Turns up (rule_up p L t) (go_up T p L t)
unfolding go_up rule_up
by_place T (function_of p) L [] = tt
by_place T (function_of p) L (bullet ∷ t) = refl
by_place T (function_of p) L (held e ∷ t) = refl
by_place T (body_of p) L t = refl
by_place T (argument_of p) ε t = tt
by_place T (argument_of p) (e ▸ L) t = refl
by_place T nowhere L t = tt

by_way : (T : Table) (i : ℕ) (d : Dir) (L : Log) (t : Tape) → Turns d (rule_by T i d L t) (step_by T i d L t)
unfolding step_by rule_by
by_way T i down L t = by_kind T i L t (kind_at T i)
by_way T i up L t = by_place T (place_at T i) L t

pub turn_by_rule : (T : Table) (s u : State) → step T s ≡ some u → turn_between s.dir u.dir ≡ turn_by (rule_at T s)
turn_by_rule T s u e = subst (Turns s.dir (rule_at T s)) e (by_way T s.node s.dir s.log s.tape)

turned_once : (k : ℕ) (a d e : Dir) → d ≡ turned_times k a → e ≡ turned_times (k + turn_between d e) a
turned_once k a down down h = h ∙ ap (λ j. turned_times j a) (sym (add-zero k))
turned_once k a down up h = ap turned h ∙ ap (λ j. turned_times j a) (sym (add-one k))
turned_once k a up down h = ap turned h ∙ ap (λ j. turned_times j a) (sym (add-one k))
turned_once k a up up h = h ∙ ap (λ j. turned_times j a) (sym (add-zero k))

module _ (T : Table) (s₀ : State) where
  pub turns_none : turns_after T s₀ 0 ≡ 0
  unfolding turns_after
  turns_none = refl

  -- one step more
  pub turns_next : (p : ℕ) {s u : State} → after_from T s₀ p ≡ some s → after_from T s₀ (suc p) ≡ some u → turns_after T s₀ (suc p) ≡ turns_after T s₀ p + turn_between s.dir u.dir
  unfolding turns_after
  turns_next p e f = rw (e, f) refl

  few : (o q : Option State) → if_some o (λ s. if_some q (λ u. turn_between s.dir u.dir) (λ _. 0)) (λ _. 0) ≤ 1
  few none q = zero-le
  few (some s) none = zero-le
  few (some s) (some u) = turn_once s.dir u.dir

  pub turns_at_most : (p : ℕ) → turns_after T s₀ p ≤ p
  unfolding turns_after
  turns_at_most zero = zero-le
  turns_at_most (suc p) =
      let h : turns_after T s₀ p ≤ p = turns_at_most p in
      let k : turn_after T s₀ p ≤ 1 = few (after_from T s₀ p) (after_from T s₀ (suc p)) in
      omega arith

  -- the direction after p steps, if there are so many
  abbrev Turned : ℕ → Option State → Type 0
  Turned p = Led (λ s. s.dir ≡ turned_times (turns_after T s₀ p) s₀.dir)

  turned_from : (p : ℕ) → Turned p (after_from T s₀ p)
  unfolding after_from turns_after
  turned_from zero = refl
  turned_from (suc p) = by_state (after_from T s₀ p) refl (turned_from p)
    where
      by_state : (o : Option State) → after_from T s₀ p ≡ o → Turned p o → Turned (suc p) (after_from T s₀ (suc p))
      by_state none e h = rw e tt
      by_state (some s) e h = by_next (step T s) refl
        where
          by_next : (q : Option State) → step T s ≡ q → Turned (suc p) (after_from T s₀ (suc p))
          by_next none f = rw (e, f) tt
          by_next (some u) f = rw (e, f) (turned_once (turns_after T s₀ p) s₀.dir s.dir u.dir h)

  pub turned_as_often : (p : ℕ) {s : State} → after_from T s₀ p ≡ some s → s.dir ≡ turned_times (turns_after T s₀ p) s₀.dir
  turned_as_often p e = subst (Turned p) e (turned_from p)
