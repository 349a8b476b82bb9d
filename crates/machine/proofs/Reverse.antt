-- Each step is undone by a step back and keeps the state good, so that the machine is reversible.
use mathlib.Core.Path.{◌≡◌, refl, sym, ap, ap₂, ◌∙◌, subst}
use mathlib.Core.Logic.{◌↔◌}
use mathlib.Core.Bool.{Bool, true, false, cond}
use mathlib.Core.Option.{Option, none, some, map}
use mathlib.Core.List.{[], ◌∷◌}
use Prim.Native.Nat.{ℕ, suc, ◌≤◌}
use native.Mathlib.Omega.{arith}
use lib.Dec.{leb}
use borrow.Author.Tests.{leb-true}
use Rattle.term.specs.Table.{Table, arity, Kind, variable, abstraction, application, nothing, kind_at, Place, body_of, function_of, argument_of, nowhere, place_at}
use Rattle.term.specs.Facts.{Facts}
use Rattle.machine.specs.Entries.{entry, Log, ε, ◌▸◌, how_many, topmost, rest, ◌onto◌, bullet, held, Tape}
use Rattle.machine.specs.Machine.{Dir, down, up, State, state, bound_at, go_down, go_up, step_by, step, turned, turn, step_back}
use Rattle.machine.specs.Good.{Good}
use Rattle.machine.proofs.Logs.{topmost_rest, topmost_onto, rest_onto, how_many_onto, how_many_rest, how_many_topmost, topmost_in, rest_in, onto_in}
use Rattle.machine.proofs.Tests.{bound_at_lem, bound_is}
use Rattle.machine.proofs.Rules.{rule_1, rule_2, rule_3, rule_4, rule_5, rule_6, rule_7, rule_8}
use Rattle.machine.proofs.Nodes.{is_node, Placed, placed}
use Rattle.machine.proofs.Led.{Led}

-- Turning twice changes nothing, and a turned state is as good.
pub turned_twice : (d : Dir) → turned (turned d) ≡ d
turned_twice down = refl
turned_twice up = refl

pub turn_twice : (s : State) → turn (turn s) ≡ s
turn_twice s = ap (λ d. state s.node d s.log s.tape) (turned_twice s.dir)

pub turn_good : (T : Table) (s : State) → Good T s → Good T (turn s)
turn_good T s g = record { node_there = g.node_there; level_many = g.level_many; log_entries = g.log_entries; tape_items = g.tape_items }

-- what holds of the state that a step leads to
record Undone (T : Table) (s u : State) : Type 0 where
  back : step T (turn u) ≡ some (turn s)
  good : Good T u

module _ (T : Table) (F : Facts T) where
  -- rules 3 and 4 undo each other; their tests came out as b
  undone_3 : (i : ℕ) (L : Log) (t : Tape) (b : Bool) → (b ≡ true → arity T i ≤ how_many L) → kind_at T i ≡ variable → Good T (state i down L t)
      → Led (Undone T (state i down L t)) (cond b (some (state (T.left i) up (rest (arity T i) L) (held (entry i (topmost (arity T i) L)) ∷ t))) none)
  undone_3 i L t false h k g = tt
  undone_3 i L t true h k g = record {
    back =
        rule_4 T (T.left i) (rest (arity T i) L) t i (topmost (arity T i) L) (F.bound i k).binder (bound_at_lem T i k)
        ∙ ap (λ M. some (state i up M t)) (topmost_rest (arity T i) L);
    good = record {
      node_there = is_node T F (T.left i) abstraction (F.bound i k).binder tt;
      level_many =
          let l : T.level (T.left i) ≤ T.level i = (F.bound i k).binder_level in
          let m : how_many L ≡ T.level i = g.level_many in
          how_many_rest (arity T i) L ∙ (omega arith);
      log_entries = rest_in T (arity T i) L g.log_entries;
      tape_items = ((k, how_many_topmost (arity T i) L (h refl), topmost_in T (arity T i) L g.log_entries), g.tape_items);
    };
  }

  undone_4 : (i v : ℕ) (es L : Log) (t : Tape) (b : Bool) → (b ≡ true → T.left v ≡ i) → Good T (state i down L (held (entry v es) ∷ t))
      → Led (Undone T (state i down L (held (entry v es) ∷ t))) (cond b (some (state v up (es onto L) t)) none)
  undone_4 i v es L t false h g = tt
  undone_4 i v es L t true h g = record {
    back =
        rule_3 T v (es onto L) t k (omega (arith, how_many_onto es L))
        ∙ ap₂ (λ j a. some (state j up (rest a (es onto L)) (held (entry v (topmost a (es onto L))) ∷ t))) (h refl) (sym m)
        ∙ ap₂ (λ M N. some (state i up M (held (entry v N) ∷ t))) (rest_onto es L) (topmost_onto es L);
    good = record {
      node_there = is_node T F v variable k tt;
      level_many =
          let l : T.level (T.left v) ≤ T.level v = (F.bound v k).binder_level in
          let b : T.level (T.left v) ≡ T.level i = ap T.level (h refl) in
          let n : how_many L ≡ T.level i = g.level_many in
          how_many_onto es L ∙ (omega arith);
      log_entries = onto_in T es L g.tape_items.0.2 g.log_entries;
      tape_items = g.tape_items.1;
    };
  }
    where
      k : kind_at T v ≡ variable
      k = g.tape_items.0.0

      m : how_many es ≡ arity T v
      m = g.tape_items.0.1

  undone_down : (i : ℕ) (L : Log) (t : Tape) (k : Kind) → kind_at T i ≡ k → Good T (state i down L t) → Led (Undone T (state i down L t)) (go_down T i k L t)
  unfolding go_down
  undone_down i L t application e g = record {
    back = rule_5 T (T.left i) L t (F.function i e).place_is;
    good = record {
      node_there = (F.function i e).there;
      level_many = g.level_many ∙ sym (F.function i e).level_is;
      log_entries = g.log_entries;
      tape_items = g.tape_items;
    };
  }
  undone_down i L [] abstraction e g = tt
  undone_down i L (bullet ∷ t) abstraction e g = record {
    back = rule_7 T (T.left i) L t (F.body i e).place_is;
    good = record {
      node_there = (F.body i e).there;
      level_many = g.level_many ∙ sym (F.body i e).level_is;
      log_entries = g.log_entries;
      tape_items = g.tape_items;
    };
  }
  undone_down i L (held (entry v es) ∷ t) abstraction e g = undone_4 i v es L t (bound_at T i v) (bound_is T i v) g
  undone_down i L t variable e g = undone_3 i L t (leb (arity T i) (how_many L)) (leb-true (arity T i) (how_many L)) e g
  undone_down i L t nothing e g = tt

  undone_up : (i : ℕ) (L : Log) (t : Tape) (q : Place) → Placed T i q → Good T (state i up L t) → Led (Undone T (state i up L t)) (go_up T q L t)
  unfolding go_up
  undone_up i L [] (function_of p) h g = tt
  undone_up i L (bullet ∷ t) (function_of p) h g = record {
    back = rule_1 T p L t h.0 ∙ ap (λ j. some (state j down L (bullet ∷ t))) h.1;
    good = record {
      node_there = is_node T F p application h.0 tt;
      level_many = g.level_many ∙ ap T.level (sym h.1) ∙ (F.function p h.0).level_is;
      log_entries = g.log_entries;
      tape_items = g.tape_items;
    };
  }
  undone_up i L (held e ∷ t) (function_of p) h g = record {
    back = rule_8 T (T.right p) L t e (F.argument p h.0).place_is ∙ ap (λ j. some (state j down L (held e ∷ t))) h.1;
    good = record {
      node_there = (F.argument p h.0).there;
      level_many = ap suc (g.level_many ∙ ap T.level (sym h.1) ∙ (F.function p h.0).level_is) ∙ sym (F.argument p h.0).level_is;
      log_entries = (g.tape_items.0, g.log_entries);
      tape_items = g.tape_items.1;
    };
  }
  undone_up i L t (body_of p) h g = record {
    back = rule_2 T p L t h.0 ∙ ap (λ j. some (state j down L t)) h.1;
    good = record {
      node_there = is_node T F p abstraction h.0 tt;
      level_many = g.level_many ∙ ap T.level (sym h.1) ∙ (F.body p h.0).level_is;
      log_entries = g.log_entries;
      tape_items = g.tape_items;
    };
  }
  undone_up i ε t (argument_of p) h g = tt
  undone_up i (e ▸ L) t (argument_of p) h g = record {
    back = rule_6 T (T.left p) L t e (F.function p h.0).place_is ∙ ap (λ j. some (state j down (e ▸ L) t)) h.1;
    good = record {
      node_there = (F.function p h.0).there;
      level_many =
          let m : suc (how_many L) ≡ T.level i = g.level_many in
          let l : T.level (T.right p) ≡ T.level i = ap T.level h.1 in
          omega (arith, (F.argument p h.0).level_is, (F.function p h.0).level_is);
      log_entries = g.log_entries.1;
      tape_items = (g.log_entries.0, g.tape_items);
    };
  }
  undone_up i L t nowhere h g = tt

  undone_by : (i : ℕ) (d : Dir) (L : Log) (t : Tape) → Good T (state i d L t) → Led (Undone T (state i d L t)) (step_by T i d L t)
  unfolding step_by
  undone_by i down L t g = undone_down i L t (kind_at T i) refl g
  undone_by i up L t g = undone_up i L t (place_at T i) (placed T i) g

  undone : (s u : State) → Good T s → step T s ≡ some u → Undone T s u
  undone s u g e = subst (Led (Undone T s)) e (undone_by s.node s.dir s.log s.tape g)

  pub keeps_good : (s u : State) → Good T s → step T s ≡ some u → Good T u
  keeps_good s u g e = (undone s u g e).good

  pub step_turned_back : (s u : State) → Good T s → step T s ≡ some u → step T (turn u) ≡ some (turn s)
  step_turned_back s u g e = (undone s u g e).back

  pub step_undone : (s t : State) → Good T s → step T s ≡ some t → step_back T t ≡ some s
  step_undone s t g e = ap (map turn) (undone s t g e).back ∙ ap some (turn_twice s)

  -- a step back is a step between the turned states
  pub step_turned : (s t : State) → step_back T t ≡ some s → step T (turn t) ≡ some (turn s)
  step_turned s t e = sym (map_twice (step T (turn t))) ∙ ap (map turn) e
    where
      map_twice : (o : Option State) → map turn (map turn o) ≡ o
      map_twice none = refl
      map_twice (some u) = ap some (turn_twice u)

  pub back_redone : (s t : State) → Good T t → step_back T t ≡ some s → step T s ≡ some t
  back_redone s t g e =
      ap (step T) (sym (turn_twice s))
      ∙ (undone (turn t) (turn s) (turn_good T t g) (step_turned s t e)).back
      ∙ ap some (turn_twice t)

  pub back_keeps_good : (s t : State) → Good T t → step_back T t ≡ some s → Good T s
  back_keeps_good s t g e = subst (Good T) (turn_twice s) (turn_good T (turn s) (keeps_good (turn t) (turn s) (turn_good T t g) (step_turned s t e)))

  -- among good states t follows s by a step where s follows t by a step back
  pub reversible : (s t : State) → Good T s → Good T t → (step T s ≡ some t) ↔ (step_back T t ≡ some s)
  reversible s t g h = (step_undone s t g, back_redone s t h)
