-- Every state that the plain machine comes to has kept where its entries come from, so that rule 4 finds their variables bound at the node.
use mathlib.Core.Path.{◌≡◌, refl, sym, ap, ◌∙◌, subst}
use mathlib.Core.Bool.{true}
use mathlib.Core.Option.{some, map, some-injective, none-ne-some}
use mathlib.Core.List.{List, [], ◌∷◌}
use Prim.Native.Nat.{ℕ, zero, suc}
use lib.Dec.{leb}
use borrow.Author.Tests.{leb-true}
use Rattle.term.specs.Table.{Table, table_in, arity, Kind, variable, abstraction, application, nothing, kind_at, Place, body_of, function_of, argument_of, nowhere, place_at}
use Rattle.term.specs.Facts.{Facts}
use Rattle.term.specs.Accepted.{Accepted}
use Rattle.term.proofs.Choice.{chained}
use Rattle.term.proofs.Facts.{accepted_facts}
use Rattle.machine.specs.Entries.{Entry, entry, Log, ε, ◌▸◌, how_many, topmost, rest, ◌onto◌, bullet, held, Tape}
use Rattle.machine.specs.Machine.{Dir, down, up, State, state, start_state, bound_at, go_down, go_up, step_by, step, turned, turn, after_from}
use Rattle.machine.specs.Good.{TapeIn, Good}
use Rattle.machine.proofs.Logs.{topmost_rest}
use Rattle.machine.proofs.Tests.{bound_at_lem}
use Rattle.machine.proofs.Nodes.{Placed, placed}
use Rattle.machine.proofs.Rules.{rule_1, rule_2, rule_3, rule_4, rule_5, rule_6, rule_7, rule_8}
use Rattle.machine.proofs.Reverse.{turn_good, keeps_good, step_undone, step_turned_back}
use Rattle.machine.proofs.After.{after_good}
use Rattle.machine.proofs.Stuck.{Stuck, stuck_answer}
use Rattle.machine.proofs.Led.{Led, led_test}
use Rattle.machine.proofs.Bound.{TopBound, BoundHere}
use Rattle.machine.proofs.Origins.{Reach, here, further, facing, over, Traced, at_root, at_body, at_function, at_argument, Origin, On, on_top, further_down, TapeKept, Kept, higher, traced_binder}

-- The steps from an entry's binder come to the present node in the token's direction, or in the other. A step of the token, from direction d to e, is then one step more of them,
-- or takes the last of them back.
data Along (d e : Dir) : Dir → Dir → Type 0 where
  forth : Along d e d e
  back : Along d e (turned d) (turned e)

along_kept : (d a : Dir) → Along d d a a
along_kept down down = forth
along_kept down up = back
along_kept up down = back
along_kept up up = forth

along_turned : (d a : Dir) → Along d (turned d) a (turned a)
along_turned down down = forth
along_turned down up = back
along_turned up down = back
along_turned up up = forth

turned_along : (d a : Dir) → Along d (turned d) (turned a) a
turned_along down down = back
turned_along down up = forth
turned_along up down = forth
turned_along up up = back

-- A good state is good without what is under an entry of its tape, and without that entry.
above_in : (T : Table) {v : ℕ} {es : Log} {R S : Tape} → On v es R S → TapeIn T R → TapeIn T S
above_in T on_top h = tt
above_in T (further_down bullet o) h = above_in T o h
above_in T (further_down (held e) o) h = (h.0, above_in T o h.1)

above_good : (T : Table) {v : ℕ} {es : Log} (i : ℕ) (d : Dir) (L : Log) {R S : Tape} → On v es R S → Good T (state i d L R) → Good T (state i d L S)
above_good T i d L o g = record { node_there = g.node_there; level_many = g.level_many; log_entries = g.log_entries; tape_items = above_in T o g.tape_items }

module _ (T : Table) (F : Facts T) where
  -- a state that cannot be stepped back from is not stepped to
  not_stepped_to : (s u : State) → Stuck T (turn u) → Good T s → step T s ≡ some u → ⊥
  not_stepped_to s u z g e = none-ne-some s (sym (ap (map turn) z) ∙ step_undone T F s u g e)

  settled : {B X : State} → Reach T B X → Stuck T (turn X) → B ≡ X
  settled here z = refl
  settled (further {X = Y} {Y = X} r g e) z = absurd (not_stepped_to Y X z g e)

  -- the last step is taken back
  earlier : {B X : State} (Y : State) → Reach T B X → Good T Y → step T Y ≡ some X → Stuck T (turn B) → Reach T B Y
  earlier {B = B} Y here g e z = absurd (not_stepped_to Y B z g e)
  earlier {B = B} Y (further {X = Z} {Y = X} r h f) g e z = subst (Reach T B) (some-injective Z Y (sym (step_undone T F Z X h f) ∙ step_undone T F Y X g e)) r

  -- So an entry under what a step moves still comes from its binder.
  carried : {v : ℕ} {es : Log} {a b : Dir} (X Y : State) → Along X.dir Y.dir a b → Good T X → step T X ≡ some Y
      → Origin T v es (facing a X) → Origin T v es (facing b Y)
  carried X Y forth g x o = record { is_variable = o.is_variable; base = o.base; log_traced = o.log_traced; reached = further o.reached g x }
  carried {v = v} X Y back g x o = record {
    is_variable = o.is_variable;
    base = o.base;
    log_traced = o.log_traced;
    reached = earlier (turn Y) o.reached (turn_good T Y (keeps_good T F X Y g x)) (step_turned_back T F X Y g x)
        (stuck_answer T (T.left v) o.base [] (F.bound v o.is_variable).binder);
  }

  -- What a step puts onto the tape or takes from it, whatever is under it.
  module _ (i j : ℕ) (d : Dir) (L M : Log) (t : Tape) where
    bullet_put : Good T (state i d L t) → ((S : Tape) → step T (state i d L S) ≡ some (state j d M (bullet ∷ S))) → TapeKept T i L t → TapeKept T j M (bullet ∷ t)
    bullet_put g x k v es S (further_down {S = R} y o) = carried (state i d L R) (state j d M (bullet ∷ R)) (along_kept d (over R)) (above_good T i d L o g) (x R) (k v es R o)

    bullet_taken : Good T (state i d L (bullet ∷ t)) → ((S : Tape) → step T (state i d L (bullet ∷ S)) ≡ some (state j d M S)) → TapeKept T i L (bullet ∷ t) → TapeKept T j M t
    bullet_taken g x k v es S o =
        let under : On v es (bullet ∷ t) (bullet ∷ S) = further_down bullet o in
        carried (state i d L (bullet ∷ S)) (state j d M S) (along_kept d (over S)) (above_good T i d L under g) (x S) (k v es (bullet ∷ S) under)

    entry_put : (y : ℕ) (ys : Log) → Good T (state i d L t) → ((S : Tape) → step T (state i d L S) ≡ some (state j (turned d) M (held (entry y ys) ∷ S)))
        → Origin T y ys (state j up M []) → TapeKept T i L t → TapeKept T j M (held (entry y ys) ∷ t)
    entry_put y ys g x new k v es S on_top = new
    entry_put y ys g x new k v es S (further_down {S = R} z o) =
        carried (state i d L R) (state j (turned d) M (held (entry y ys) ∷ R)) (along_turned d (over R)) (above_good T i d L o g) (x R) (k v es R o)

    entry_taken : (e : Entry) → Good T (state i d L (held e ∷ t)) → ((S : Tape) → step T (state i d L (held e ∷ S)) ≡ some (state j (turned d) M S))
        → TapeKept T i L (held e ∷ t) → TapeKept T j M t
    entry_taken e g x k v es S o =
        let under : On v es (held e ∷ t) (held e ∷ S) = further_down (held e) o in
        carried (state i d L (held e ∷ S)) (state j (turned d) M S) (turned_along d (over S)) (above_good T i d L under g) (x S) (k v es (held e ∷ S) under)

  -- The entry on top, down at an abstraction, comes from there: it has just left it.
  left_here : (i : ℕ) (L : Log) (v : ℕ) (es : Log) → kind_at T i ≡ abstraction → (o : Origin T v es (state i up L [])) → state (T.left v) up o.base [] ≡ state i up L []
  left_here i L v es e o = settled o.reached (stuck_answer T i L [] e)

  -- an entry that rule 3 makes, at its binder
  new_entry : (i : ℕ) (L : Log) → kind_at T i ≡ variable → Traced T i L → Origin T i (topmost (arity T i) L) (state (T.left i) up (rest (arity T i) L) [])
  new_entry i L e r = record { is_variable = e; base = rest (arity T i) L; log_traced = subst (Traced T i) (sym (topmost_rest (arity T i) L)) r; reached = here }

  kept_down : (i : ℕ) (L : Log) (t : Tape) (q : Kind) → kind_at T i ≡ q → Good T (state i down L t) → Kept T (state i down L t) → Led (Kept T) (go_down T i q L t)
  unfolding go_down
  kept_down i L t application e g k = record {
    log_kept = at_function (F.function i e).place_is k.log_kept;
    tape_kept = bullet_put i (T.left i) down L L t g (λ S. rule_1 T i L S e) k.tape_kept;
  }
  kept_down i L [] abstraction e g k = tt
  kept_down i L (bullet ∷ t) abstraction e g k = record {
    log_kept = at_body (F.body i e).place_is k.log_kept;
    tape_kept = bullet_taken i (T.left i) down L L t g (λ S. rule_2 T i L S e) k.tape_kept;
  }
  kept_down i L t variable e g k = led_test (Kept T) (leb (arity T i) (how_many L)) _ (λ b. record {
    log_kept = traced_binder T F (F.bound i e).below L k.log_kept;
    tape_kept = entry_put i (T.left i) down L (rest (arity T i) L) t i (topmost (arity T i) L) g (λ S. rule_3 T i L S e (leb-true (arity T i) (how_many L) b))
        (new_entry i L e k.log_kept) k.tape_kept;
  })
  kept_down i L (held (entry v es) ∷ t) abstraction e g k = led_test (Kept T) (bound_at T i v) _ (λ b.
      let o : Origin T v es (state i up L []) = k.tape_kept v es [] on_top in
      record {
        log_kept = subst (λ M. Traced T v (es onto M)) (ap (λ s. s.log) (left_here i L v es e o)) o.log_traced;
        tape_kept = entry_taken i v down L (es onto L) t (entry v es) g (λ S. rule_4 T i L S v es e b) k.tape_kept;
      })
  kept_down i L t nothing e g k = tt

  kept_up : (i : ℕ) (L : Log) (t : Tape) (q : Place) → place_at T i ≡ q → Placed T i q → Good T (state i up L t) → Kept T (state i up L t) → Led (Kept T) (go_up T q L t)
  unfolding go_up
  kept_up i L [] (function_of p) e h g k = tt
  kept_up i L (bullet ∷ t) (function_of p) e h g k = record {
    log_kept = higher T F k.log_kept (function_of p) e;
    tape_kept = bullet_taken i p up L L t g (λ S. rule_5 T i L S e) k.tape_kept;
  }
  kept_up i L (held (entry v es) ∷ t) (function_of p) e h g k =
      let o : Origin T v es (state i up L []) = k.tape_kept v es [] on_top in
      record {
        log_kept = at_argument (F.argument p h.0).place_is (higher T F k.log_kept (function_of p) e) o.is_variable o.base o.log_traced
            (subst (λ j. Reach T (state (T.left v) up o.base []) (state j up L [])) (sym h.1) o.reached);
        tape_kept = entry_taken i (T.right p) up L (entry v es ▸ L) t (entry v es) g (λ S. rule_6 T i L S (entry v es) e) k.tape_kept;
      }
  kept_up i L t (body_of p) e h g k = record {
    log_kept = higher T F k.log_kept (body_of p) e;
    tape_kept = bullet_put i p up L L t g (λ S. rule_7 T i L S e) k.tape_kept;
  }
  kept_up i ε t (argument_of p) e h g k = tt
  kept_up i (entry v es ▸ L) t (argument_of p) e h g k =
      let above = higher T F k.log_kept (argument_of p) e in
      record {
        log_kept = at_function (F.function p h.0).place_is above.0;
        tape_kept = entry_put i (T.left p) up (entry v es ▸ L) L t v es g (λ S. rule_8 T i L S (entry v es) e) above.1 k.tape_kept;
      }
  kept_up i L t nowhere e h g k = tt

  kept_by : (i : ℕ) (d : Dir) (L : Log) (t : Tape) → Good T (state i d L t) → Kept T (state i d L t) → Led (Kept T) (step_by T i d L t)
  unfolding step_by
  kept_by i down L t g k = kept_down i L t (kind_at T i) refl g k
  kept_by i up L t g k = kept_up i L t (place_at T i) refl (placed T i) g k

  keeps : (s u : State) → Good T s → Kept T s → step T s ≡ some u → Kept T u
  keeps s u g k e = subst (Led (Kept T)) e (kept_by s.node s.dir s.log s.tape g k)

  pub start_kept : Kept T start_state
  start_kept = record { log_kept = at_root; tape_kept = λ v es S. none_there }
    where
      none_there : {v : ℕ} {es : Log} {S : Tape} {A : Type 0} → On v es [] S → A
      none_there = elim [ ]

  top_kept : (i : ℕ) (L : Log) (t : Tape) → TapeKept T i L t → kind_at T i ≡ abstraction → TopBound T i t
  top_kept i L [] k e = tt
  top_kept i L (bullet ∷ t) k e = tt
  top_kept i L (held (entry v es) ∷ t) k e =
      let o : Origin T v es (state i up L []) = k v es [] on_top in
      subst (λ j. bound_at T j v ≡ true) (ap (λ s. s.node) (left_here i L v es e o)) (bound_at_lem T v o.is_variable)

-- So it is after p steps on an accepted table, from any good state at position 0 that has kept where its entries come from. Document 003: "An invariant guarantees that the logged position on the
-- tape always contains a position relative to the active abstraction."
module _ (w : List ℕ) (n : ℕ) (A : Accepted w n) where
  abbrev T : Table
  T = table_in w n

  F : Facts T
  F = accepted_facts w n A

  module _ (s₀ : State) (good : Good T s₀) (kept : Kept T s₀) where
    after_kept : (p : ℕ) (s : State) → after_from T s₀ p ≡ some s → Kept T s
    unfolding after_from
    after_kept zero s e = subst (Kept T) (some-injective s₀ s e) kept
    after_kept (suc p) s e =
        let c = chained (after_from T s₀ p) (λ u. step T u) s e in
        keeps T F c.0 s (after_good w n A s₀ good p c.0 c.1) (after_kept p c.0 c.1) c.2

    pub after_bound : (p : ℕ) (s : State) → after_from T s₀ p ≡ some s → BoundHere T s
    after_bound p s e d k = top_kept T F s.node s.log s.tape (after_kept p s e).tape_kept k
