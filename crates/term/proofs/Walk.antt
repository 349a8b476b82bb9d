-- The walk over the parts of a table, step by step: what it answers at a node from what it answers below it.
use mathlib.Core.Path.{◌≡◌, refl, sym, ap, ◌∙◌, subst, subst₂}
use mathlib.Core.Bool.{Bool, true, false, ◌&&◌}
use mathlib.Core.Option.{Option, none, some}
use Rattle.std.specs.Prelude.{Some, None}
use mathlib.Core.List.{List, [], ◌∷◌}
use Prim.Native.Nat.{ℕ, zero, suc, ◌+◌, ◌-◌, ◌*◌, ◌≤◌, ◌<◌}
use native.Mathlib.Numerals.{add-one}
use native.Mathlib.Omega.{arith}
use lib.ListN.{length, set}
use lib.Dec.{leb, eqb}
use borrow.Author.Tests.{eq-eqb, ne_eqb, le-leb}
use Rattle.term.specs.Choice.{◌>>=◌}
use Rattle.term.specs.Term.{Term, var, lam, app}
use Rattle.term.specs.Table.{Table, table_in}
use Rattle.term.specs.Rows.{Row, RowsIn}
use Rattle.term.specs.Accepted.{most_nodes, Part, part, part_at, is_whole, accepted}
use Rattle.term.specs.Walk.{RootIs, binders_in, PartAnswer, end_said, PartWalked}
use Rattle.term.specs.declared.kinds.Kind.TheVariants.{Variable, Abstraction, Application}
use Rattle.term.proofs.Table.{nodes_are}
use Rattle.term.proofs.Rows.{root_parent, root_level, root_left, root_right, root_kind}
use Rattle.term.proofs.Choice.{passed, failed, never}
use Rattle.term.proofs.Reading.{part_variable, part_abstraction, argument, part_application, reads_only}
use Rattle.term.proofs.Scope.{binders_push, is_around, around_index, around_none}

-- no part where no term stands
no_root : (T : Table) (i p v : ℕ) → ((bs : List ℕ) (t : Term) → RowsIn T t bs i p v → ⊥) → RootIs T i p v None
no_root T i p v h bs d = never (part_at d T bs i p v) (λ q e. h bs q.term (reads_only T d bs i p v q e).holds)

-- what a node's own words say of it
module _ (T : Table) (i p v : ℕ) where
  pub wrong_parent : (T.parent i ≡ p → ⊥) → RootIs T i p v None
  wrong_parent h = no_root T i p v (λ bs t e. h (root_parent T t bs i p v e))

  pub wrong_level : (T.level i ≡ v → ⊥) → RootIs T i p v None
  wrong_level h = no_root T i p v (λ bs t e. h (root_level T t bs i p v e))

  pub wrong_kind : (T.kind i ≡ 3 → ⊥) → (T.kind i ≡ 2 → ⊥) → (T.kind i ≡ 1 → ⊥) → RootIs T i p v None
  wrong_kind x y z = no_root T i p v (λ bs t e. let k = root_kind T t bs i p v e in omega arith)

module _ {T : Table} {i k l r p v : ℕ} (row : Row T i k l r p v) where
  pub wrong_left : (k ≡ 1 → ⊥) → (l ≡ i + 1 → ⊥) → RootIs T i p v None
  wrong_left h g = no_root T i p v (λ bs t e. g (sym row.left_is ∙ root_left T t bs i p v e (λ z. h (sym row.kind_is ∙ z)) ∙ sym (add-one i)))

  pub wrong_right : (k ≡ 3 → ⊥) → (r ≡ 0 → ⊥) → RootIs T i p v None
  wrong_right h g = no_root T i p v (λ bs t e. g (sym row.right_is ∙ root_right T t bs i p v e (λ z. h (sym row.kind_is ∙ z))))

  module _ (there : i ≤ T.nodes) where
    pub is_application : k ≡ 3 → l ≡ i + 1 → RootIs T i p v (Some Application)
    is_application e h = (
      there,
      record {
        kind_is = row.kind_is ∙ e;
        left_is = row.left_is ∙ h ∙ add-one i;
        right_is = refl;
        parent_is = row.parent_is;
        level_is = row.level_is;
      },
    )

    pub is_abstraction : k ≡ 2 → l ≡ i + 1 → r ≡ 0 → RootIs T i p v (Some Abstraction)
    is_abstraction e h g = (
      there,
      record {
        kind_is = row.kind_is ∙ e;
        left_is = row.left_is ∙ h ∙ add-one i;
        right_is = row.right_is ∙ g;
        parent_is = row.parent_is;
        level_is = row.level_is;
      },
    )

    pub is_variable : k ≡ 1 → r ≡ 0 → RootIs T i p v (Some Variable)
    is_variable e g = (there, record { kind_is = row.kind_is ∙ e; left_is = refl; right_is = row.right_is ∙ g; parent_is = row.parent_is; level_is = row.level_is })

pub root_there : (T : Table) (i p v : ℕ) (k : _) → RootIs T i p v (Some k) → i ≤ T.nodes
root_there T i p v Variable h = h.0
root_there T i p v Abstraction h = h.0
root_there T i p v Application h = h.0

pub end_some : (r : ℕ) → 0 < r → end_said r ≡ Some r
end_some zero h = absurd (omega arith)
end_some (suc r) h = refl

-- a depth that suffices at a node is one more than one that suffices below it
deeper : (last i : ℕ) (read : ℕ → Option Part) (o : Option Part) → i ≤ last → ((d : ℕ) → suc last - suc i ≤ d → read (suc d) ≡ o) → (d : ℕ) → suc last - i ≤ d → read d ≡ o
deeper last i read o l h zero e = absurd (omega arith)
deeper last i read o l h (suc d) e = h d (omega arith)

module _ (T : Table) (bs : List ℕ) (i p v : ℕ) (there : i ≤ T.nodes) where
  abbrev read_part : ℕ → Option Part
  read_part d = part_at d T bs i p v

  module _ (row : Row T i 1 (T.left i) 0 p v) where
    answer_variable : is_around (T.left i) bs ≡ true → PartAnswer T.nodes i read_part (Some (i + 1))
    answer_variable e =
        let x = around_index (T.left i) bs e in
        record {
          later = omega arith;
          inside = omega arith;
          term = var x.0;
          is = deeper T.nodes i read_part (some (part (var x.0) (i + 1))) there
              (λ d h. part_variable T d bs i p v (T.left i) row ∙ ap (λ o. o >>= λ y. some (part (var y) (suc i))) x.1 ∙ ap (λ j. some (part (var x.0) j)) (sym (add-one i)));
        }

    answer_unbound : is_around (T.left i) bs ≡ false → PartAnswer T.nodes i read_part None
    answer_unbound e =
        deeper T.nodes i read_part none there (λ d h. part_variable T d bs i p v (T.left i) row ∙ ap (λ o. o >>= λ y. some (part (var y) (suc i))) (around_none (T.left i) bs e))

  module _ (row : Row T i 2 (suc i) 0 p v) where
    read_body : (o : Option Part) → ((d : ℕ) → suc T.nodes - suc i ≤ d → part_at d T (i ∷ bs) (suc i) i v ≡ o)
        → (d : ℕ) → suc T.nodes - i ≤ d → read_part d ≡ (o >>= λ b. some (part (lam b.term) b.next))
    read_body o h = deeper T.nodes i read_part (o >>= λ b. some (part (lam b.term) b.next)) there
        (λ d l. part_abstraction T d bs i p v row ∙ ap (λ q. q >>= λ b. some (part (lam b.term) b.next)) (h d l))

    answer_abstraction : (r : _) → PartAnswer T.nodes (suc i) (λ d. part_at d T (i ∷ bs) (suc i) i v) r → PartAnswer T.nodes i read_part r
    answer_abstraction None b = read_body none b
    answer_abstraction (Some r) b = record {
      later = let l : suc i < r = b.later in omega arith;
      inside = b.inside;
      term = lam b.term;
      is = read_body (some (part b.term r)) b.is;
    }

  module _ (row : Row T i 3 (suc i) (T.right i) p v) where
    read_function : (o : Option Part) → ((d : ℕ) → suc T.nodes - suc i ≤ d → part_at d T bs (suc i) i v ≡ o)
        → (d : ℕ) → suc T.nodes - suc i ≤ d → read_part (suc d) ≡ (o >>= argument T d bs i p v (T.right i))
    read_function o h d l = part_application T d bs i p v (T.right i) row ∙ ap (λ q. q >>= argument T d bs i p v (T.right i)) (h d l)

    answer_no_function : PartAnswer T.nodes (suc i) (λ d. part_at d T bs (suc i) i v) None → PartAnswer T.nodes i read_part None
    answer_no_function f = deeper T.nodes i read_part none there (λ d h. read_function none f d h)

    module _ (j : ℕ) (function : PartAnswer T.nodes (suc i) (λ d. part_at d T bs (suc i) i v) (Some j)) where
      abbrev f : Term
      f = function.term

      answer_elsewhere : (T.right i ≡ j → ⊥) → PartAnswer T.nodes i read_part None
      answer_elsewhere e =
          deeper T.nodes i read_part none there
          (λ d h. read_function (some (part f j)) function.is d h
          ∙ failed (eqb (T.right i) j) (part_at d T bs j i (suc v) >>= λ a. some (part (app f a.term) a.next)) none (ne_eqb (T.right i) j e))

      read_argument : T.right i ≡ j → (o : Option Part) → ((d : ℕ) → suc T.nodes - j ≤ d → part_at d T bs j i (suc v) ≡ o)
          → (d : ℕ) → suc T.nodes - i ≤ d → read_part d ≡ (o >>= λ a. some (part (app f a.term) a.next))
      read_argument e o g = deeper T.nodes i read_part (o >>= λ a. some (part (app f a.term) a.next)) there
          (λ d h. let l : suc i < j = function.later in
          read_function (some (part f j)) function.is d h
          ∙ passed (eqb (T.right i) j) (part_at d T bs j i (suc v) >>= λ a. some (part (app f a.term) a.next)) none (eq-eqb (T.right i) j e)
          ∙ ap (λ q. q >>= λ a. some (part (app f a.term) a.next)) (g d (omega arith)))

      answer_application : T.right i ≡ j → (r : _) → PartAnswer T.nodes j (λ d. part_at d T bs j i (suc v)) r → PartAnswer T.nodes i read_part r
      answer_application e None a = read_argument e none a
      answer_application e (Some r) a =
          let l : suc i < j = function.later in
          record {
            later = let k : j < r = a.later in omega arith;
            inside = a.inside;
            term = app f a.term;
            is = read_argument e (some (part a.term r)) a.is;
          }

-- the same of the walk, whose scope holds the binders
module _ (T : Table) (s : List ℕ) (depth i p v : ℕ) where
  pub walked_none : RootIs T i p v None → PartWalked T s s depth i p v None
  walked_none h = record { answer = λ d l. h (binders_in s depth) d; same = refl }

  pub walked_variable : RootIs T i p v (Some Variable) → is_around (T.left i) (binders_in s depth) ≡ true → PartWalked T s s depth i p v (Some (i + 1))
  walked_variable h e = record { answer = answer_variable T (binders_in s depth) i p v h.0 h.1 e; same = refl }

  pub walked_unbound : RootIs T i p v (Some Variable) → is_around (T.left i) (binders_in s depth) ≡ false → PartWalked T s s depth i p v None
  walked_unbound h e = record { answer = answer_unbound T (binders_in s depth) i p v h.0 h.1 e; same = refl }

  pub walked_abstraction : RootIs T i p v (Some Abstraction) → depth < length s → (u : List ℕ) (r : _) → PartWalked T (set s depth i) u (depth + 1) (i + 1) i v r
      → PartWalked T s u depth i p v r
  walked_abstraction h l u r b =
      let a : PartWalked T (set s depth i) u (suc depth) (suc i) i v r = subst₂ (λ d j. PartWalked T (set s depth i) u d j i v r) (add-one depth) (add-one i) b in
      let e : binders_in u (suc depth) ≡ i ∷ binders_in s depth = a.same ∙ binders_push s depth i l in
      record {
        answer = answer_abstraction T (binders_in s depth) i p v h.0 h.1 r
            (subst (λ bs. PartAnswer T.nodes (suc i) (λ d. part_at d T bs (suc i) i v) r) (binders_push s depth i l) a.answer);
        same = cc;
      }

  module _ (h : RootIs T i p v (Some Application)) (u : List ℕ) where
    answer_function : (r : _) → PartWalked T s u depth (i + 1) i v r → PartAnswer T.nodes (suc i) (λ d. part_at d T (binders_in s depth) (suc i) i v) r
    answer_function r function = subst (λ k. PartAnswer T.nodes k (λ d. part_at d T (binders_in s depth) k i v) r) (add-one i) function.answer

    pub walked_no_function : PartWalked T s u depth (i + 1) i v None → PartWalked T s u depth i p v None
    walked_no_function f = record { answer = answer_no_function T (binders_in s depth) i p v h.0 h.1 (answer_function None f); same = f.same }

    module _ (j : ℕ) (function : PartWalked T s u depth (i + 1) i v (Some j)) where
      pub walked_elsewhere : (T.right i ≡ j → ⊥) → PartWalked T s u depth i p v None
      walked_elsewhere e = record { answer = answer_elsewhere T (binders_in s depth) i p v h.0 h.1 j (answer_function (Some j) function) e; same = function.same }

      pub walked_application : T.right i ≡ j → (t : List ℕ) (r : _) → PartWalked T u t depth j i (v + 1) r → PartWalked T s t depth i p v r
      walked_application e t r a = record {
        answer = answer_application T (binders_in s depth) i p v h.0 h.1 j (answer_function (Some j) function) e r
            (subst₂ (λ bs w. PartAnswer T.nodes j (λ d. part_at d T bs j i w) r) function.same (add-one v) a.answer);
        same = a.same ∙ function.same;
      }

-- the walk over the whole table, and the test
module _ (w s u : List ℕ) (n : ℕ) (some_node : 1 ≤ n) (few_nodes : n ≤ most_nodes) (long : 5 * n ≤ length w) where
  abbrev whole_part : Bool
  whole_part = is_whole n (part_at n (table_in w n) [] 1 0 0)

  only_whole : accepted w n ≡ whole_part
  unfolding accepted
  only_whole =
      ap (λ b. b && leb n most_nodes && leb (5 * n) (length w) && whole_part) (le-leb 1 n some_node)
      ∙ ap (λ b. b && leb (5 * n) (length w) && whole_part) (le-leb n most_nodes few_nodes)
      ∙ ap (λ b. b && whole_part) (le-leb (5 * n) (length w) long)

  pub walked_whole : (r : ℕ) → PartWalked (table_in w n) s u 0 1 0 0 (end_said r) → eqb r (n + 1) ≡ accepted w n
  walked_whole zero h = ne_eqb 0 (n + 1) (omega arith) ∙ sym (only_whole ∙ ap (is_whole n) (h.answer n (omega (arith, nodes_are w n))))
  walked_whole (suc r) h = ap (eqb (suc r)) (add-one n) ∙ sym (only_whole ∙ ap (is_whole n) (h.answer.is n (omega (arith, nodes_are w n))))
