-- What an accepted table has, node by node.
use mathlib.Core.Path.{◌≡◌, sym, ap, ap₂, ◌∙◌, subst}
use mathlib.Core.Bool.{cond}
use mathlib.Core.List.{List, [], ◌∷◌}
use Prim.Native.Nat.{ℕ, zero, suc, ◌+◌, ◌-◌, ◌≤◌, ◌<◌}
use native.Mathlib.Nat.{not-suc-le-zero, le_of_suc-le-suc}
use native.Mathlib.Omega.{arith}
use native.Mathlib.Decide.{dec_le}
use lib.ListN.{length, get_or}
use lib.Dec.{eqb}
use borrow.Author.Tests.{eq-eqb, ne_eqb}
use Rattle.term.specs.Term.{Term, var, lam, app, size, ClosedUnder}
use Rattle.term.specs.Table.{Table, table_in, Kind, variable, abstraction, application, nothing, kind_of, kind_at, body_of, function_of, argument_of, nowhere, place_under, place_at}
use Rattle.term.specs.Rows.{Row, RowsIn}
use Rattle.term.specs.Accepted.{Accepted}
use Rattle.term.specs.Facts.{IsNode, Stands, Below, as_body, under_body, under_function, under_argument, Bound, Facts}
use Rattle.term.proofs.Rows.{root_parent, root_level, size_positive}
use Rattle.term.proofs.Table.{nodes_are, row_before, kind_beyond, kind_before}
use Rattle.term.proofs.Accepted.{term_size, accepted_rows}

-- The facts of a node, by its kind.
abbrev FactsOf : Table → ℕ → Kind → Type 0
FactsOf T i variable = Bound T i
FactsOf T i abstraction = Stands T (T.left i) (body_of i) (T.level i)
FactsOf T i application = Stands T (T.left i) (function_of i) (T.level i) × Stands T (T.right i) (argument_of i) (suc (T.level i))
FactsOf T i nothing = ⊥

abbrev pub NodeKind : Kind → Type 0
NodeKind variable = Unit
NodeKind abstraction = Unit
NodeKind application = Unit
NodeKind nothing = ⊥

module _ (T : Table) where
  -- where a child stands
  place_of : (i p m : ℕ) → T.parent i ≡ p → T.kind p ≡ m → place_at T i ≡ place_under T i p (kind_of m)
  place_of i p m e k = ap (λ q. place_under T i q (kind_at T q)) e ∙ ap (λ q. place_under T i p (kind_of q)) k

  place_body : (i p : ℕ) → T.parent i ≡ p → T.kind p ≡ 2 → T.left p ≡ i → place_at T i ≡ body_of p
  unfolding place_under kind_of
  place_body i p e k l = place_of i p 2 e k ∙ ap (λ b. cond b (body_of p) nowhere) (eq-eqb (T.left p) i l)

  place_function : (i p : ℕ) → T.parent i ≡ p → T.kind p ≡ 3 → T.left p ≡ i → place_at T i ≡ function_of p
  unfolding place_under kind_of
  place_function i p e k l = place_of i p 3 e k ∙ ap (λ b. cond b (function_of p) (cond (eqb (T.right p) i) (argument_of p) nowhere)) (eq-eqb (T.left p) i l)

  place_argument : (i p : ℕ) → T.parent i ≡ p → T.kind p ≡ 3 → (T.left p ≡ i → ⊥) → T.right p ≡ i → place_at T i ≡ argument_of p
  unfolding place_under kind_of
  place_argument i p e k l r =
      place_of i p 3 e k ∙ ap₂ (λ b c. cond b (function_of p) (cond c (argument_of p) nowhere)) (ne_eqb (T.left p) i l) (eq-eqb (T.right p) i r)

  body_place : (b : Term) (bs : List ℕ) (i p v : ℕ) → RowsIn T (lam b) bs i p v → place_at T (suc i) ≡ body_of i
  body_place b bs i p v h = place_body (suc i) i (root_parent T b (i ∷ bs) (suc i) i v h.1) h.0.kind_is h.0.left_is

  function_place : (f a : Term) (bs : List ℕ) (i p v : ℕ) → RowsIn T (app f a) bs i p v → place_at T (suc i) ≡ function_of i
  function_place f a bs i p v h = place_function (suc i) i (root_parent T f bs (suc i) i v h.1) h.0.kind_is h.0.left_is

  argument_place : (f a : Term) (bs : List ℕ) (i p v : ℕ) → RowsIn T (app f a) bs i p v → place_at T (suc i + size f) ≡ argument_of i
  argument_place f a bs i p v h =
      place_argument (suc i + size f) i (root_parent T a bs (suc i + size f) i (suc v) h.2) h.0.kind_is
      (λ e. let l : T.left i ≡ suc i = h.0.left_is in omega (arith, size_positive f)) h.0.right_is

  -- Binder b is around a part: between it and the root i of that part, of level v, stand x abstractions.
  record Around (b i v x : ℕ) : Type 0 where
    binder : kind_at T b ≡ abstraction
    binder_level : T.level b ≤ v
    below : Below T b i (v - T.level b) x

  abbrev Binders : List ℕ → ℕ → ℕ → Type 0
  Binders bs i v = (x : ℕ) → x < length bs → Around (get_or bs x 0) i v x

  binders_body : (b : Term) (bs : List ℕ) (i p v : ℕ) → RowsIn T (lam b) bs i p v → Binders bs i v → Binders (i ∷ bs) (suc i) v
  unfolding kind_of
  binders_body b bs i p v h a zero e = record {
    binder = ap kind_of h.0.kind_is;
    binder_level = let l : T.level i ≡ v = h.0.level_is in omega arith;
    below = subst (λ n. Below T i (suc i) n 0) (let l : T.level i ≡ v = h.0.level_is in omega arith) (as_body (body_place b bs i p v h));
  }
  binders_body b bs i p v h a (suc x) e =
      let c : Around (get_or bs x 0) i v x = a x (le_of_suc-le-suc e) in
      record { binder = c.binder; binder_level = c.binder_level; below = under_body (body_place b bs i p v h) c.below }

  binders_function : (f a : Term) (bs : List ℕ) (i p v : ℕ) → RowsIn T (app f a) bs i p v → Binders bs i v → Binders bs (suc i) v
  binders_function f a bs i p v h c x e =
      record { binder = (c x e).binder; binder_level = (c x e).binder_level; below = under_function (function_place f a bs i p v h) (c x e).below }

  binders_argument : (f a : Term) (bs : List ℕ) (i p v : ℕ) → RowsIn T (app f a) bs i p v → Binders bs i v → Binders bs (suc i + size f) (suc v)
  binders_argument f a bs i p v h c x e =
      let l : T.level (get_or bs x 0) ≤ v = (c x e).binder_level in
      record {
        binder = (c x e).binder;
        binder_level = omega arith;
        below = subst (λ n. Below T (get_or bs x 0) (suc i + size f) n x) (let g : suc (v - T.level (get_or bs x 0)) ≡ suc v - T.level (get_or bs x 0) = omega arith in g)
            (under_argument (argument_place f a bs i p v h) (c x e).below);
      }

  facts_variable : (x : ℕ) (bs : List ℕ) (i p v : ℕ) → Row T i 1 (get_or bs x 0) 0 p v → Around (get_or bs x 0) i v x → FactsOf T i (kind_at T i)
  unfolding kind_of
  facts_variable x bs i p v h a = subst (λ k. FactsOf T i (kind_of k)) (sym h.kind_is) record {
    binder = ap (kind_at T) h.left_is ∙ a.binder;
    binder_level = subst (λ b. T.level b ≤ T.level i) (sym h.left_is) (subst (λ u. T.level (get_or bs x 0) ≤ u) (sym h.level_is) a.binder_level);
    index = x;
    below = subst (λ b. Below T b i (T.level i - T.level b) x) (sym h.left_is) (subst (λ u. Below T (get_or bs x 0) i (u - T.level (get_or bs x 0)) x) (sym h.level_is) a.below);
  }

  facts_abstraction : (b : Term) (bs : List ℕ) (i p v : ℕ) → RowsIn T (lam b) bs i p v → IsNode T (suc i) → FactsOf T i (kind_at T i)
  unfolding kind_of
  facts_abstraction b bs i p v h n =
      subst (λ k. FactsOf T i (kind_of k)) (sym h.0.kind_is) (subst (λ j. Stands T j (body_of i) (T.level i)) (sym h.0.left_is) record {
        there = n;
        place_is = body_place b bs i p v h;
        level_is = root_level T b (i ∷ bs) (suc i) i v h.1 ∙ sym h.0.level_is;
      })

  facts_application : (f a : Term) (bs : List ℕ) (i p v : ℕ) → RowsIn T (app f a) bs i p v → IsNode T (suc i) → IsNode T (suc i + size f) → FactsOf T i (kind_at T i)
  unfolding kind_of
  facts_application f a bs i p v h n m = subst (λ k. FactsOf T i (kind_of k)) (sym h.0.kind_is) (
    subst (λ j. Stands T j (function_of i) (T.level i)) (sym h.0.left_is) record {
      there = n;
      place_is = function_place f a bs i p v h;
      level_is = root_level T f bs (suc i) i v h.1 ∙ sym h.0.level_is;
    },
    subst (λ j. Stands T j (argument_of i) (suc (T.level i))) (sym h.0.right_is) record {
      there = m;
      place_is = argument_place f a bs i p v h;
      level_is = root_level T a bs (suc i + size f) i (suc v) h.2 ∙ ap suc (sym h.0.level_is);
    },
  )

  at_root : (i j : ℕ) → i ≤ j → j ≤ i → FactsOf T i (kind_at T i) → FactsOf T j (kind_at T j)
  at_root i j l u f = subst (λ k. FactsOf T k (kind_at T k)) (let e : i ≡ j = omega arith in e) f

  node_facts : (t : Term) (bs : List ℕ) (i p v : ℕ) → RowsIn T t bs i p v → Binders bs i v → ClosedUnder (length bs) t → i + size t ≤ suc T.nodes
      → (j : ℕ) → i ≤ j → j < i + size t → FactsOf T j (kind_at T j)
  node_facts (var x) bs i p v h b c n j l u = at_root i j l (omega arith) (facts_variable x bs i p v h (b x c))
  node_facts (lam t) bs i p v h b c n j l u = elim (dec_le j i) [
    | yes e ↦ at_root i j l e (facts_abstraction t bs i p v h record { from_one = omega arith; to_last = omega (arith, size_positive t) })
    | no e ↦ node_facts t (i ∷ bs) (suc i) i v h.1 (binders_body t bs i p v h b) c (omega arith) j (omega arith) (omega arith)
  ]
  node_facts (app f a) bs i p v h b c n j l u = elim (dec_le j i) [
    | yes e ↦ at_root i j l e (facts_application f a bs i p v h
        record { from_one = omega arith; to_last = omega (arith, size_positive f) } record { from_one = omega arith; to_last = omega (arith, size_positive a) })
    | no e ↦ elim (dec_le (suc i + size f) j) [
      | yes g ↦ node_facts a bs (suc i + size f) i (suc v) h.2 (binders_argument f a bs i p v h b) c.1 (omega arith) j g (omega arith)
      | no g ↦ node_facts f bs (suc i) i v h.1 (binders_function f a bs i p v h b) c.0 (omega arith) j (omega arith) (omega arith)
    ]
  ]

module _ (w : List ℕ) (n : ℕ) where
  only_node : (i : ℕ) → (kind_at (table_in w n) i ≡ nothing → ⊥) → IsNode (table_in w n) i
  only_node zero h = absurd (h (kind_before w n))
  only_node (suc i) h = elim (dec_le (suc i) n) [
    | yes e ↦ record { from_one = omega arith; to_last = rw nodes_are e }
    | no e ↦ absurd (h (kind_beyond w n (suc i) (omega arith)))
  ]

  -- a node's facts, and those that its kind gives it
  table_facts : Accepted w n → (i : ℕ) → IsNode (table_in w n) i → FactsOf (table_in w n) i (kind_at (table_in w n) i)
  table_facts A i h =
      let e : size A.term ≡ n = term_size w n A in
      let m : (table_in w n).nodes ≡ n = nodes_are w n in
      let l : i ≤ n = rw m at h.to_last in
      node_facts (table_in w n) A.term [] 1 0 0 (accepted_rows w n A) (λ x z. absurd (not-suc-le-zero z)) A.closed (omega arith) i h.from_one (omega arith)

  kind_facts : Accepted w n → (i : ℕ) (k : Kind) → NodeKind k → kind_at (table_in w n) i ≡ k → FactsOf (table_in w n) i k
  kind_facts A i k t e = subst (FactsOf (table_in w n) i) e (table_facts A i (only_node i (λ z. subst NodeKind (sym e ∙ z) t)))

  root_stands : Accepted w n → Stands (table_in w n) 1 nowhere 0
  unfolding kind_of place_under
  root_stands A =
      let h : RowsIn (table_in w n) A.term [] 1 0 0 = accepted_rows w n A in
      record {
        there = record { from_one = omega arith; to_last = rw nodes_are A.some_node };
        place_is = place_of (table_in w n) 1 0 0 (root_parent (table_in w n) A.term [] 1 0 0 h) (row_before w n).kind_is;
        level_is = root_level (table_in w n) A.term [] 1 0 0 h;
      }

pub accepted_facts : (w : List ℕ) (n : ℕ) → Accepted w n → Facts (table_in w n)
accepted_facts w n A = record {
  only_nodes = only_node w n;
  body = λ i e. kind_facts w n A i abstraction tt e;
  function = λ i e. (kind_facts w n A i application tt e).0;
  argument = λ i e. (kind_facts w n A i application tt e).1;
  bound = λ i e. kind_facts w n A i variable tt e;
  root = root_stands w n A;
}
