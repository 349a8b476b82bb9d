-- The parts of an accepted table's nodes put one after another: what each step asks, and that all of them make the text.
use mathlib.Core.Path.{◌≡◌, refl, sym, ap, ◌∙◌, subst, subst⁻¹}
use mathlib.Core.Bool.{Bool, true, false, cond}
use mathlib.Core.List.{List, [], ◌∷◌, ◌++◌}
use Prim.Native.Nat.{ℕ, zero, suc, ◌+◌, ◌-◌, ◌≤◌, ◌<◌}
use native.Mathlib.Omega.{arith}
use lib.ListN.{length, get_or, set, replicate, length-append}
use lib.Seq.{get_or-set_same, get_or-set_other}
use lib.Dec.{eqb}
use borrow.Author.Tests.{eqb-true, eqb-false}
use Rattle.term.specs.Term.{Term}
use Rattle.term.specs.Table.{Table, table_in}
use Rattle.term.specs.Rows.{RowsIn}
use Rattle.term.specs.Accepted.{Accepted}
use Rattle.term.proofs.Accepted.{term_size, accepted_rows}
use Rattle.text.specs.Bytes.{space}
use Rattle.text.specs.NumberGrammar.{number_text}
use Rattle.text.proofs.NumberGrammar.{numbers_short}
use Rattle.writer.specs.Putting.{longest_text, Put}
use Rattle.writer.specs.NumberParts.{depth_under, node_part, depth_in, DepthRoom, NodeRoom}
use Rattle.writer.proofs.Putting.{put_then}
use Rattle.writer.proofs.PartList.{parts_of, text_to, text_first, text_more, text_all, text_within}
use Rattle.writer.proofs.NumberParts.{parent_before, NodeIs, nodes_are}

-- The depths of the first k nodes are right; no depth is over its node's number.
pub record Depths (T : Table) (ds : List ℕ) (k : ℕ) : Type 0 where
  pub few : (m : ℕ) → depth_in ds m ≤ m
  pub are : (m : ℕ) → 1 ≤ m → m ≤ k → depth_in ds m ≡ depth_under T (depth_in ds) m

-- A slice of zeros tells no depth.
pub no_depths : (n m : ℕ) → depth_in (replicate n 0) m ≡ 0
no_depths zero m = refl
no_depths (suc n) zero = refl
no_depths (suc n) (suc m) = no_depths n m

-- this node or another
by_node : {B : Type 0} (m j : ℕ) → (m ≡ j → B) → ((m ≡ j → ⊥) → B) → B
by_node {B} m j this other = by_test (eqb m j) refl
  where
    by_test : (b : Bool) → eqb m j ≡ b → B
    by_test true e = this (eqb-true m j e)
    by_test false e = other (eqb-false m j e)

module _ (w : List ℕ) (n : ℕ) (A : Accepted w n) where
  abbrev T : Table
  T = table_in w n

  abbrev t : Term
  t = A.term

  rows : RowsIn T t [] 1 0 0
  rows = accepted_rows w n A

  earlier : (j : ℕ) → 1 ≤ j → j ≤ n → T.parent j < j
  earlier j l h = let size_is = term_size w n A in parent_before T t [] 1 0 0 rows (omega arith) j (j - 1) (omega arith) (omega arith)

  -- No binder is around the root.
  root_below : (D : ℕ → ℕ) → D 0 ≡ 0 → cond (eqb (T.kind 0) 2) (D 0 + 1) (D 0) ≡ 0
  unfolding table_in
  root_below D e = e

  node_is : (ds : List ℕ) (k : ℕ) (d : Depths T ds k) → k ≤ n → (j : ℕ) → 1 ≤ j → j ≤ k → NodeIs T (depth_in ds) k d.are (get_or (parts_of t) (j - 1) []) j
  node_is ds k d l j one h =
      let size_is = term_size w n A in
      nodes_are T (depth_in ds) k d.are t [] 1 0 0 rows A.closed tt (λ x z. absurd (omega arith)) (omega arith)
      (root_below (depth_in ds) (omega (arith, d.few 0))) j (j - 1) (omega arith) (omega arith) h

  text_room : (k : ℕ) → 1 ≤ k → k ≤ n → length (text_to t k) ≤ longest_text
  text_room k one h =
      let size_is = term_size w n A in
      omega (arith, text_within t k one (omega arith), numbers_short t A.closed (omega (arith, A.few_nodes)), A.few_nodes)

  -- The first node, where no depth is told yet.
  module _ (ds : List ℕ) (none : (m : ℕ) → depth_in ds m ≡ 0) where
    pub first_depths : Depths T ds 1
    first_depths = record {
      few = λ m. omega (arith, none m);
      are = λ m one h.
          let root : m ≡ 1 = omega arith in
          let up : T.parent m ≡ 0 = omega (arith, earlier m one (omega (arith, A.some_node))) in
          none m ∙ sym (ap (λ p. cond (eqb (T.kind p) 2) (depth_in ds p + 1) (depth_in ds p)) up ∙ root_below (depth_in ds) (none 0));
    }

    first_is : NodeIs T (depth_in ds) 1 first_depths.are (get_or (parts_of t) 0 []) 1
    first_is = node_is ds 1 first_depths A.some_node 1 (omega arith) (omega arith)

    first_text : node_part T (depth_in ds) 1 ≡ text_to t 1
    first_text = sym (text_first t ∙ first_is.part_is)

    pub first_room : NodeRoom T 1 ds 0
    first_room = record {
      there = omega arith;
      binder_there = λ z. omega (arith, first_is.binder_earlier z);
      binder_around = first_is.binder_around;
      short = omega (arith, ap length first_text, text_room 1 (omega arith) A.some_node);
    }

    pub first_put : {o : List ℕ} {r : ℕ} {o' : List ℕ} → Put o 0 (node_part T (depth_in ds) 1) r o' → Put o 0 (text_to t 1) r o'
    first_put {o} {r} {o'} x = subst (λ s. Put o 0 s r o') first_text x

  -- The next node after k of them.
  module _ (k : ℕ) (one : 1 ≤ k) (more : k < n) where
    module _ (ds : List ℕ) (d : Depths T ds k) where
      pub depth_room : DepthRoom T (k + 1) ds
      depth_room =
          let before = earlier (k + 1) (omega arith) (omega arith) in
          record { parent_there = omega (arith, A.few_nodes); few = omega (arith, A.few_nodes, d.few (T.parent (k + 1))) }

      module _ (v : ℕ) (room : k + 1 < length ds) (v_is : v ≡ depth_under T (depth_in ds) (k + 1)) where
        abbrev next : List ℕ
        next = set ds (k + 1) v

        kept : (m : ℕ) → (m ≡ k + 1 → ⊥) → depth_in next m ≡ depth_in ds m
        kept m h = get_or-set_other ds (k + 1) m v 0 h

        under_kept : (m : ℕ) → 1 ≤ m → m ≤ k + 1 → depth_under T (depth_in next) m ≡ depth_under T (depth_in ds) m
        under_kept m l h =
            let before = earlier m l (omega arith) in
            ap (λ x. cond (eqb (T.kind (T.parent m)) 2) (x + 1) x) (kept (T.parent m) (λ e. omega arith))

        stored : depth_in next (k + 1) ≡ v
        stored = get_or-set_same ds (k + 1) v 0 room

        at_most : (b : Bool) (x : ℕ) → cond b (x + 1) x ≤ x + 1
        at_most true x = omega arith
        at_most false x = omega arith

        v_few : v ≤ k + 1
        v_few =
            let p = T.parent (k + 1) in
            let before = earlier (k + 1) (omega arith) (omega arith) in
            omega (arith, v_is, at_most (eqb (T.kind p) 2) (depth_in ds p), d.few p)

        pub next_depths : Depths T next (k + 1)
        next_depths = record {
          few = λ m.
              by_node m (k + 1)
              (λ e. let s : depth_in next m ≡ v = ap (depth_in next) e ∙ stored in omega (arith, v_few))
              (λ h. omega (arith, kept m h, d.few m));
          are = λ m l h.
              by_node m (k + 1)
              (λ e. ap (depth_in next) e ∙ stored ∙ v_is ∙ sym (under_kept (k + 1) (omega arith) (omega arith)) ∙ ap (depth_under T (depth_in next)) (sym e))
              (λ g. kept m g ∙ d.are m l (omega arith) ∙ sym (under_kept m l h));
        }

    -- its part, with the space before it
    module _ (ds : List ℕ) (d : Depths T ds (k + 1)) (at q : ℕ) (at_is : at ≡ length (text_to t k)) (q_is : q ≡ at + 1) where
      next_is : NodeIs T (depth_in ds) (k + 1) d.are (get_or (parts_of t) (k + 1 - 1) []) (k + 1)
      next_is = node_is ds (k + 1) d (omega arith) (k + 1) (omega arith) (omega arith)

      next_text : text_to t (k + 1) ≡ text_to t k ++ (space ∷ node_part T (depth_in ds) (k + 1))
      next_text =
          let size_is = term_size w n A in
          let e : k + 1 - 1 ≡ k = omega arith in
          text_more t k one (omega arith) ∙ ap (λ s. text_to t k ++ (space ∷ s)) (ap (λ m. get_or (parts_of t) m []) (sym e) ∙ next_is.part_is)

      long : length (text_to t k) + (1 + length (node_part T (depth_in ds) (k + 1))) ≤ longest_text
      long = omega (arith, ap length next_text, length-append (text_to t k) (space ∷ node_part T (depth_in ds) (k + 1)), text_room (k + 1) (omega arith) (omega arith))

      pub next_room : NodeRoom T (k + 1) ds q
      next_room = record {
        there = omega (arith, A.few_nodes);
        binder_there = λ z. omega (arith, next_is.binder_earlier z, A.few_nodes);
        binder_around = next_is.binder_around;
        short = omega (arith, long);
      }

      pub space_room : at < longest_text
      space_room = omega (arith, long)

      pub next_put : {o o₁ o₂ : List ℕ} {r : ℕ} {o₃ : List ℕ} → Put o 0 (text_to t k) at o₁ → Put o₁ at (space ∷ []) q o₂
          → Put o₂ q (node_part T (depth_in ds) (k + 1)) r o₃ → Put o 0 (text_to t (k + 1)) r o₃
      next_put {o} {o₁} {o₂} {r} {o₃} x y z = subst⁻¹ (λ s. Put o 0 s r o₃) next_text (put_then x (put_then y z))

  pub all_put : {o : List ℕ} {k r : ℕ} {o' : List ℕ} → k ≡ n → Put o 0 (text_to t k) r o' → Put o 0 (number_text t) r o'
  all_put {o} {k} {r} {o'} e x = subst (λ s. Put o 0 s r o') (ap (text_to t) (e ∙ sym (term_size w n A)) ∙ text_all t) x
