-- The columns of a part, from the columns of the parts below it.
use mathlib.Core.Path.{◌≡◌, refl, sym, ap, ap₂, ◌∙◌, subst⁻¹}
use mathlib.Core.List.{List, [], ◌++◌}
use Prim.Native.Nat.{ℕ, zero, suc, ◌+◌, ◌-◌, ◌*◌, ◌≤◌, ◌<◌}
use native.Mathlib.Nat.{suc-add}
use native.Mathlib.Numerals.{add-one}
use native.Mathlib.Omega.{arith}
use lib.ListN.{length, get_or, set, drop, length-set}
use lib.Seq.{sets-eq}
use Rattle.term.specs.Term.{Term, lam, size}
use Rattle.term.specs.Table.{row, column_of, columns_of, table_of}
use Rattle.term.specs.Accepted.{most_nodes}
use Rattle.term.specs.Walk.{binders_in}
use Rattle.term.proofs.Columns.{Long, columns_long, table_length}
use Rattle.term.proofs.Scope.{binders_under, binders_push}
use Rattle.reader.specs.Layout.{columns_put, each_alone, Layable, Laid, ColumnsLaid, Whole}
use Rattle.reader.proofs.Beside.{beside, Beside, put_beside, beside_long, put_length, put_on, put_before, put_whole}
use Rattle.reader.proofs.Parts.{layable_as, body_layable, Parts, parts_layable, index_layable}

-- The binders around: each stands at its place, and those around one more are kept where all are.
binder_at : (scope : List ℕ) (d x k : ℕ) → x < d → k + (x + 1) ≡ d → get_or (binders_in scope d) x 0 ≡ get_or scope k 0
binder_at scope zero x k h e = absurd (omega arith)
binder_at scope (suc d) zero k h e = let q : d ≡ k = omega arith in rw q
binder_at scope (suc d) (suc x) k h e = binder_at scope d x k (omega arith) (omega arith)

binders_outer : (scope scope' : List ℕ) (d : ℕ) → binders_in scope (d + 1) ≡ binders_in scope' (d + 1) → binders_in scope d ≡ binders_in scope' d
binders_outer scope scope' d e = ap (drop 1) (rw add-one at e)

-- the words of a node beside those of what is below it
own_long : (k l r p v : ℕ) → Long 1 (each_alone (row k l r p v))
own_long k l r p v = (refl, (refl, (refl, (refl, (refl, tt)))))

module _ (code : List ℕ) (n before p v d : ℕ) (scope table : List ℕ) where
  abbrev code_word : ℕ
  code_word = get_or code before 0

  -- an abstraction: its words, then its body's
  pub lam_laid : (r : ℕ) (table₁ scope' table' : List ℕ) → code_word ≡ 1 → table₁ ≡ columns_put n table before (each_alone (row 2 (before + 1 + 1) 0 p v))
      → ColumnsLaid code n (before + 1) (before + 1) v (d + 1) (set scope d (before + 1)) table₁ r scope' table'
      → ColumnsLaid code n before p v d scope table r scope' table'
  unfolding column_of
  lam_laid r table₁ scope' table' e w lays t ready = subst⁻¹ (Laid n before p v d scope table r scope' table') x.1 (record {
    next = omega (arith, body.next);
    kept = binders_outer scope' scope₁ d body.kept ∙ binders_under scope d d (before + 1) (omega arith);
    wrote = body.wrote ∙ ap (λ l. columns_put n l (before + 1) below) w
        ∙ put_on n table before 1 (size b) own below (put_beside 1 (size b) own below (own_long 2 (before + 1 + 1) 0 p v) (columns_long b _ _ _ _) refl) (omega (arith, x.2.among_them))
        ∙ simp (add-one, binders_push scope d (suc before) room);
  })
    where
      x : (b : Term) × (t ≡ lam b) × Layable code n (before + 1) (d + 1) (length scope) (length table) b
      x = body_layable code n before d (length scope) (length table) t ready e

      b : Term
      b = x.0

      scope₁ : List ℕ
      scope₁ = set scope d (before + 1)

      room : d < length scope
      room = omega (arith, x.2.scope_room)

      own : List (List ℕ)
      own = each_alone (row 2 (before + 1 + 1) 0 p v)

      body : Laid n (before + 1) (before + 1) v (d + 1) scope₁ table₁ r scope' table' b
      body = lays b (layable_as (simp length-set) (sym (ap length w ∙ put_length n table before own)) x.2)

      below : List (List ℕ)
      below = columns_of b (binders_in scope₁ (d + 1)) (suc (before + 1)) (before + 1) v

  -- a variable: its words alone
  pub var_laid : (table' : List ℕ) → (code_word ≡ 1 → ⊥) → (code_word ≡ 2 → ⊥)
      → table' ≡ columns_put n table before (each_alone (row 1 (get_or scope (d + 2 - code_word) 0) 0 p v))
      → ColumnsLaid code n before p v d scope table (before + 1) scope table'
  unfolding column_of
  var_laid table' h m w t ready =
      let x = index_layable code n before d (length scope) (length table) t ready h m in
      let place : d + 2 - code_word + (x.0 + 1) ≡ d = omega (arith, x.2, x.3) in
      subst⁻¹ (Laid n before p v d scope table (before + 1) scope table') x.1 (record {
        next = refl;
        kept = refl;
        wrote = w ∙ ap (λ k. columns_put n table before (each_alone (row 1 k 0 p v))) (sym (binder_at scope d x.0 (d + 2 - code_word) x.3 place));
      })

  -- an application: its function's words, its argument's, and then its own
  pub app_laid : (next r : ℕ) (scope₁ table₁ scope₂ table₂ table' : List ℕ) → code_word ≡ 2
      → length scope₁ ≡ length scope → length table₁ ≡ length table
      → ColumnsLaid code n (before + 1) (before + 1) v d scope table next scope₁ table₁
      → ColumnsLaid code n next (before + 1) (v + 1) d scope₁ table₁ r scope₂ table₂
      → table' ≡ columns_put n table₂ before (each_alone (row 3 (before + 1 + 1) (next + 1) p v))
      → ColumnsLaid code n before p v d scope table r scope₂ table'
  unfolding column_of
  app_laid next r scope₁ table₁ scope₂ table₂ table' e ls lt function argument w t ready = subst⁻¹ (Laid n before p v d scope table r scope₂ table') x.is_app (record {
    next = omega (arith, left.next, right.next);
    kept = right.kept ∙ left.kept;
    wrote = w
        ∙ ap (λ l. columns_put n l before own)
        (right.wrote ∙ ap₂ (λ l i. columns_put n l i gs) left.wrote left.next ∙ put_on n table (before + 1) (size f) (size a) fs gs parts (omega (arith, few)))
        ∙ put_before n table before 1 (size f + size a) own (beside fs gs) (put_beside 1 (size f + size a) own (beside fs gs) (own_long 3 (before + 1 + 1) (next + 1) p v) (beside_long (size f) (size a) fs gs parts) refl) (omega (arith, few))
        ∙ rw (left.kept, left.next) (simp (add-one, suc-add));
  })
    where
      x : Parts code n before d (length scope) (length table) t
      x = parts_layable code n before d (length scope) (length table) t ready e

      f : Term
      f = x.function

      a : Term
      a = x.argument

      left : Laid n (before + 1) (before + 1) v d scope table next scope₁ table₁ f
      left = function f x.function_layable

      right : Laid n next (before + 1) (v + 1) d scope₁ table₁ r scope₂ table₂ a
      right = argument a (layable_as (sym ls) (sym lt) (x.argument_layable next left.next))

      few : 1 + (size f + size a) ≤ n
      few = omega (arith, left.next, (x.argument_layable next left.next).among_them)

      own : List (List ℕ)
      own = each_alone (row 3 (before + 1 + 1) (next + 1) p v)

      fs : List (List ℕ)
      fs = columns_of f (binders_in scope d) (suc (before + 1)) (before + 1) v

      gs : List (List ℕ)
      gs = columns_of a (binders_in scope₁ d) (suc next) (before + 1) (v + 1)

      parts : Beside (size f) (size a) fs gs
      parts = put_beside (size f) (size a) fs gs (columns_long f _ _ _ _) (columns_long a _ _ _ _) refl

-- A whole term: the root is node 1, with no binder around it.
pub whole_layable : {code : List ℕ} {n l : ℕ} {t : Term} → Whole code n l t → Layable code n 0 0 most_nodes l t
whole_layable w = record {
  rest = w.rest;
  stands = w.stands;
  closed = w.closed;
  few_nodes = w.few_nodes;
  among_them = omega (arith, w.all);
  scope_room = omega (arith, w.all, w.few_nodes);
  table_room = w.room;
}

pub whole_laid : (scope table scope' table' : List ℕ) (n r : ℕ) (t : Term) → size t ≡ n → 5 * n ≤ length table → Laid n 0 0 0 0 scope table r scope' table' t
    → table' ≡ table_of t ++ drop (5 * size t) table
unfolding table_of
whole_laid scope table scope' table' n r t all room laid =
    laid.wrote
    ∙ ap (λ k. columns_put k table 0 (columns_of t [] 1 0 0)) (sym all)
    ∙ put_whole (size t) table 0 (columns_of t [] 1 0 0) (columns_long t [] 1 0 0)
    ∙ sets-eq (table_of t) table 0 (omega (arith, table_length t, all))
    ∙ ap (λ k. table_of t ++ drop k table) (let e : 0 + length (table_of t) ≡ 5 * size t = omega (arith, table_length t) in e)
