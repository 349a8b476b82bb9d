-- Each word of an accepted table is at most 3,000: kinds, nodes, and levels, of which a node has fewer than its number.
use mathlib.Core.Path.{◌≡◌, sym, ap, ◌∙◌, subst}
use mathlib.Core.List.{List, [], ◌∷◌, ◌++◌}
use Prim.Native.Nat.{ℕ, zero, suc, ◌+◌, ◌-◌, ◌*◌, ◌≤◌, ◌<◌}
use native.Mathlib.Omega.{arith}
use native.Mathlib.Decide.{dec_le}
use lib.ListN.{length, get_or, get_or-append}
use lib.Seq.{get_or-append-add, get_or-take}
use Rattle.term.specs.Term.{Term, var, lam, app, size, ClosedUnder}
use Rattle.term.specs.Table.{row, column_of, table_of}
use Rattle.term.specs.Accepted.{most_nodes, SmallWords}
use Rattle.term.proofs.Rows.{size_positive}
use Rattle.term.proofs.Columns.{column_length, in_a_column, table_word}
use Rattle.term.proofs.Scope.{Falling, falling_higher, binder_before}
use Rattle.term.proofs.Accepted.{term_size}

row_small : (k l r p v f : ℕ) → k ≤ most_nodes → l ≤ most_nodes → r ≤ most_nodes → p ≤ most_nodes → v ≤ most_nodes → get_or (row k l r p v) f 0 ≤ most_nodes
row_small k l r p v zero a b c d e = a
row_small k l r p v (suc zero) a b c d e = b
row_small k l r p v (suc (suc zero)) a b c d e = c
row_small k l r p v (suc (suc (suc zero))) a b c d e = d
row_small k l r p v (suc (suc (suc (suc zero)))) a b c d e = e
row_small k l r p v (suc (suc (suc (suc (suc f))))) a b c d e = omega arith

-- The part whose root is node i: binders, parent and level are below i, and the part ends by the last node.
column_small : (f : ℕ) (t : Term) (bs : List ℕ) (i p v : ℕ) → ClosedUnder (length bs) t → Falling i bs → p < i → v < i → i + size t ≤ suc most_nodes
    → (j : ℕ) → j < size t → get_or (column_of f t bs i p v) j 0 ≤ most_nodes
unfolding column_of
column_small f (var x) bs i p v c b a u l zero h =
    row_small 1 (get_or bs x 0) 0 p v f (omega arith) (omega (arith, binder_before i bs x b c)) (omega arith) (omega arith) (omega arith)
column_small f (var x) bs i p v c b a u l (suc j) h = absurd (omega arith)
column_small f (lam t) bs i p v c b a u l zero h =
    row_small 2 (suc i) 0 p v f (omega arith) (omega (arith, size_positive t)) (omega arith) (omega arith) (omega arith)
column_small f (lam t) bs i p v c b a u l (suc j) h =
    column_small f t (i ∷ bs) (suc i) i v c ((let g : i < suc i = omega arith in g), b) (omega arith) (omega arith) (omega arith) j (omega arith)
column_small f (app g t) bs i p v c b a u l zero h =
    row_small 3 (suc i) (suc i + size g) p v f (omega arith) (omega (arith, size_positive g)) (omega (arith, size_positive t)) (omega arith) (omega arith)
column_small f (app g t) bs i p v c b a u l (suc j) h = elim (dec_le (size g) j) [
  | yes m ↦
      let k : ℕ = j - size g in
      let e : get_or (gs ++ hs) j 0 ≡ get_or hs k 0 = ap (λ q. get_or (gs ++ hs) q 0) (let z : j ≡ length gs + k = omega (arith, column_length f g bs (suc i) i v) in z) ∙ get_or-append-add gs hs k 0 in
      subst (λ q. q ≤ most_nodes) (sym e)
      (column_small f t bs (suc i + size g) i (suc v) c.1 (falling_higher i (suc i + size g) bs (omega arith) b) (omega arith) (omega arith) (omega arith) k (omega arith))
  | no m ↦
      subst (λ q. q ≤ most_nodes) (sym (get_or-append gs hs 0 j (omega (arith, column_length f g bs (suc i) i v))))
      (column_small f g bs (suc i) i v c.0 (falling_higher i (suc i) bs (omega arith) b) (omega arith) (omega arith) (omega (arith, size_positive t)) j (omega arith))
]
  where
    gs : List ℕ
    gs = column_of f g bs (suc i) i v

    hs : List ℕ
    hs = column_of f t bs (suc i + size g) i (suc v)

pub small_words : SmallWords
small_words w n A k h =
    let t = A.term in
    let s : size t ≡ n = term_size w n A in
    let x = in_a_column 5 n k h in
    let m : x.1 < size t = omega (arith, x.3) in
    let e : get_or w k 0 ≡ get_or (column_of x.0 t [] 1 0 0) x.1 0 =
    sym (get_or-take (5 * n) w k 0 h) ∙ ap (λ u. get_or u k 0) (sym A.same) ∙ ap (λ q. get_or (table_of t) q 0) x.4
    ∙ ap (λ q. get_or (table_of t) (x.0 * q + x.1) 0) (sym s) ∙ table_word t x.0 x.1 x.2 m in
    subst (λ q. q ≤ most_nodes) (sym e) (column_small x.0 t [] 1 0 0 A.closed tt (omega arith) (omega arith) (omega (arith, A.few_nodes)) x.1 m)
