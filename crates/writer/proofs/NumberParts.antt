-- The nodes of an accepted table in the number dialect: their depths one by one, their parts by these, and the parts put one after another.
use mathlib.Core.Path.{◌≡◌, refl, ap, ◌∙◌, subst, subst⁻¹}
use mathlib.Core.Bool.{Bool, true, false, cond}
use mathlib.Core.List.{List, [], ◌∷◌, ◌++◌}
use Prim.Native.Nat.{ℕ, zero, suc, ◌+◌, ◌-◌, ◌≤◌, ◌<◌}
use native.Mathlib.Omega.{arith}
use lib.ListN.{length, get_or, get_or-append}
use lib.Seq.{get_or-append-add}
use lib.Dec.{eqb, ltb}
use borrow.Author.Tests.{ne_eqb, ltb-true, ltb-false}
use Rattle.std.specs.Int.{from_bool}
use Rattle.decimal.specs.Decimal.{decimal}
use Rattle.term.specs.Term.{Term, var, lam, app, size, ClosedUnder}
use Rattle.term.specs.Table.{Table}
use Rattle.term.specs.Rows.{RowsIn}
use Rattle.term.proofs.Rows.{root_parent}
use Rattle.term.proofs.Scope.{Falling, falling_higher, binder_before}
use Rattle.text.specs.Bytes.{lambda}
use Rattle.text.specs.NumberGrammar.{at_sign}
use Rattle.writer.specs.Putting.{Put}
use Rattle.writer.specs.NumberParts.{depth_under, node_part}
use Rattle.writer.proofs.PartList.{parts_of, parts_count}

pub bit_small : (b : Bool) → from_bool b ≤ 1
bit_small true = omega arith
bit_small false = omega arith

-- A node's depth, by its parent, node p; and its part, by its kind.
module _ (T : Table) (D : ℕ → ℕ) (i : ℕ) where
  pub depth_is : (p : ℕ) → p ≡ T.parent i → (b : Bool) → b ≡ eqb (T.kind p) 2 → D p + from_bool b ≡ depth_under T D i
  depth_is p e b k = subst (λ m. D p + from_bool b ≡ cond (eqb (T.kind m) 2) (D m + 1) (D m)) e (subst (λ t. D p + from_bool b ≡ cond t (D p + 1) (D p)) k (one_more b))
    where
      one_more : (b : Bool) → D p + from_bool b ≡ cond b (D p + 1) (D p)
      one_more true = refl
      one_more false = omega arith

  -- its length, and that it is put where its bytes are
  pub record Part (s : List ℕ) : Type 0 where
    pub size_is : length (node_part T D i) ≡ length s
    pub put : {o : List ℕ} {at r : ℕ} {o' : List ℕ} → Put o at s r o' → Put o at (node_part T D i) r o'

  part_of : (s : List ℕ) → node_part T D i ≡ s → Part s
  part_of s e = record { size_is = ap length e; put = λ {o} {at} {r} {o'} x. subst⁻¹ (λ u. Put o at u r o') e x }

  pub variable_part : (l : ℕ) → l ≡ T.left i → T.kind i ≡ 1 → Part (decimal (D i - D l - 1))
  variable_part l e k = part_of (decimal (D i - D l - 1)) (rw (k, e))

  pub abstraction_part : T.kind i ≡ 2 → Part (lambda ∷ [])
  abstraction_part k = part_of (lambda ∷ []) (rw k)

  pub application_part : (T.kind i ≡ 1 → ⊥) → (T.kind i ≡ 2 → ⊥) → Part (at_sign ∷ [])
  application_part k l = part_of (at_sign ∷ []) (rw (ne_eqb (T.kind i) 1 k, ne_eqb (T.kind i) 2 l))

-- The node that stands q after the root of a part: the root itself, or the one that stands r after the next,
by_root : {A : Type 0} (q : ℕ) → (q ≡ 0 → A) → ((r : ℕ) → q ≡ suc r → A) → A
by_root zero root below = root refl
by_root (suc r) root below = below r refl

-- and of an application this one is in the function, which has m nodes, or in the argument.
by_side : {A : Type 0} (r m : ℕ) → (r < m → A) → (m ≤ r → A) → A
by_side {A} r m function argument = by_test (ltb r m) refl
  where
    by_test : (b : Bool) → ltb r m ≡ b → A
    by_test true e = function (ltb-true r m e)
    by_test false e = argument (ltb-false r m e)

module _ (T : Table) where
  -- A node's parent comes before it.
  root_later : (t : Term) (bs : List ℕ) (i p v : ℕ) → RowsIn T t bs i p v → p < i → (j : ℕ) → j ≡ i → T.parent j < j
  root_later t bs i p v h l j e = rw e (omega (arith, root_parent T t bs i p v h))

  pub parent_before : (t : Term) (bs : List ℕ) (i p v : ℕ) → RowsIn T t bs i p v → p < i → (j q : ℕ) → j ≡ i + q → q < size t → T.parent j < j
  parent_before (var x) bs i p v h l j q e s = root_later (var x) bs i p v h l j (omega arith)
  parent_before (lam b) bs i p v h l j q e s =
      by_root q
      (λ z. root_later (lam b) bs i p v h l j (omega arith))
      (λ r z. parent_before b (i ∷ bs) (suc i) i v h.1 (omega arith) j r (omega arith) (omega arith))
  parent_before (app f a) bs i p v h l j q e s =
      by_root q
      (λ z. root_later (app f a) bs i p v h l j (omega arith))
      (λ r z. by_side r (size f)
      (λ n. parent_before f bs (suc i) i v h.1 (omega arith) j r (omega arith) n)
      (λ n. parent_before a bs (suc i + size f) i (suc v) h.2 (omega arith) j (r - size f) (omega arith) (omega arith)))

  -- Where the depths of the first k nodes are right, each binder around has as many around it as stand outside it.
  module _ (D : ℕ → ℕ) (k : ℕ) (right : (m : ℕ) → 1 ≤ m → m ≤ k → D m ≡ depth_under T D m) where
    abbrev Outside : List ℕ → Type 0
    Outside bs = (x : ℕ) → x < length bs → D (get_or bs x 0) + suc x ≡ length bs

    outside_more : (i : ℕ) (bs : List ℕ) → D i ≡ length bs → Outside bs → Outside (i ∷ bs)
    outside_more i bs e o zero l = omega arith
    outside_more i bs e o (suc x) l = omega (arith, o x (omega arith))

    -- The part of a node is that of its term, and a variable's binder stands before it, around it.
    pub record NodeIs (part : List ℕ) (j : ℕ) : Type 0 where
      pub part_is : part ≡ node_part T D j
      pub binder_earlier : T.kind j ≡ 1 → T.left j < j
      pub binder_around : T.kind j ≡ 1 → D (T.left j) < D j

    abbrev Below : ℕ → ℕ → Type 0
    Below p d = cond (eqb (T.kind p) 2) (D p + 1) (D p) ≡ d

    root_depth : (t : Term) (bs : List ℕ) (i p v : ℕ) → RowsIn T t bs i p v → 1 ≤ i → i ≤ k → Below p (length bs) → D i ≡ length bs
    root_depth t bs i p v h one l u = right i one l ∙ ap (λ m. cond (eqb (T.kind m) 2) (D m + 1) (D m)) (root_parent T t bs i p v h) ∙ u

    -- the root of a part
    root_is : (t : Term) (bs : List ℕ) (i p v : ℕ) → RowsIn T t bs i p v → ClosedUnder (length bs) t → Falling i bs → Outside bs → D i ≡ length bs
        → NodeIs (get_or (parts_of t) 0 []) i
    root_is (var x) bs i p v h c f o d =
        let left : D (T.left i) ≡ D (get_or bs x 0) = ap D h.left_is in
        let index : x ≡ D i - D (T.left i) - 1 = omega (arith, o x c) in
        record {
          part_is = rw h.kind_is (ap decimal index);
          binder_earlier = λ z. omega (arith, h.left_is, binder_before i bs x f c);
          binder_around = λ z. omega (arith, o x c);
        }
    root_is (lam b) bs i p v h c f o d = record {
      part_is = rw h.0.kind_is;
      binder_earlier = λ z. absurd (omega (arith, h.0.kind_is));
      binder_around = λ z. absurd (omega (arith, h.0.kind_is));
    }
    root_is (app g a) bs i p v h c f o d = record {
      part_is = rw h.0.kind_is;
      binder_earlier = λ z. absurd (omega (arith, h.0.kind_is));
      binder_around = λ z. absurd (omega (arith, h.0.kind_is));
    }

    -- and the node that stands q after it
    first_is : (t : Term) (bs : List ℕ) (i p v : ℕ) → RowsIn T t bs i p v → ClosedUnder (length bs) t → Falling i bs → Outside bs → 1 ≤ i
        → Below p (length bs) → (j q : ℕ) → j ≡ i + q → q ≡ 0 → j ≤ k → NodeIs (get_or (parts_of t) q []) j
    first_is t bs i p v h c f o one u j q e z l =
        let same : j ≡ i = omega arith in
        rw (z, same) (root_is t bs i p v h c f o (root_depth t bs i p v h one (omega arith) u))

    pub nodes_are : (t : Term) (bs : List ℕ) (i p v : ℕ) → RowsIn T t bs i p v → ClosedUnder (length bs) t → Falling i bs → Outside bs → 1 ≤ i
        → Below p (length bs) → (j q : ℕ) → j ≡ i + q → q < size t → j ≤ k → NodeIs (get_or (parts_of t) q []) j
    nodes_are (var x) bs i p v h c f o one u j q e s l = first_is (var x) bs i p v h c f o one u j q e (omega arith) l
    nodes_are (lam b) bs i p v h c f o one u j q e s l =
        by_root q
        (λ z. first_is (lam b) bs i p v h c f o one u j q e z l)
        (λ r z.
        let d = root_depth (lam b) bs i p v h one (omega arith) u in
        rw z
        (nodes_are b (i ∷ bs) (suc i) i v h.1 c (omega arith, f) (outside_more i bs d o) (omega arith) (rw h.0.kind_is (omega arith)) j r (omega arith) (omega arith) l))
    nodes_are (app g a) bs i p v h c f o one u j q e s l =
        by_root q
        (λ z. first_is (app g a) bs i p v h c f o one u j q e z l)
        (λ r z.
        let under : Below i (length bs) = rw h.0.kind_is (root_depth (app g a) bs i p v h one (omega arith) u) in
        rw z
        (by_side r (size g)
        (λ n.
        subst⁻¹ (λ part. NodeIs part j) (get_or-append (parts_of g) (parts_of a) [] r (omega (arith, parts_count g)))
        (nodes_are g bs (suc i) i v h.1 c.0 (falling_higher i (suc i) bs (omega arith) f) o (omega arith) under j r (omega arith) n l))
        (λ n.
        let split : r ≡ length (parts_of g) + (r - size g) = omega (arith, parts_count g) in
        subst⁻¹ (λ part. NodeIs part j) (ap (λ m. get_or (parts_of g ++ parts_of a) m []) split ∙ get_or-append-add (parts_of g) (parts_of a) (r - size g) [])
        (nodes_are a bs (suc i + size g) i (suc v) h.2 c.1 (falling_higher i (suc i + size g) bs (omega arith) f) o (omega arith) under j (r - size g) (omega arith) (omega arith) l))))
