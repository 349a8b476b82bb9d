-- The columns of a term and the words of a slice: columns that lie in the slice stand in its table as rows, and rows that stand there are its columns.
use mathlib.Core.Path.{◌≡◌, refl, sym, ap, ◌∙◌}
use mathlib.Core.List.{List, [], ◌∷◌, ◌++◌}
use Prim.Native.Nat.{ℕ, zero, suc, ◌+◌, ◌-◌, ◌*◌, ◌≤◌, ◌<◌}
use native.Mathlib.Nat.{add-zero, suc-mul, zero-mul}
use native.Mathlib.Omega.{arith}
use native.Mathlib.Decide.{dec_le}
use lib.ListN.{length, get_or, take, length-append, get_or-append}
use lib.Seq.{get_or-append-add, get_or-take, ext_get_or, length-take-le}
use Rattle.term.specs.Term.{Term, var, lam, app, size}
use Rattle.term.specs.Table.{row, column_of, columns_of, joined, columns, table_of, Table, table_in}
use Rattle.term.specs.Rows.{Row, RowsIn}
use Rattle.term.proofs.Table.{field_of, field_is, word_at, in_columns}

-- a column has a word for each node
pub column_length : (f : ℕ) (t : Term) (bs : List ℕ) (i p v : ℕ) → length (column_of f t bs i p v) ≡ size t
unfolding column_of
column_length f (var x) bs i p v = refl
column_length f (lam b) bs i p v = ap suc (column_length f b (i ∷ bs) (suc i) i v)
column_length f (app g a) bs i p v = ap suc (simp (length-append, column_length f g, column_length f a))

module _ (T : Table) where
  -- the five words of a node, by the number of the field
  row_of : {i k l r p v : ℕ} → ((f : ℕ) → f < 5 → field_of f T i ≡ get_or (row k l r p v) f 0) → Row T i k l r p v
  row_of h = record {
    kind_is = h 0 (omega arith);
    left_is = h 1 (omega arith);
    right_is = h 2 (omega arith);
    parent_is = h 3 (omega arith);
    level_is = h 4 (omega arith);
  }

  of_row : {i k l r p v : ℕ} → Row T i k l r p v → (f : ℕ) → f < 5 → field_of f T i ≡ get_or (row k l r p v) f 0
  of_row h zero e = h.kind_is
  of_row h (suc zero) e = h.left_is
  of_row h (suc (suc zero)) e = h.right_is
  of_row h (suc (suc (suc zero))) e = h.parent_is
  of_row h (suc (suc (suc (suc zero)))) e = h.level_is
  of_row h (suc (suc (suc (suc (suc f))))) e = absurd (omega arith)

  -- The columns of a term stand in a table: field f of the node j after its root is word j of column f.
  abbrev pub ColumnsIn : Term → List ℕ → ℕ → ℕ → ℕ → Type 0
  ColumnsIn t bs i p v = (f j : ℕ) → f < 5 → j < size t → field_of f T (i + j) ≡ get_or (column_of f t bs i p v) j 0

  pub columns_stand : (t : Term) (bs : List ℕ) (i p v : ℕ) → ColumnsIn t bs i p v → RowsIn T t bs i p v
  unfolding column_of
  columns_stand (var x) bs i p v h = row_of (λ f e. ap (field_of f T) (sym (add-zero i)) ∙ h f 0 e (omega arith))
  columns_stand (lam b) bs i p v h = (
    row_of (λ f e. ap (field_of f T) (sym (add-zero i)) ∙ h f 0 e (omega arith)),
    columns_stand b (i ∷ bs) (suc i) i v (λ f j e l. ap (field_of f T) (let q : suc i + j ≡ i + suc j = omega arith in q) ∙ h f (suc j) e (omega arith)),
  )
  columns_stand (app g a) bs i p v h = (
    row_of (λ f e. ap (field_of f T) (sym (add-zero i)) ∙ h f 0 e (omega arith)),
    columns_stand g bs (suc i) i v (λ f j e l.
        ap (field_of f T) (let q : suc i + j ≡ i + suc j = omega arith in q) ∙ h f (suc j) e (omega arith)
        ∙ get_or-append (column_of f g bs (suc i) i v) (column_of f a bs (suc i + size g) i (suc v)) 0 j (omega (arith, column_length f g bs (suc i) i v))),
    columns_stand a bs (suc i + size g) i (suc v) (λ f j e l.
        ap (field_of f T) (let q : suc i + size g + j ≡ i + suc (size g + j) = omega arith in q) ∙ h f (suc (size g + j)) e (omega arith)
        ∙ ap (λ k. get_or (column_of f g bs (suc i) i v ++ column_of f a bs (suc i + size g) i (suc v)) (k + j) 0) (sym (column_length f g bs (suc i) i v))
        ∙ get_or-append-add (column_of f g bs (suc i) i v) (column_of f a bs (suc i + size g) i (suc v)) j 0),
  )

  pub columns_are : (t : Term) (bs : List ℕ) (i p v : ℕ) → RowsIn T t bs i p v → ColumnsIn t bs i p v
  unfolding column_of
  columns_are (var x) bs i p v h f zero e l = ap (field_of f T) (add-zero i) ∙ of_row h f e
  columns_are (var x) bs i p v h f (suc j) e l = absurd (omega arith)
  columns_are (lam b) bs i p v h f zero e l = ap (field_of f T) (add-zero i) ∙ of_row h.0 f e
  columns_are (lam b) bs i p v h f (suc j) e l =
      ap (field_of f T) (let q : i + suc j ≡ suc i + j = omega arith in q) ∙ columns_are b (i ∷ bs) (suc i) i v h.1 f j e (omega arith)
  columns_are (app g a) bs i p v h f zero e l = ap (field_of f T) (add-zero i) ∙ of_row h.0 f e
  columns_are (app g a) bs i p v h f (suc j) e l = elim (dec_le (size g) j) [
    | yes m ↦
        let k : ℕ = j - size g in
        let q : j ≡ size g + k = omega arith in
        ap (field_of f T) (let z : i + suc j ≡ suc i + size g + k = omega arith in z) ∙ columns_are a bs (suc i + size g) i (suc v) h.2 f k e (omega arith)
        ∙ sym (get_or-append-add gs hs k 0) ∙ ap (λ c. get_or (gs ++ hs) c 0) (let z : length gs + k ≡ j = omega (arith, column_length f g bs (suc i) i v) in z)
    | no m ↦
        ap (field_of f T) (let q : i + suc j ≡ suc i + j = omega arith in q) ∙ columns_are g bs (suc i) i v h.1 f j e (omega arith)
        ∙ sym (get_or-append gs hs 0 j (omega (arith, column_length f g bs (suc i) i v)))
  ]
    where
      gs : List ℕ
      gs = column_of f g bs (suc i) i v

      hs : List ℕ
      hs = column_of f a bs (suc i + size g) i (suc v)

-- Columns of n words one behind the other: where a word lies, and which word lies there.
abbrev pub Long : ℕ → List (List ℕ) → Type 0
Long n [] = Unit
Long n (c ∷ cs) = (length c ≡ n) × Long n cs

abbrev pub count : List (List ℕ) → ℕ
count [] = 0
count (c ∷ cs) = suc (count cs)

joined_length : (n : ℕ) (cs : List (List ℕ)) → Long n cs → length (joined cs) ≡ count cs * n
joined_length n [] l = sym (zero-mul n)
joined_length n (c ∷ cs) l = length-append c (joined cs) ∙ omega (arith, l.0, joined_length n cs l.1, suc-mul (count cs) n)

joined_word : (n : ℕ) (cs : List (List ℕ)) (f j : ℕ) → Long n cs → f < count cs → j < n → get_or (joined cs) (f * n + j) 0 ≡ get_or (get_or cs f []) j 0
joined_word n [] f j l e h = absurd (omega arith)
joined_word n (c ∷ cs) zero j l e h =
    ap (λ k. get_or (c ++ joined cs) k 0) (let q : 0 * n + j ≡ j = omega (arith, zero-mul n) in q) ∙ get_or-append c (joined cs) 0 j (omega (arith, l.0))
joined_word n (c ∷ cs) (suc f) j l e h =
    ap (λ k. get_or (c ++ joined cs) k 0) (let q : suc f * n + j ≡ length c + (f * n + j) = omega (arith, suc-mul f n, l.0) in q)
    ∙ get_or-append-add c (joined cs) (f * n + j) 0 ∙ joined_word n cs f j l.1 (omega arith) h

-- each word of so many columns lies in one of them
pub in_a_column : (m n k : ℕ) → k < m * n → (f : ℕ) × (j : ℕ) × (f < m) × (j < n) × (k ≡ f * n + j)
in_a_column zero n k h = absurd (omega (arith, zero-mul n))
in_a_column (suc m) n k h = elim (dec_le n k) [
  | yes e ↦
      let x = in_a_column m n (k - n) (omega (arith, suc-mul m n)) in
      (suc x.0, x.1, omega (arith, x.2), x.3, omega (arith, x.4, suc-mul x.0 n))
  | no e ↦ (0, k, omega arith, omega arith, omega (arith, zero-mul n))
]

pub columns_long : (t : Term) (bs : List ℕ) (i p v : ℕ) → Long (size t) (columns_of t bs i p v)
columns_long t bs i p v =
    (column_length _ t bs i p v, (column_length _ t bs i p v, (column_length _ t bs i p v, (column_length _ t bs i p v, (column_length _ t bs i p v, tt)))))

module _ (t : Term) where
  abbrev cs : List (List ℕ)
  cs = columns_of t [] 1 0 0

  nth_column : (f : ℕ) → f < 5 → get_or cs f [] ≡ column_of f t [] 1 0 0
  nth_column zero e = refl
  nth_column (suc zero) e = refl
  nth_column (suc (suc zero)) e = refl
  nth_column (suc (suc (suc zero))) e = refl
  nth_column (suc (suc (suc (suc zero)))) e = refl
  nth_column (suc (suc (suc (suc (suc f))))) e = absurd (omega arith)

  pub table_length : length (table_of t) ≡ 5 * size t
  unfolding table_of
  table_length = joined_length (size t) cs (columns_long t [] 1 0 0)

  pub table_word : (f j : ℕ) → f < 5 → j < size t → get_or (table_of t) (f * size t + j) 0 ≡ get_or (column_of f t [] 1 0 0) j 0
  unfolding table_of
  table_word f j e h = joined_word (size t) cs f j (columns_long t [] 1 0 0) e h ∙ ap (λ c. get_or c j 0) (nth_column f e)

module _ (w : List ℕ) (n : ℕ) where
  -- the term of a whole table has its n nodes
  pub table_size : (t : Term) → table_of t ≡ take (5 * n) w → 5 * n ≤ length w → size t ≡ n
  table_size t e l = omega (arith, table_length t, ap length e, length-take-le (5 * n) w l)

  pub table_stands : (t : Term) → table_of t ≡ take (5 * n) w → 5 * n ≤ length w → RowsIn (table_in w n) t [] 1 0 0
  table_stands t e l = columns_stand (table_in w n) t [] 1 0 0 λ f j b h.
      let s : size t ≡ n = table_size t e l in
      let m : j < n = omega arith in
      ap (field_of f (table_in w n)) (let q : 1 + j ≡ suc j = omega arith in q)
      ∙ field_is w n f (suc j) b ∙ word_at columns w n j f l m
      ∙ sym (get_or-take (5 * n) w (f * n + j) 0 (in_columns f j n b m))
      ∙ ap (λ u. get_or u (f * n + j) 0) (sym e)
      ∙ ap (λ k. get_or (table_of t) (f * k + j) 0) (sym s)
      ∙ table_word t f j b h

  pub table_is : (t : Term) → RowsIn (table_in w n) t [] 1 0 0 → size t ≡ n → 5 * n ≤ length w → table_of t ≡ take (5 * n) w
  table_is t h s l = ext_get_or 0 (table_of t) (take (5 * n) w) (omega (arith, table_length t, length-take-le (5 * n) w l)) λ k b.
      let x = in_a_column 5 n k (omega (arith, table_length t)) in
      let f = x.0 in
      let j = x.1 in
      let m : j < size t = omega (arith, x.3) in
      ap (λ c. get_or (table_of t) c 0) x.4
      ∙ ap (λ c. get_or (table_of t) (f * c + j) 0) (sym s)
      ∙ table_word t f j x.2 m
      ∙ sym (columns_are (table_in w n) t [] 1 0 0 h f j x.2 m)
      ∙ ap (field_of f (table_in w n)) (let q : 1 + j ≡ suc j = omega arith in q)
      ∙ field_is w n f (suc j) x.2 ∙ word_at columns w n j f l x.3
      ∙ sym (get_or-take (5 * n) w (f * n + j) 0 (in_columns f j n x.2 x.3))
      ∙ ap (λ c. get_or (take (5 * n) w) c 0) (sym x.4)
