-- Rows and columns: each field of each node of a term's columns is that of its rows, and a call sees the same in a slice as in its rows.
use mathlib.Core.Path.{◌≡◌, refl, sym, ap, ap₂, ◌∙◌, subst}
use mathlib.Core.List.{List, [], ◌∷◌, ◌++◌, append-nil}
use Prim.Native.Nat.{ℕ, zero, suc, ◌+◌, ◌*◌, ◌≤◌, ◌<◌}
use native.Mathlib.Nat.{suc-add, zero-add, add-zero}
use native.Mathlib.Omega.{arith}
use native.Mathlib.Decide.{dec_le}
use lib.ListN.{length, get_or, take, drop, length-append, length-drop, take-append-drop, get_or-append}
use lib.Seq.{take_at, drop_at, get_or-take, ext_get_or, length-take-le}
use borrow.Author.Tests.{le-leb, lt-leb}
use Rattle.term.specs.Term.{Term, var, lam, app, size}
use Rattle.term.specs.Table.{row, rows_of, rows, columns, words_of, table_of, Table, word_in, table_by, table_in}
use Rattle.term.specs.Rows.{Row, RowsIn}
use Rattle.term.specs.Accepted.{Accepted, is_table, accepted}
use Rattle.term.specs.ByRows.{SameFields, rows_from, by_rows, SameLength, AcceptedByRows, SameAccepted, sight, sight_by, SameSight}
use Rattle.term.proofs.Table.{field_of, field_is, word_at, word_short, word_beyond}
use Rattle.term.proofs.Columns.{in_a_column, table_length, table_size, table_stands}

-- The rows of some nodes: how many words they have, which word is which field, and one run of nodes after another.
module _ (T : Table) where
  rows_length : (i m : ℕ) → length (rows_from T i m) ≡ 5 * m
  unfolding rows_from
  rows_length i zero = refl
  rows_length i (suc m) = omega (arith, rows_length (suc i) m)

  first_row : (i m f : ℕ) → f < 5 → get_or (rows_from T i (suc m)) f 0 ≡ field_of f T (suc i)
  unfolding rows_from
  first_row i m zero b = refl
  first_row i m (suc zero) b = refl
  first_row i m (suc (suc zero)) b = refl
  first_row i m (suc (suc (suc zero))) b = refl
  first_row i m (suc (suc (suc (suc zero)))) b = refl
  first_row i m (suc (suc (suc (suc (suc f))))) b = absurd (omega arith)

  later_rows : (i m k : ℕ) → get_or (rows_from T i (suc m)) (5 + k) 0 ≡ get_or (rows_from T (suc i) m) k 0
  unfolding rows_from
  later_rows i m k = ap (λ q. get_or (rows_from T i (suc m)) q 0) (let e : 5 + k ≡ suc (suc (suc (suc (suc k)))) = omega arith in e)

  rows_word : (i m j f : ℕ) → j < m → f < 5 → get_or (rows_from T i m) (5 * j + f) 0 ≡ field_of f T (suc (i + j))
  rows_word i zero j f h b = absurd (omega arith)
  rows_word i (suc m) zero f h b =
      ap (λ k. get_or (rows_from T i (suc m)) k 0) (let e : 5 * 0 + f ≡ f = omega arith in e)
      ∙ first_row i m f b ∙ ap (λ k. field_of f T (suc k)) (sym (add-zero i))
  rows_word i (suc m) (suc j) f h b =
      ap (λ k. get_or (rows_from T i (suc m)) k 0) (let e : 5 * suc j + f ≡ 5 + (5 * j + f) = omega arith in e)
      ∙ later_rows i m (5 * j + f) ∙ rows_word (suc i) m j f (omega arith) b
      ∙ ap (λ k. field_of f T (suc k)) (let e : suc i + j ≡ i + suc j = omega arith in e)

  rows_split : (i m k : ℕ) → rows_from T i (m + k) ≡ rows_from T i m ++ rows_from T (i + m) k
  unfolding rows_from
  rows_split i zero k = ap₂ (λ j l. rows_from T j l) (sym (add-zero i)) (zero-add k)
  rows_split i (suc m) k =
      ap (rows_from T i) (suc-add m k)
      ∙ ap (λ l. row (T.kind (suc i)) (T.left (suc i)) (T.right (suc i)) (T.parent (suc i)) (T.level (suc i)) ++ l)
      (rows_split (suc i) m k ∙ ap (λ j. rows_from T (suc i) m ++ rows_from T j k) (let e : suc i + m ≡ i + suc m = omega arith in e))

  -- The rows of a term that stand in a table are those of its nodes.
  row_made : {i k l r p v : ℕ} → Row T i k l r p v → row (T.kind i) (T.left i) (T.right i) (T.parent i) (T.level i) ≡ row k l r p v
  row_made h = λ z. row (h.kind_is z) (h.left_is z) (h.right_is z) (h.parent_is z) (h.level_is z)

  rows_made : (t : Term) (bs : List ℕ) (j p v : ℕ) → RowsIn T t bs (suc j) p v → rows_from T j (size t) ≡ rows_of t bs (suc j) p v
  unfolding rows_from rows_of
  rows_made (var x) bs j p v h = row_made h
  rows_made (lam b) bs j p v h = ap₂ (λ r l. r ++ l) (row_made h.0) (rows_made b (suc j ∷ bs) (suc j) (suc j) v h.1)
  rows_made (app f a) bs j p v h =
      let e : suc (suc j) + size f ≡ suc (suc j + size f) = suc-add (suc j) (size f) in
      ap₂ (λ r l. r ++ l) (row_made h.0)
      (rows_split (suc j) (size f) (size a)
      ∙ ap₂ (λ r l. r ++ l) (rows_made f bs (suc j) (suc j) v h.1)
      (rows_made a bs (suc j + size f) (suc j) (suc v) (subst (λ i. RowsIn T a bs i (suc j) (suc v)) e h.2) ∙ ap (λ i. rows_of a bs i (suc j) (suc v)) (sym e)))

module _ (w : List ℕ) (n : ℕ) where
  long_rows : 5 * n ≤ length w → by_rows w n ≡ rows_from (table_in w n) 0 n ++ drop (5 * n) w
  unfolding by_rows
  long_rows l = rw (le-leb (5 * n) (length w) l)

  short_rows : length w < 5 * n → by_rows w n ≡ w
  unfolding by_rows
  short_rows l = rw (lt-leb (5 * n) (length w) l)

  rows_long : 5 * n ≤ length w → length (by_rows w n) ≡ length w
  rows_long l = ap length (long_rows l) ∙ length-append (rows_from (table_in w n) 0 n) (drop (5 * n) w)
      ∙ omega (arith, rows_length (table_in w n) 0 n, length-drop (5 * n) w)

  word_by_rows : (i f : ℕ) → f < 5 → word_in columns w n i f ≡ word_in rows (by_rows w n) n i f
  word_by_rows zero f b = refl
  word_by_rows (suc i) f b = elim (dec_le (5 * n) (length w)) [
    | no l ↦
        let short : length w < 5 * n = omega arith in
        word_short columns w n (suc i) f short ∙ sym (word_short rows (by_rows w n) n (suc i) f (omega (arith, ap length (short_rows short))))
    | yes l ↦ elim (dec_le n i) [
      | yes h ↦ word_beyond columns w n (suc i) f (omega arith) ∙ sym (word_beyond rows (by_rows w n) n (suc i) f (omega arith))
      | no h ↦
          let T = table_in w n in
          sym (field_is w n f (suc i) b) ∙ ap (λ k. field_of f T (suc k)) (sym (zero-add i))
          ∙ sym (word_at rows (by_rows w n) n i f (omega (arith, rows_long l)) (omega arith)
          ∙ ap (λ u. get_or u (5 * i + f) 0) (long_rows l)
          ∙ get_or-append (rows_from T 0 n) (drop (5 * n) w) 0 (5 * i + f) (omega (arith, rows_length T 0 n))
          ∙ rows_word T 0 n i f (omega arith) b)
    ]
  ]

  pub same_table : table_in w n ≡ table_by rows (by_rows w n) n
  unfolding table_in
  same_table = λ k. record {
    nodes = n;
    kind = λ i. word_by_rows i 0 (omega arith) k;
    left = λ i. word_by_rows i 1 (omega arith) k;
    right = λ i. word_by_rows i 2 (omega arith) k;
    parent = λ i. word_by_rows i 3 (omega arith) k;
    level = λ i. word_by_rows i 4 (omega arith) k;
  }

  -- By columns a call sees what it sees.
  pub sight_by_columns : sight w n ≡ sight_by columns w n
  unfolding table_in accepted
  sight_by_columns = refl

pub same_length : SameLength
same_length w n = elim (dec_le (5 * n) (length w)) [
  | yes l ↦ rows_long w n l
  | no l ↦ ap length (short_rows w n (omega arith))
]

pub same_sight : SameSight
unfolding accepted
same_sight w n = λ k. record { fields = same_table w n k; passes = is_table (sym (same_length w n) k) n (same_table w n k) }

-- The rows of what lies in front of other words in columns are the term's rows, in front of the same words.
pub term_by_rows : (t : Term) (rest : List ℕ) → by_rows (table_of t ++ rest) (size t) ≡ words_of rows t ++ rest
term_by_rows t rest =
    let w = table_of t ++ rest in
    let l : 5 * size t ≤ length w = omega (arith, length-append (table_of t) rest, table_length t) in
    long_rows w (size t) l
    ∙ ap₂ (λ r u. r ++ u)
    (rows_made (table_in w (size t)) t [] 0 0 0 (table_stands w (size t) t (sym (take_at (table_of t) rest (5 * size t) (table_length t))) l))
    (drop_at (table_of t) rest (5 * size t) (table_length t))

-- Of a table alone they are the term's rows,
whole_by_rows : (t : Term) → by_rows (table_of t) (size t) ≡ words_of rows t
whole_by_rows t = ap (λ u. by_rows u (size t)) (sym (append-nil (table_of t))) ∙ term_by_rows t [] ∙ append-nil (words_of rows t)

words_length : (t : Term) → length (words_of rows t) ≡ 5 * size t
words_length t = ap length (sym (whole_by_rows t)) ∙ same_length (table_of t) (size t) ∙ table_length t

pub same_fields : SameFields
unfolding table_of
same_fields t f i b = word_by_rows (table_of t) (size t) i f b ∙ ap (λ u. word_in rows u (size t) i f) (whole_by_rows t)

-- and slices with the same rows have the same columns.
same_columns : (w u : List ℕ) (n : ℕ) → 5 * n ≤ length w → 5 * n ≤ length u → by_rows w n ≡ by_rows u n → take (5 * n) w ≡ take (5 * n) u
same_columns w u n l m e = ext_get_or 0 (take (5 * n) w) (take (5 * n) u) (length-take-le (5 * n) w l ∙ sym (length-take-le (5 * n) u m)) λ k b.
    let h : k < 5 * n = omega (arith, length-take-le (5 * n) w l) in
    let x = in_a_column 5 n k h in
    get_or-take (5 * n) w k 0 h ∙ ap (λ q. get_or w q 0) x.4 ∙ sym (word_at columns w n x.1 x.0 l x.3)
    ∙ word_by_rows w n (suc x.1) x.0 x.2 ∙ ap (λ v. word_in rows v n (suc x.1) x.0) e ∙ sym (word_by_rows u n (suc x.1) x.0 x.2)
    ∙ word_at columns u n x.1 x.0 m x.3 ∙ ap (λ q. get_or u q 0) (sym x.4) ∙ sym (get_or-take (5 * n) u k 0 h)

module _ (w : List ℕ) (n : ℕ) where
  -- a table in front of the words behind it, by rows
  rows_before : (t : Term) → size t ≡ n → by_rows (table_of t ++ drop (5 * n) w) n ≡ words_of rows t ++ drop (5 * n) w
  rows_before t e = ap (by_rows (table_of t ++ drop (5 * n) w)) (sym e) ∙ term_by_rows t (drop (5 * n) w)

  accepted_by_rows : Accepted w n → AcceptedByRows (by_rows w n) n
  accepted_by_rows A =
      let t = A.term in
      let e : size t ≡ n = table_size w n t A.same A.long in
      let whole : w ≡ table_of t ++ drop (5 * n) w = sym (take-append-drop (5 * n) w) ∙ ap (λ u. u ++ drop (5 * n) w) (sym A.same) in
      record {
        some_node = A.some_node;
        few_nodes = A.few_nodes;
        long = omega (arith, A.long, same_length w n);
        term = t;
        closed = A.closed;
        same = sym (ap (λ u. take (5 * n) (by_rows u n)) whole ∙ ap (take (5 * n)) (rows_before t e)
            ∙ take_at (words_of rows t) (drop (5 * n) w) (5 * n) (omega (arith, words_length t)));
      }

  by_rows_accepted : AcceptedByRows (by_rows w n) n → Accepted w n
  by_rows_accepted B =
      let t = B.term in
      let l : 5 * n ≤ length w = omega (arith, B.long, same_length w n) in
      let e : size t ≡ n = omega (arith, words_length t, ap length B.same, length-take-le (5 * n) (by_rows w n) B.long) in
      let behind : drop (5 * n) (by_rows w n) ≡ drop (5 * n) w = ap (drop (5 * n)) (long_rows w n l) ∙ drop_at (rows_from (table_in w n) 0 n) (drop (5 * n) w) (5 * n) (rows_length (table_in w n) 0 n) in
      let whole : by_rows (table_of t ++ drop (5 * n) w) n ≡ by_rows w n =
      rows_before t e ∙ ap₂ (λ r u. r ++ u) B.same (sym behind) ∙ take-append-drop (5 * n) (by_rows w n) in
      record {
        some_node = B.some_node;
        few_nodes = B.few_nodes;
        long = l;
        term = t;
        closed = B.closed;
        same = sym (take_at (table_of t) (drop (5 * n) w) (5 * n) (omega (arith, table_length t)))
            ∙ same_columns (table_of t ++ drop (5 * n) w) w n (omega (arith, length-append (table_of t) (drop (5 * n) w), table_length t)) l whole;
      }

pub same_accepted : SameAccepted
same_accepted w n = (accepted_by_rows w n, by_rows_accepted w n)
