-- A table in a slice: where a node's word lies, what stands at a node that is not there, and which words are read.
use mathlib.Core.Path.{◌≡◌, refl, sym, ap, ◌∙◌}
use mathlib.Core.List.{List}
use Prim.Native.Nat.{ℕ, zero, suc, ◌+◌, ◌-◌, ◌*◌, ◌≤◌, ◌<◌}
use native.Mathlib.Nat.{suc-mul, mul-le-mul_right}
use native.Mathlib.Omega.{arith}
use native.Mathlib.Decide.{dec_le}
use lib.ListN.{length, get_or, take, length-take}
use lib.Seq.{get_or-take, length-take-le}
use borrow.Author.Tests.{le-leb, lt-leb, lt-ltb, le-ltb}
use Rattle.term.specs.Table.{Layout, columns, index_in, Table, word_in, table_in, kind_of, nothing, kind_at}
use Rattle.term.specs.Rows.{Row}
use Rattle.term.specs.Accepted.{Accepted}

-- A word of a table of n nodes in columns is one of its 5 × n.
pub in_columns : (f i n : ℕ) → f < 5 → i < n → f * n + i < 5 * n
in_columns f i n b h = omega (arith, suc-mul f n, mul-le-mul_right {m = suc f} {n = 5} n b)

-- Where there is no word, and where one is.
module _ (L : Layout) (w : List ℕ) (n : ℕ) where
  pub word_short : (i f : ℕ) → length w < 5 * n → word_in L w n i f ≡ 0
  word_short zero f l = refl
  word_short (suc i) f l = rw (lt-leb (5 * n) (length w) l)

  pub word_beyond : (i f : ℕ) → n < i → word_in L w n i f ≡ 0
  word_beyond zero f h = refl
  word_beyond (suc i) f h = elim (dec_le (5 * n) (length w)) [
    | yes l ↦ rw (le-leb (5 * n) (length w) l, le-ltb i n (omega arith))
    | no l ↦ word_short (suc i) f (omega arith)
  ]

  pub word_at : (i f : ℕ) → 5 * n ≤ length w → i < n → word_in L w n (suc i) f ≡ get_or w (index_in L n i f) 0
  word_at i f l h = rw (le-leb (5 * n) (length w) l, lt-ltb i n h)

pub word_there : (w : List ℕ) (n i f : ℕ) → (i ≡ 0 → ⊥) → i ≤ n → 5 * n ≤ length w → get_or w (f * n + (i - 1)) 0 ≡ word_in columns w n i f
word_there w n zero f h b l = absurd (h refl)
word_there w n (suc i) f h b l = ap (λ k. get_or w (f * n + k) 0) (let e : suc i - 1 ≡ i = omega arith in e) ∙ sym (word_at columns w n i f l (omega arith))

-- Field f of a table.
abbrev pub field_of : ℕ → Table → ℕ → ℕ
field_of zero T i = T.kind i
field_of (suc zero) T i = T.left i
field_of (suc (suc zero)) T i = T.right i
field_of (suc (suc (suc zero))) T i = T.parent i
field_of (suc (suc (suc (suc zero)))) T i = T.level i
field_of (suc (suc (suc (suc (suc f))))) T i = 0

pub field_is : (w : List ℕ) (n f i : ℕ) → f < 5 → field_of f (table_in w n) i ≡ word_in columns w n i f
unfolding table_in
field_is w n zero i b = refl
field_is w n (suc zero) i b = refl
field_is w n (suc (suc zero)) i b = refl
field_is w n (suc (suc (suc zero))) i b = refl
field_is w n (suc (suc (suc (suc zero)))) i b = refl
field_is w n (suc (suc (suc (suc (suc f))))) i b = absurd (omega arith)

-- A table has the n nodes that it is read with.
pub nodes_are : (w : List ℕ) (n : ℕ) → (table_in w n).nodes ≡ n
unfolding table_in
nodes_are w n = refl

-- Above the last node each field is 0.
pub row_beyond : (w : List ℕ) (n i : ℕ) → n < i → Row (table_in w n) i 0 0 0 0 0
unfolding table_in
row_beyond w n i h = record {
  kind_is = word_beyond columns w n i 0 h;
  left_is = word_beyond columns w n i 1 h;
  right_is = word_beyond columns w n i 2 h;
  parent_is = word_beyond columns w n i 3 h;
  level_is = word_beyond columns w n i 4 h;
}

-- Node 0 is not there either.
pub row_before : (w : List ℕ) (n : ℕ) → Row (table_in w n) 0 0 0 0 0 0
unfolding table_in
row_before w n = record { kind_is = refl; left_is = refl; right_is = refl; parent_is = refl; level_is = refl }

-- A word that is none of the three kinds.
pub no_kind : (k : ℕ) → (k ≡ 1 → ⊥) → (k ≡ 2 → ⊥) → (k ≡ 3 → ⊥) → kind_of k ≡ nothing
unfolding kind_of
no_kind zero a b c = refl
no_kind (suc zero) a b c = absurd (a refl)
no_kind (suc (suc zero)) a b c = absurd (b refl)
no_kind (suc (suc (suc zero))) a b c = absurd (c refl)
no_kind (suc (suc (suc (suc k)))) a b c = refl

pub kind_beyond : (w : List ℕ) (n i : ℕ) → n < i → kind_at (table_in w n) i ≡ nothing
unfolding kind_of
kind_beyond w n i h = ap kind_of (row_beyond w n i h).kind_is

pub kind_before : (w : List ℕ) (n : ℕ) → kind_at (table_in w n) 0 ≡ nothing
unfolding kind_of
kind_before w n = ap kind_of (row_before w n).kind_is

-- Words after the first 5 × n are ignored.
same_length : (w u : List ℕ) (n : ℕ) → take (5 * n) w ≡ take (5 * n) u → 5 * n ≤ length w → 5 * n ≤ length u
same_length w u n e l = omega (arith, length-take-le (5 * n) w l, simp length-take at (ap length e))

word_ignores : (w u : List ℕ) (n i f : ℕ) → f < 5 → take (5 * n) w ≡ take (5 * n) u → word_in columns w n i f ≡ word_in columns u n i f
word_ignores w u n zero f b e = refl
word_ignores w u n (suc i) f b e = elim (dec_le (5 * n) (length w)) [
  | no l ↦
      let short : length w < 5 * n = omega arith in
      let shorter : length u < 5 * n = elim (dec_le (5 * n) (length u)) [ yes m ↦ absurd (l (same_length u w n (sym e) m)) | no m ↦ omega arith ] in
      word_short columns w n (suc i) f short ∙ sym (word_short columns u n (suc i) f shorter)
  | yes l ↦ elim (dec_le n i) [
    | yes h ↦ word_beyond columns w n (suc i) f (omega arith) ∙ sym (word_beyond columns u n (suc i) f (omega arith))
    | no h ↦
        let m : i < n = omega arith in
        word_at columns w n i f l m ∙ sym (get_or-take (5 * n) w (f * n + i) 0 (in_columns f i n b m)) ∙ ap (λ v. get_or v (f * n + i) 0) e
        ∙ get_or-take (5 * n) u (f * n + i) 0 (in_columns f i n b m) ∙ sym (word_at columns u n i f (same_length w u n e l) m)
  ]
]

pub ignored : (w u : List ℕ) (n : ℕ) → take (5 * n) w ≡ take (5 * n) u → table_in w n ≡ table_in u n
unfolding table_in
ignored w u n e = λ k. record {
  nodes = n;
  kind = λ i. word_ignores w u n i 0 (omega arith) e k;
  left = λ i. word_ignores w u n i 1 (omega arith) e k;
  right = λ i. word_ignores w u n i 2 (omega arith) e k;
  parent = λ i. word_ignores w u n i 3 (omega arith) e k;
  level = λ i. word_ignores w u n i 4 (omega arith) e k;
}

pub accepted_ignores : (w u : List ℕ) (n : ℕ) → take (5 * n) w ≡ take (5 * n) u → Accepted w n → Accepted u n
accepted_ignores w u n e A = record {
  some_node = A.some_node;
  few_nodes = A.few_nodes;
  long = same_length w u n e A.long;
  term = A.term;
  closed = A.closed;
  same = A.same ∙ e;
}
