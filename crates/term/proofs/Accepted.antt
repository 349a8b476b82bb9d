-- The test of number 7 passes the accepted tables and no others: it reads back the one term that has the table.
use mathlib.Core.Path.{◌≡◌, refl, sym, ap, ◌∙◌}
use mathlib.Core.Bool.{true, false, ◌&&◌, false≢true}
use mathlib.Core.Option.{Option, none, some, some-injective}
use mathlib.Core.List.{List, []}
use Prim.Native.Nat.{ℕ, suc, ◌*◌, ◌≤◌}
use native.Mathlib.Omega.{arith}
use lib.ListN.{length, take}
use lib.Dec.{leb}
use borrow.Author.Tests.{eq-eqb, le-leb, eqb-true, leb-true}
use Rattle.term.specs.Term.{Term, size, Closed}
use Rattle.term.specs.Table.{table_of, table_in}
use Rattle.term.specs.Rows.{RowsIn}
use Rattle.term.specs.Tree.{LentTree}
use Rattle.term.specs.Accepted.{most_nodes, Accepted, Part, part, part_at, is_whole, accepted}
use Rattle.term.proofs.Choice.{both, each, fails}
use Rattle.term.proofs.Rows.{size_positive}
use Rattle.term.proofs.Columns.{table_size, table_stands, table_is}
use Rattle.term.proofs.Reading.{reads, PartRead, reads_only}

module _ (w : List ℕ) (n : ℕ) where
  pub term_size : (A : Accepted w n) → size A.term ≡ n
  term_size A = table_size w n A.term A.same A.long

  pub accepted_rows : (A : Accepted w n) → RowsIn (table_in w n) A.term [] 1 0 0
  accepted_rows A = table_stands w n A.term A.same A.long

  pub read_whole : (A : Accepted w n) → part_at n (table_in w n) [] 1 0 0 ≡ some (part A.term (suc n))
  read_whole A =
      let e : size A.term ≡ n = term_size A in
      reads (table_in w n) n A.term [] 1 0 0 (accepted_rows A) A.closed tt (omega arith)
      ∙ ap (λ j. some (part A.term j)) (omega arith)

  pub accepts_all : Accepted w n → accepted w n ≡ true
  unfolding accepted
  accepts_all A = both _ _ (both _ _ (both _ _ (le-leb 1 n A.some_node) (le-leb n most_nodes A.few_nodes)) (le-leb (5 * n) (length w) A.long))
      (ap (is_whole n) (read_whole A) ∙ eq-eqb (suc n) (suc n) refl)

  whole_read : (o : Option Part) → is_whole n o ≡ true → (q : Part) × (o ≡ some q) × (q.next ≡ suc n)
  whole_read none e = absurd (false≢true e)
  whole_read (some q) e = (q, refl, eqb-true q.next (suc n) e)

  pub accepts_only : accepted w n ≡ true → Accepted w n
  unfolding accepted
  accepts_only e =
      let a = each (leb 1 n && leb n most_nodes && leb (5 * n) (length w)) (is_whole n (part_at n (table_in w n) [] 1 0 0)) e in
      let b = each (leb 1 n && leb n most_nodes) (leb (5 * n) (length w)) a.0 in
      let c = each (leb 1 n) (leb n most_nodes) b.0 in
      let q = whole_read (part_at n (table_in w n) [] 1 0 0) a.1 in
      let r : PartRead (table_in w n) [] 1 0 0 q.0 = reads_only (table_in w n) n [] 1 0 0 q.0 q.1 in
      let l : 5 * n ≤ length w = leb-true (5 * n) (length w) b.1 in
      record {
        some_node = leb-true 1 n c.0;
        few_nodes = leb-true n most_nodes c.1;
        long = l;
        term = q.0.term;
        closed = r.closed;
        same = table_is w n q.0.term r.holds (let z : q.0.next ≡ suc n = q.2 in omega arith) l;
      }

  pub refuses : (Accepted w n → ⊥) → accepted w n ≡ false
  refuses h = fails (accepted w n) (λ e. h (accepts_only e))

  -- A table has one closed term.
  pub one_term : (A B : Accepted w n) → A.term ≡ B.term
  one_term A B = ap (λ q. q.term) (some-injective _ _ (sym (read_whole A) ∙ read_whole B))

pub table_closed : (t : Term) → Closed t → size t ≤ most_nodes → (w : List ℕ) → 5 * size t ≤ length w → take (5 * size t) w ≡ table_of t → Accepted w (size t)
table_closed t c m w l e = record { some_node = size_positive t; few_nodes = m; long = l; term = t; closed = c; same = sym e }

-- the same of a tree, in words
pub tree_accepted : (t : LentTree) → Accepted t.words t.n
tree_accepted t = accepts_only t.words t.n t.is_accepted
