-- What the reader lays out is an accepted table, with at most a node for each byte of the text.
use mathlib.Core.Path.{◌≡◌, refl, sym, ap, ◌∙◌, subst⁻¹}
use mathlib.Core.List.{List, [], ◌++◌}
use Prim.Native.Nat.{ℕ, ◌*◌, ◌≤◌}
use native.Mathlib.Omega.{arith}
use lib.ListN.{length, take, drop, length-append}
use lib.Seq.{take_at}
use Rattle.term.specs.Term.{Term, size, Closed}
use Rattle.term.specs.Table.{table_of}
use Rattle.term.specs.Accepted.{most_nodes, Accepted}
use Rattle.term.proofs.Rows.{size_positive}
use Rattle.term.proofs.Columns.{table_length}
use Rattle.term.proofs.Accepted.{table_closed}
use Rattle.text.specs.Exactly.{Means, NamesMean, Accepts}
use Rattle.text.proofs.Size.{nodes, few_nodes, size_nodes}
use Rattle.text.proofs.Exactly.{nameless_meant, meant_closed}

pub table_first : (t : Term) (rest words : List ℕ) → words ≡ table_of t ++ rest → take (5 * size t) words ≡ table_of t
table_first t rest words e = ap (take (5 * size t)) e ∙ take_at (table_of t) rest (5 * size t) (table_length t)

pub table_long : (t : Term) (rest words : List ℕ) → words ≡ table_of t ++ rest → 5 * size t ≤ length words
table_long t rest words e = omega (arith, ap length e, length-append (table_of t) rest, table_length t)

pub means_few : (text : List ℕ) (t : Term) → Means text t → size t ≤ length text
means_few text t m =
    omega (
      arith,
      size_nodes m.tree [] t (nameless_meant text t m),
      ap nodes m.derives.tree_is,
      few_nodes text m.derives.phrase m.derives.spells,
    )

-- The table of a closed term, before any words, is accepted.
abbrev pub laid_accepted : (t : Term) → Closed t → size t ≤ most_nodes → (rest : List ℕ) → Accepted (table_of t ++ rest) (size t)
laid_accepted t c few rest = record {
  some_node = size_positive t;
  few_nodes = few;
  long = table_long t rest (table_of t ++ rest) refl;
  term = t;
  closed = c;
  same = sym (table_first t rest (table_of t ++ rest) refl);
}

pub text_accepted : (text table : List ℕ) (n : ℕ) (words : List ℕ) → Accepts (NamesMean text) table n words → Accepted words n × (n ≤ length text)
text_accepted text table n words a =
    let t = a.term in
    let rest = drop (5 * n) table in
    let few : size t ≤ length text = means_few text t a.means.1 in
    let long = table_long t rest words a.words_are in
    let laid = table_first t rest words a.words_are in
    let accepted = table_closed t (meant_closed text t a.means.1) (omega (arith, a.means.0.few_bytes)) words long laid in
    (subst⁻¹ (Accepted words) a.n_is accepted, omega arith)
