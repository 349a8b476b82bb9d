-- What is written, in either dialect, is read back as the same table; and two tables with the same text are the same.
use mathlib.Core.Path.{◌≡◌, refl, sym, ap, ◌∙◌, subst⁻¹}
use mathlib.Core.List.{List, ◌++◌}
use Prim.Native.Nat.{ℕ, ◌*◌, ◌≤◌}
use native.Mathlib.Omega.{arith}
use lib.ListN.{length, take, drop}
use lib.Seq.{take_at}
use borrow.Author.Tests.{le-ltb}
use Rattle.term.specs.Term.{Term, size, Closed}
use Rattle.term.specs.Table.{table_of}
use Rattle.term.specs.Accepted.{most_nodes}
use Rattle.term.proofs.Accepted.{term_size}
use Rattle.text.specs.Reading.{most_bytes}
use Rattle.text.specs.Exactly.{Means}
use Rattle.text.specs.Written.{text_of}
use Rattle.text.specs.Writing.{Write, written_out, written}
use Rattle.text.specs.Dialects.{Dialect, read_in, text_in, write_in}
use Rattle.text.specs.ReadBack.{ReadBack, OneTable}
use Rattle.text.proofs.Exactly.{one_meaning}
use Rattle.text.proofs.Names.{text_means}
use Rattle.text.proofs.Writing.{Finds, no_table, no_room, fitting, finds}
use Rattle.text.proofs.Dialects.{write_in_lem, laid, text_meant, reads_meant}

-- the bytes of a text that was written
pub written_out_lem : (s out : List ℕ) → written (written_out s out) ≡ s
written_out_lem s out = take_at s (drop (length s) out) (length s) refl

-- The text of a closed term is read as the term is laid out.
pub read_text : (d : Dialect) (t : Term) → Closed t → size t ≤ most_nodes → length (text_in d t) ≤ most_bytes → (table : List ℕ) → read_in d (text_in d t) table ≡ laid t table
read_text d t c few short table = reads_meant d (text_in d t) t (text_meant d t c few short) table

pub read_back : ReadBack
read_back d w n text table z room = by_found (write_in d w n text) (subst⁻¹ (Finds (text_in d) w n text) (write_in_lem d w n text) (finds (text_in d) w n text)) z
  where
    by_found : (r : Write) → Finds (text_in d) w n text r → r.refusal ≡ 0
        → read_in d (written r) table ≡ record { n = n; refusal = 0; table = take (5 * n) w ++ drop (5 * n) table }
    by_found r (no_table h) e = absurd (omega arith)
    by_found r (no_room A h) e = absurd (omega arith)
    by_found r (fitting A h) e =
        let size_is = term_size w n A in
        ap (λ s. read_in d s table) (written_out_lem (text_in d A.term) text)
        ∙ read_text d A.term A.closed (omega (arith, A.few_nodes)) h.0 table
        ∙ rw (le-ltb (length table) (5 * size A.term) (omega arith), size_is, A.same)

pub one_table : OneTable
one_table w n u m A B e =
    let same : A.term ≡ B.term =
    one_meaning (text_of A.term) A.term B.term (text_means A.term A.closed) (subst⁻¹ (λ s. Means s B.term) e (text_means B.term B.closed)) in (
      sym (term_size w n A) ∙ ap size same ∙ term_size u m B,
      sym A.same ∙ ap table_of same ∙ B.same,
    )
