-- Both dialects are read alike, what was read is written, and a text that was converted reads as its original.
use mathlib.Core.Path.{◌≡◌, refl, sym, ap, ◌∙◌, subst⁻¹}
use mathlib.Core.Bool.{Bool, true, false, cond}
use mathlib.Core.List.{List}
use Prim.Native.Nat.{ℕ, ◌*◌}
use native.Mathlib.Omega.{arith}
use lib.ListN.{length, drop}
use lib.Dec.{ltb}
use borrow.Author.Tests.{le-ltb}
use Rattle.term.specs.Term.{Term, size}
use Rattle.term.specs.Accepted.{Accepted}
use Rattle.text.specs.Reading.{Read, most_bytes, refused, laid_out}
use Rattle.text.specs.Writing.{Write, written}
use Rattle.text.specs.Dialects.{Dialect, numbers, read_in, MeantIn, text_in, write_in, convert_of}
use Rattle.text.specs.ThereAndBack.{SameTable, ReadAccepted, NumbersWriteBack, ConvertedReads, ThereAndBack}
use Rattle.text.proofs.Accepted.{laid_accepted}
use Rattle.text.proofs.NumberGrammar.{phrase_exactly}
use Rattle.text.proofs.Dialects.{one_meant, closed_meant, few_meant, text_meant, reads_meant, Sees, refuses, means, sees}
use Rattle.text.proofs.ReadBack.{written_out_lem, read_text}
use Rattle.text.proofs.Converting.{by_length, laid_written, converts_meant, Finds, no_term, no_room, fitting, finds}

-- What was not refused is the table of what the text means.
module _ (d : Dialect) (text table : List ℕ) where
  abbrev WasRead : Type 0
  WasRead = (t : Term) × MeantIn d text t × (read_in d text table ≡ laid_out t table)

  by_sight : Sees d text → (read_in d text table).refusal ≡ 0 → WasRead
  by_sight (refuses k o none reads) z = absurd (o.some (sym (ap (λ (r : Read). r.refusal) (reads table)) ∙ z))
  by_sight (means t m) z =
      let e = reads_meant d text t m table in
      (t, m, e ∙ by_room (ltb (length table) (5 * size t)) (sym (ap (λ (r : Read). r.refusal) e) ∙ z))
    where
      by_room : (b : Bool) → (cond b (refused 6 table) (laid_out t table)).refusal ≡ 0 → cond b (refused 6 table) (laid_out t table) ≡ laid_out t table
      by_room true q = absurd (omega (arith, q))
      by_room false q = refl

  was_read : (read_in d text table).refusal ≡ 0 → WasRead
  was_read z = by_sight (sees d text) z

pub same_table : SameTable
same_table d e text other t table m k = reads_meant d text t m table ∙ sym (reads_meant e other t k table)

pub read_accepted : ReadAccepted
read_accepted d text table z =
    let q = was_read d text table z in
    let t = q.0 in
    subst⁻¹ (λ (r : Read). Accepted r.table r.n) q.2 (laid_accepted t (closed_meant d text t q.1) (few_meant d text t q.1) (drop (5 * size t) table))

pub numbers_write_back : NumbersWriteBack
numbers_write_back text table out z room =
    let q = was_read numbers text table z in
    let t = q.0 in
    let m = q.1 in
    let same : text_in numbers t ≡ text = sym ((phrase_exactly text t).0 m.phrase) in
    ap (λ (r : Read). write_in numbers r.table r.n out) q.2
    ∙ laid_written numbers t m.closed (few_meant numbers text t m) table out
    ∙ ap (λ s. by_length s out) same
    ∙ rw (le-ltb most_bytes (length text) m.few_bytes, le-ltb (length out) (length text) room)

pub converted_reads : ConvertedReads
converted_reads d e text out table z = by_found (convert_of d e text out) (finds d e text out) z
  where
    by_found : (r : Write) → Finds d e text out r → r.refusal ≡ 0 → read_in e (written r) table ≡ read_in d text table
    by_found r (no_term k o none) q = absurd (o.some q)
    by_found r (no_room t m h) q = absurd (omega arith)
    by_found r (fitting t m h) q =
        ap (λ s. read_in e s table) (written_out_lem (text_in e t) out)
        ∙ read_text e t (closed_meant d text t m) (few_meant d text t m) h.0 table
        ∙ sym (reads_meant d text t m table)

pub there_and_back : ThereAndBack
there_and_back d e text out back table z y = by_found (convert_of d e text out) (finds d e text out) z
  where
    by_found : (r : Write) → Finds d e text out r → r.refusal ≡ 0
        → convert_of e d (written r) back ≡ write_in d (read_in d text table).table (read_in d text table).n back
    by_found r (no_term k o none) q = absurd (o.some q)
    by_found r (no_room t m h) q = absurd (omega arith)
    by_found r (fitting t m h) q =
        let w = was_read d text table y in
        ap (λ s. convert_of e d s back) (written_out_lem (text_in e t) out)
        ∙ converts_meant e d (text_in e t) back t (text_meant e t (closed_meant d text t m) (few_meant d text t m) h.0)
        ∙ ap (λ u. by_length (text_in d u) back) (one_meant d text t w.0 m w.1)
        ∙ sym (ap (λ (r : Read). write_in d r.table r.n back) w.2 ∙ laid_written d w.0 (closed_meant d text w.0 w.1) (few_meant d text w.0 w.1) table back)
