-- A conversion answers what specs/Converting.antt says in words.
use mathlib.Core.Path.{◌≡◌, refl, sym, ap, ◌∙◌, subst, subst⁻¹}
use mathlib.Core.Logic.{◌↔◌}
use mathlib.Core.Bool.{Bool, true, false, cond}
use mathlib.Core.List.{List, [], ◌∷◌, ◌++◌}
use Prim.Native.Nat.{ℕ, ◌*◌, ◌≤◌}
use native.Mathlib.Omega.{arith}
use lib.ListN.{length, drop, length-replicate}
use lib.Dec.{ltb}
use borrow.Author.Tests.{ne_eqb, le-ltb}
use Rattle.term.specs.Choice.{◌⇒◌, first}
use Rattle.term.specs.Term.{Term, size, Closed}
use Rattle.term.specs.Table.{table_of}
use Rattle.term.specs.Accepted.{most_nodes}
use Rattle.text.specs.Reading.{Read, laid_out}
use Rattle.text.specs.Writing.{Write, unfit, refused, written_out, answer}
use Rattle.text.specs.WritingExactly.{Fits}
use Rattle.text.specs.Dialects.{Dialect, read_in, MeantIn, text_in, write_in, own_table, read_then_written, convert_of}
use Rattle.text.specs.Converting.{Converts, ConvertedExactly, SourceFirst, LastEleven, NoTableNumber, RefusedUnconverted}
use Rattle.text.proofs.Accepted.{laid_accepted}
use Rattle.text.proofs.Writing.{TooLong, too_long, fitted, not_both, by_text}
use Rattle.text.proofs.Dialects.{write_in_lem, laid, OfText, Sees, refuses, means, sees, one_meant, closed_meant, few_meant, reads_meant}

-- what is written of a term's text, by its length alone
abbrev pub by_length : List ℕ → List ℕ → Write
by_length s out = answer (first ((unfit s out ⇒ 11) ∷ [])) s out

-- The table that was laid out for a term is written as its text.
pub laid_written : (e : Dialect) (t : Term) → Closed t → size t ≤ most_nodes → (table out : List ℕ)
    → write_in e (laid_out t table).table (laid_out t table).n out ≡ by_length (text_in e t) out
laid_written e t c few table out =
    write_in_lem e (table_of t ++ drop (5 * size t) table) (size t) out
    ∙ by_text (text_in e) (table_of t ++ drop (5 * size t) table) (size t) out (laid_accepted t c few (drop (5 * size t) table))

-- Every text's table has room in the conversion's own.
own_length : length own_table ≡ 5 * most_nodes
unfolding own_table
own_length = length-replicate {A = ℕ} (5 * most_nodes) 0

own_room : (t : Term) → size t ≤ most_nodes → laid t own_table ≡ laid_out t own_table
own_room t few = rw (le-ltb (length own_table) (5 * size t) (omega (arith, own_length)))

module _ (d e : Dialect) (text out : List ℕ) where
  pub converts_meant : (t : Term) → MeantIn d text t → convert_of d e text out ≡ by_length (text_in e t) out
  unfolding convert_of
  converts_meant t m =
      let few = few_meant d text t m in
      ap (λ r. read_then_written e r out) (reads_meant d text t m own_table ∙ own_room t few)
      ∙ laid_written e t (closed_meant d text t m) few own_table out

  converts_refused : (k : ℕ) → (k ≡ 0 → ⊥) → ((table : List ℕ) → read_in d text table ≡ record { n = 0; refusal = k; table = table }) → convert_of d e text out ≡ refused k out
  unfolding convert_of
  converts_refused k h reads = ap (λ r. read_then_written e r out) (reads own_table) ∙ rw (ne_eqb k 0 h)

  -- what a conversion finds, in the order of the tests, and what it then answers
  pub data Finds : Write → Type 0 where
    no_term : (k : ℕ) → OfText k → ((t : Term) → MeantIn d text t → ⊥) → Finds (refused k out)
    no_room : (t : Term) → MeantIn d text t → TooLong (text_in e t) out → Finds (refused 11 out)
    fitting : (t : Term) → MeantIn d text t → Fits (text_in e t) out → Finds (written_out (text_in e t) out)

  by_room : (t : Term) → MeantIn d text t → (b : Bool) → unfit (text_in e t) out ≡ b → Finds (convert_of d e text out)
  by_room t m true u = subst⁻¹ Finds (converts_meant t m ∙ rw u) (no_room t m (too_long (text_in e t) out u))
  by_room t m false u = subst⁻¹ Finds (converts_meant t m ∙ rw u) (fitting t m (fitted (text_in e t) out u))

  by_sight : Sees d text → Finds (convert_of d e text out)
  by_sight (refuses k o none reads) = subst⁻¹ Finds (converts_refused k o.some reads) (no_term k o none)
  by_sight (means t m) = by_room t m _ refl

  pub finds : Finds (convert_of d e text out)
  finds = by_sight (sees d text)

  eleven : (r : Write) → Finds r → (r.refusal ≡ 11) ↔ ((t : Term) × MeantIn d text t × TooLong (text_in e t) out)
  eleven r (no_term k o none) = (λ z. absurd (o.not_eleven z), λ i. absurd (none i.0 i.1))
  eleven r (no_room t m h) = (λ z. (t, m, h), λ i. refl)
  eleven r (fitting t m h) = (λ z. absurd (omega arith), λ i. absurd (not_both (text_in e t) out (subst (λ u. TooLong (text_in e u) out) (one_meant d text i.0 t i.1 m) i.2) h))

  no_table : (r : Write) → Finds r → (r.refusal ≡ 6 → ⊥) × (r.refusal ≡ 7 → ⊥)
  no_table r (no_term k o none) = (o.not_six, o.not_seven)
  no_table r (no_room t m h) = (λ z. omega arith, λ z. omega arith)
  no_table r (fitting t m h) = (λ z. omega arith, λ z. omega arith)

  unconverted : (r : Write) → Finds r → (r.refusal ≡ 0 → ⊥) → (r.len ≡ 0) × (r.text ≡ out)
  unconverted r (no_term k o none) i = (refl, refl)
  unconverted r (no_room t m h) i = (refl, refl)
  unconverted r (fitting t m h) i = absurd (i refl)

  same_refusal : {r s : Write} → r ≡ s → r.refusal ≡ s.refusal
  same_refusal z = ap (λ (a : Write). a.refusal) z

  converts : (r : Write) (len : ℕ) (bytes : List ℕ) → Finds r → (r ≡ record { len = len; refusal = 0; text = bytes }) ↔ Converts d e text out len bytes
  converts r len bytes (no_term k o none) = (λ z. absurd (o.some (same_refusal z)), λ i. absurd (none i.term i.meant))
  converts r len bytes (no_room t m h) = (
    λ z. absurd (omega (arith, same_refusal z)),
    λ i. absurd (not_both (text_in e t) out h (subst (λ u. Fits (text_in e u) out) (one_meant d text i.term t i.meant m) i.fits)),
  )
  converts r len bytes (fitting t m h) = (
    λ z.
        let len_is : len ≡ length (text_in e t) = sym (ap (λ (a : Write). a.len) z) in
        record { term = t; meant = m; fits = h; len_is = len_is; bytes_are = sym (ap (λ (a : Write). a.text) z) ∙ rw len_is },
    λ i. rw (i.bytes_are, i.len_is, one_meant d text i.term t i.meant m),
  )

pub last_eleven : LastEleven
last_eleven d e text out = eleven d e text out (convert_of d e text out) (finds d e text out)

pub no_table_number : NoTableNumber
no_table_number d e text out = no_table d e text out (convert_of d e text out) (finds d e text out)

pub refused_unconverted : RefusedUnconverted
refused_unconverted d e text out = unconverted d e text out (convert_of d e text out) (finds d e text out)

pub converted_exactly : ConvertedExactly
converted_exactly d e text out len bytes = converts d e text out (convert_of d e text out) len bytes (finds d e text out)

pub source_first : SourceFirst
source_first d e text out table k z some not_six = by_sight (sees d text)
  where
    by_sight : Sees d text → convert_of d e text out ≡ refused k out
    by_sight (refuses j o none reads) =
        let same : j ≡ k = sym (ap (λ (r : Read). r.refusal) (reads table)) ∙ z in
        converts_refused d e text out j o.some reads ∙ ap (λ i. refused i out) same
    by_sight (means t m) = by_laid (ltb (length table) (5 * size t)) (ap (λ (r : Read). r.refusal) (sym (reads_meant d text t m table)) ∙ z)
      where
        by_laid : (b : Bool) → (cond b (record { n = 0; refusal = 6; table = table }) (laid_out t table)).refusal ≡ k → convert_of d e text out ≡ refused k out
        by_laid true q = absurd (not_six (sym q))
        by_laid false q = absurd (some (sym q))
