-- The laws of the two dialects that conversions rest on: what a reader finds in a text, whatever the table, and that a term's text means the term.
use mathlib.Core.Path.{◌≡◌, refl, sym, ap, ◌∙◌}
use mathlib.Core.Logic.{◌⊎◌, inl, inr}
use mathlib.Core.Bool.{Bool, true, false, cond}
use mathlib.Core.List.{List, [], ◌++◌}
use Prim.Native.Nat.{ℕ, ◌*◌, ◌≤◌}
use native.Mathlib.Omega.{arith}
use lib.ListN.{length, drop}
use lib.Dec.{ltb}
use borrow.Author.Tests.{ltb-true, ltb-false}
use Rattle.term.specs.Term.{Term, size, Closed}
use Rattle.term.specs.Table.{table_of}
use Rattle.term.specs.Accepted.{most_nodes}
use Rattle.text.specs.Reading.{Read, most_bytes, refused, laid_out, read_of}
use Rattle.text.specs.Exactly.{AcceptedBy, SixBy, RefusedBy}
use Rattle.text.specs.Writing.{writing}
use Rattle.text.specs.NumberReading.{read_numbers_of}
use Rattle.text.specs.Dialects.{Dialect, names, numbers, read_in, MeantIn, text_in, write_in}
use Rattle.text.proofs.Exactly as ByNames
use Rattle.text.proofs.Exactly.{one_meaning, meant_closed, refused_reading_unchanged, accepted_exactly, one_exactly, two_exactly, three_exactly, four_exactly, five_exactly, six_exactly}
use Rattle.text.proofs.Accepted.{means_few}
use Rattle.text.proofs.Names.{text_means}
use Rattle.text.proofs.WellSpelled.{text_spelled}
use Rattle.text.proofs.NumberGrammar.{phrase_exactly, text_phrase, text_long}
use Rattle.text.proofs.NumberParse.{one_phrase}
use Rattle.text.proofs.NumbersRead as ByNumbers
use Rattle.text.proofs.NumbersRead.{numbers_one_exactly, thirteen_exactly, fourteen_exactly, numbers_six_exactly, numbers_refused_unchanged, numbers_accepted_exactly}

-- A table is written by the text of its term.
pub write_in_lem : (d : Dialect) (w : List ℕ) (n : ℕ) (text : List ℕ) → write_in d w n text ≡ writing (text_in d) w n text
write_in_lem names w n text = refl
write_in_lem numbers w n text = refl

-- A text means one term, which is closed and small.
pub one_meant : (d : Dialect) (text : List ℕ) (t u : Term) → MeantIn d text t → MeantIn d text u → t ≡ u
one_meant names text t u m l = one_meaning text t u m.1 l.1
one_meant numbers text t u m l = one_phrase text t u m.phrase l.phrase

pub closed_meant : (d : Dialect) (text : List ℕ) (t : Term) → MeantIn d text t → Closed t
closed_meant names text t m = meant_closed text t m.1
closed_meant numbers text t m = m.closed

pub few_meant : (d : Dialect) (text : List ℕ) (t : Term) → MeantIn d text t → size t ≤ most_nodes
few_meant names text t m = omega (arith, means_few text t m.1, m.0.few_bytes)
few_meant numbers text t m = omega (arith, text_long t, ap length ((phrase_exactly text t).0 m.phrase), m.few_bytes)

-- The text of a closed term means the term.
pub text_meant : (d : Dialect) (t : Term) → Closed t → size t ≤ most_nodes → length (text_in d t) ≤ most_bytes → MeantIn d (text_in d t) t
text_meant names t c few short = (text_spelled t c few short, text_means t c)
text_meant numbers t c few short = record { few_bytes = short; phrase = text_phrase t; closed = c }

-- What is answered to a text that means a term: by the table's room alone.
abbrev pub laid : Term → List ℕ → Read
laid t table = cond (ltb (length table) (5 * size t)) (refused 6 table) (laid_out t table)

-- A refusal is whole by its number.
by_refusal : {k : ℕ} {table : List ℕ} (r : Read) → r.refusal ≡ k → (r.n ≡ 0) × (r.table ≡ table) → r ≡ refused k table
by_refusal r e u = λ i. record { n = u.0 i; refusal = e i; table = u.1 i }

-- What is said of both readers, of either.
refused_by : (d : Dialect) → RefusedBy (read_in d)
refused_by names = refused_reading_unchanged
refused_by numbers = numbers_refused_unchanged

six_by : (d : Dialect) → SixBy (read_in d) (MeantIn d)
six_by names = six_exactly
six_by numbers = numbers_six_exactly

accepted_by : (d : Dialect) → AcceptedBy (read_in d) (MeantIn d)
accepted_by names = accepted_exactly
accepted_by numbers = numbers_accepted_exactly

refused_in : (d : Dialect) (text table : List ℕ) (k : ℕ) → (k ≡ 0 → ⊥) → (read_in d text table).refusal ≡ k → read_in d text table ≡ refused k table
refused_in d text table k h e = by_refusal (read_in d text table) e (refused_by d text table (λ z. h (sym e ∙ z)))

pub reads_meant : (d : Dialect) (text : List ℕ) (t : Term) → MeantIn d text t → (table : List ℕ) → read_in d text table ≡ laid t table
reads_meant d text t m table = by_room (ltb (length table) (5 * size t)) refl
  where
    by_room : (b : Bool) → ltb (length table) (5 * size t) ≡ b → read_in d text table ≡ cond b (refused 6 table) (laid_out t table)
    by_room true e = refused_in d text table 6 (λ z. omega arith) ((six_by d text table).1 (t, m, ltb-true (length table) (5 * size t) e))
    by_room false e =
        (accepted_by d text table (size t) (table_of t ++ drop (5 * size t) table)).1 record {
          term = t;
          means = m;
          n_is = refl;
          room = ltb-false (length table) (5 * size t) e;
          words_are = refl;
        }

-- a number of a reader that no table changes
pub record OfText (k : ℕ) : Type 0 where
  pub some : k ≡ 0 → ⊥
  pub not_six : k ≡ 6 → ⊥
  pub not_seven : k ≡ 7 → ⊥
  pub not_eleven : k ≡ 11 → ⊥

-- What a reader finds in a text: such a number, whatever the table, or the term that it means.
pub data Sees (d : Dialect) (text : List ℕ) : Type 0 where
  refuses : (k : ℕ) → OfText k → ((t : Term) → MeantIn d text t → ⊥) → ((table : List ℕ) → read_in d text table ≡ refused k table) → Sees d text
  means : (t : Term) → MeantIn d text t → Sees d text

-- No text of the second kind is one of the first.
laid_number : (t : Term) (table : List ℕ) (k : ℕ) → OfText k → (laid t table).refusal ≡ k → ⊥
laid_number t table k o = by_room (ltb (length table) (5 * size t))
  where
    by_room : (b : Bool) → (cond b (refused 6 table) (laid_out t table)).refusal ≡ k → ⊥
    by_room true e = o.not_six (sym e)
    by_room false e = o.some (sym e)

not_meant : (d : Dialect) (text : List ℕ) (k : ℕ) → OfText k → ((table : List ℕ) → read_in d text table ≡ refused k table) → (t : Term) → MeantIn d text t → ⊥
not_meant d text k o reads t m = laid_number t [] k o (ap (λ (r : Read). r.refusal) (sym (reads_meant d text t m []) ∙ reads []))

-- the numbers of both readers but 6
refuses_by : (d : Dialect) (text : List ℕ) (k : ℕ) → OfText k → ((table : List ℕ) → (read_in d text table).refusal ≡ k) → Sees d text
refuses_by d text k o reads =
    let whole : (table : List ℕ) → read_in d text table ≡ refused k table = λ table. refused_in d text table k o.some (reads table) in
    refuses k o (not_meant d text k o whole) whole

of_text : (k : ℕ) → 1 ≤ k → (k ≤ 5) ⊎ (13 ≤ k) → OfText k
of_text k l (inl u) = record { some = λ e. omega arith; not_six = λ e. omega arith; not_seven = λ e. omega arith; not_eleven = λ e. omega arith }
of_text k l (inr u) = record { some = λ e. omega arith; not_six = λ e. omega arith; not_seven = λ e. omega arith; not_eleven = λ e. omega arith }

by_names : (text : List ℕ) (r : Read) → ByNames.Finds text [] r → Sees names text
by_names text r (ByNames.too_long long) = refuses_by names text 1 (of_text 1 (omega arith) (inl (omega arith))) (λ table. (one_exactly text table).1 long)
by_names text r (ByNames.foreign_byte few dirt) = refuses_by names text 2 (of_text 2 (omega arith) (inl (omega arith))) (λ table. (two_exactly text table).1 (few, dirt))
by_names text r (ByNames.bad_name few clean bad) = refuses_by names text 3 (of_text 3 (omega arith) (inl (omega arith))) (λ table. (three_exactly text table).1 (few, clean, bad))
by_names text r (ByNames.no_tree s underived) = refuses_by names text 4 (of_text 4 (omega arith) (inl (omega arith))) (λ table. (four_exactly text table).1 (s, underived))
by_names text r (ByNames.open_tree s t d unclosed) = refuses_by names text 5 (of_text 5 (omega arith) (inl (omega arith))) (λ table. (five_exactly text table).1 (s, (t, d, unclosed)))
by_names text r (ByNames.no_room s t m short) = means t (s, m)
by_names text r (ByNames.a_term s t m fits) = means t (s, m)

by_numbers : (text : List ℕ) (r : Read) → ByNumbers.Finds text [] r → Sees numbers text
by_numbers text r (ByNumbers.too_long long) = refuses_by numbers text 1 (of_text 1 (omega arith) (inl (omega arith))) (λ table. (numbers_one_exactly text table).1 long)
by_numbers text r (ByNumbers.no_phrase few unspelt) = refuses_by numbers text 13 (of_text 13 (omega arith) (inr (omega arith))) (λ table. (thirteen_exactly text table).1 (few, unspelt))
by_numbers text r (ByNumbers.open_phrase few t p unclosed) =
    refuses_by numbers text 14 (of_text 14 (omega arith) (inr (omega arith))) (λ table. (fourteen_exactly text table).1 (few, (t, p, unclosed)))
by_numbers text r (ByNumbers.no_room t m short) = means t m
by_numbers text r (ByNumbers.a_term t m fits) = means t m

pub sees : (d : Dialect) (text : List ℕ) → Sees d text
sees names text = by_names text (read_of text []) (ByNames.finds text [])
sees numbers text = by_numbers text (read_numbers_of text []) (ByNumbers.finds text [])
