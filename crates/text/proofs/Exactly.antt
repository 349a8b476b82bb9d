-- The reader's answers are those that specs/Exactly.antt says in words.
use mathlib.Core.Path.{◌≡◌, refl, sym, ap, ◌∙◌, subst}
use mathlib.Core.Logic.{◌↔◌}
use mathlib.Core.Bool.{Bool, true, false, ◌||◌, false≢true}
use mathlib.Core.Option.{Option, none, some}
use mathlib.Core.List.{List, [], ◌∷◌}
use Prim.Native.Nat.{ℕ, ◌*◌, ◌≤◌, ◌<◌}
use native.Mathlib.Omega.{arith}
use lib.ListN.{length}
use lib.Dec.{ltb}
use borrow.Author.Tests.{ltb-true, ltb-false, le-ltb}
use Rattle.term.specs.Choice.{◌>>=◌}
use Rattle.term.specs.Term.{Term, size, Closed}
use Rattle.text.specs.Bytes.{Class, letter, digit, blank, sign, foreign, class_of, is_foreign}
use Rattle.text.specs.Tokens.{Token, mark, name, tokens, starts_with_digit, any_bad_name}
use Rattle.text.specs.Grammar.{Phrase, Tree, phrase_tree, Derives}
use Rattle.text.specs.Parse.{parse}
use Rattle.text.specs.Binding.{nameless, ClosedIn}
use Rattle.text.specs.Reading.{Read, most_bytes, any_foreign, meant, too_short, reader_number, refused, laid_out, read_of}
use Rattle.text.specs.Exactly.{NoForeign, GoodNames, WellSpelled, Means, NamesMean, Accepts, AcceptedExactly, OneExactly, TwoExactly, ThreeExactly, FourExactly, FiveExactly, SixExactly, RefusedReadingUnchanged}
use Rattle.text.proofs.Parse.{parse_derives, parse_none, one_tree}
use Rattle.text.proofs.Binding.{nameless_exactly, nameless_closed, unbound}

pub neither : (s t : Bool) → (s || t) ≡ false → (s ≡ false) × (t ≡ false)
neither false t e = (refl, e)
neither true t e = (e, cc)

foreign_or_not : (k : Class) → (k ≡ foreign → ⊥) → is_foreign k ≡ false
foreign_or_not foreign h = absurd (h refl)
foreign_or_not letter h = refl
foreign_or_not digit h = refl
foreign_or_not blank h = refl
foreign_or_not sign h = refl

not_foreign : (k : Class) → (is_foreign k ≡ false) ↔ (k ≡ foreign → ⊥)
not_foreign k = (λ e h. false≢true (sym e ∙ ap is_foreign h), foreign_or_not k)

pub none_foreign : (s : List ℕ) → (any_foreign s ≡ false) ↔ NoForeign s
none_foreign [] = (λ e. tt, λ h. refl)
none_foreign (b ∷ s) = (
  λ e. let h = neither (is_foreign (class_of b)) (any_foreign s) e in ((not_foreign (class_of b)).0 h.0, (none_foreign s).0 h.1),
  λ h. rw ((not_foreign (class_of b)).1 h.0) ((none_foreign s).1 h.1),
)

pub none_bad : (ts : List Token) → (any_bad_name ts ≡ false) ↔ GoodNames ts
none_bad [] = (λ e. tt, λ h. refl)
none_bad (mark b ∷ ts) = none_bad ts
none_bad (name x ∷ ts) = (
  λ e.
      let h = neither (ltb 8 (length x) || starts_with_digit x) (any_bad_name ts) e in
      let i = neither (ltb 8 (length x)) (starts_with_digit x) h.0 in
      (ltb-false 8 (length x) i.0, i.1, (none_bad ts).0 h.1),
  λ h. rw (le-ltb 8 (length x) h.0, h.1) ((none_bad ts).1 h.2),
)

-- what the reader finds, in the order of the tests, and what it then answers
pub data Finds (text table : List ℕ) : Read → Type 0 where
  too_long : most_bytes < length text → Finds text table (refused 1 table)
  foreign_byte : length text ≤ most_bytes → (NoForeign text → ⊥) → Finds text table (refused 2 table)
  bad_name : length text ≤ most_bytes → NoForeign text → (GoodNames (tokens text) → ⊥) → Finds text table (refused 3 table)
  no_tree : WellSpelled text → ((t : Tree) → Derives (tokens text) t → ⊥) → Finds text table (refused 4 table)
  open_tree : WellSpelled text → (t : Tree) → Derives (tokens text) t → (ClosedIn t [] → ⊥) → Finds text table (refused 5 table)
  no_room : WellSpelled text → (t : Term) → Means text t → length table < 5 * size t → Finds text table (refused 6 table)
  a_term : WellSpelled text → (t : Term) → Means text t → 5 * size t ≤ length table → Finds text table (laid_out t table)

module _ (text table : List ℕ) where
  spelled_by : ltb most_bytes (length text) ≡ false → any_foreign text ≡ false → any_bad_name (tokens text) ≡ false → WellSpelled text
  spelled_by ea eb ec =
      record {
        few_bytes = ltb-false most_bytes (length text) ea;
        no_foreign = (none_foreign text).0 eb;
        good_names = (none_bad (tokens text)).0 ec;
      }

  meant_by : (p : Phrase) (t : Term) → parse (tokens text) ≡ some p → nameless (phrase_tree p) [] ≡ some t → Means text t
  meant_by p t eo em =
      record { tree = phrase_tree p; derives = parse_derives (tokens text) p eo; closed = (nameless_closed (phrase_tree p) [] t em).0; form = (nameless_exactly (phrase_tree p) [] t).0 em }

  by_tests : (a b c : Bool) (o : Option Phrase) (m : Option Term) (d : Bool)
      → ltb most_bytes (length text) ≡ a → any_foreign text ≡ b → any_bad_name (tokens text) ≡ c
      → parse (tokens text) ≡ o → (o >>= λ p. nameless (phrase_tree p) []) ≡ m → too_short m table ≡ d
      → Finds text table (read_of text table)
  unfolding read_of reader_number meant
  by_tests true b c o m d ea eb ec eo em ed =
      rw ea (too_long (ltb-true most_bytes (length text) ea))
  by_tests false true c o m d ea eb ec eo em ed =
      rw (ea, eb) (foreign_byte (ltb-false most_bytes (length text) ea) (λ h. false≢true (sym ((none_foreign text).1 h) ∙ eb)))
  by_tests false false true o m d ea eb ec eo em ed =
      rw (ea, eb, ec)
      (bad_name (ltb-false most_bytes (length text) ea) ((none_foreign text).0 eb) (λ h. false≢true (sym ((none_bad (tokens text)).1 h) ∙ ec)))
  by_tests false false false none m d ea eb ec eo em ed =
      rw (ea, eb, ec, eo) (no_tree (spelled_by ea eb ec) ((parse_none (tokens text)).0 eo))
  by_tests false false false (some p) none d ea eb ec eo em ed =
      rw (ea, eb, ec, eo, em) (open_tree (spelled_by ea eb ec) (phrase_tree p) (parse_derives (tokens text) p eo) ((unbound (phrase_tree p) []).0 em))
  by_tests false false false (some p) (some t) true ea eb ec eo em ed =
      rw (ea, eb, ec, eo, em, ed) (no_room (spelled_by ea eb ec) t (meant_by p t eo em) (ltb-true (length table) (5 * size t) ed))
  by_tests false false false (some p) (some t) false ea eb ec eo em ed =
      rw (ea, eb, ec, eo, em, ed) (a_term (spelled_by ea eb ec) t (meant_by p t eo em) (ltb-false (length table) (5 * size t) ed))

  pub finds : Finds text table (read_of text table)
  finds = by_tests _ _ _ _ _ _ refl refl refl refl refl refl

-- a text has one tree and one meaning, which is closed
pub nameless_meant : (text : List ℕ) (t : Term) (m : Means text t) → nameless m.tree [] ≡ some t
nameless_meant text t m = (nameless_exactly m.tree [] t).1 m.form

pub one_meaning : (text : List ℕ) (t u : Term) → Means text t → Means text u → t ≡ u
one_meaning text t u m l =
    cc (ap (λ (s : Tree). nameless s []) (one_tree (tokens text) m.tree l.tree m.derives l.derives), nameless_meant text t m, nameless_meant text u l)

pub meant_closed : (text : List ℕ) (t : Term) → Means text t → Closed t
meant_closed text t m = (nameless_closed m.tree [] t (nameless_meant text t m)).1

pub same_refusal : {r s : Read} → r ≡ s → r.refusal ≡ s.refusal
same_refusal e = ap (λ (a : Read). a.refusal) e

-- What is accepted of a text that means one term, by the table's room.
module _ (meaning : Term → Type 0) (table : List ℕ) (t : Term) (n : ℕ) (words : List ℕ) where
  pub short_accepts : length table < 5 * size t → ((u : Term) → meaning u → u ≡ t)
      → (refused 6 table ≡ record { n = n; refusal = 0; table = words }) ↔ Accepts meaning table n words
  short_accepts short one = (
    λ e. absurd (omega (arith, same_refusal e)),
    λ a. absurd (omega (arith, a.room, a.n_is, ap size (one a.term a.means))),
  )

  pub laid_accepts : meaning t → 5 * size t ≤ length table → ((u : Term) → meaning u → u ≡ t)
      → (laid_out t table ≡ record { n = n; refusal = 0; table = words }) ↔ Accepts meaning table n words
  laid_accepts m fits one = (
    λ e.
        let n_is : n ≡ size t = sym (ap (λ (a : Read). a.n) e) in
        record { term = t; means = m; n_is = n_is; room = omega arith; words_are = sym (ap (λ (a : Read). a.table) e) ∙ rw n_is },
    λ a. rw (a.words_are, a.n_is, one a.term a.means),
  )

only_closed : (text : List ℕ) (t : Tree) (u : Term) → Derives (tokens text) t → Means text u → ClosedIn t []
only_closed text t u d m = subst (λ (s : Tree). ClosedIn s []) (one_tree (tokens text) m.tree t m.derives d) m.closed

module _ (text table : List ℕ) where
  one : (r : Read) → Finds text table r → (r.refusal ≡ 1) ↔ (most_bytes < length text)
  one r (too_long long) = (λ e. long, λ h. refl)
  one r (foreign_byte few dirt) = (λ e. absurd (omega arith), λ h. absurd (omega arith))
  one r (bad_name few clean bad) = (λ e. absurd (omega arith), λ h. absurd (omega arith))
  one r (no_tree s underived) = (λ e. absurd (omega arith), λ h. absurd (omega (arith, s.few_bytes)))
  one r (open_tree s t d unclosed) = (λ e. absurd (omega arith), λ h. absurd (omega (arith, s.few_bytes)))
  one r (no_room s t m short) = (λ e. absurd (omega arith), λ h. absurd (omega (arith, s.few_bytes)))
  one r (a_term s t m fits) = (λ e. absurd (omega arith), λ h. absurd (omega (arith, s.few_bytes)))

  two : (r : Read) → Finds text table r → (r.refusal ≡ 2) ↔ ((length text ≤ most_bytes) × (NoForeign text → ⊥))
  two r (too_long long) = (λ e. absurd (omega arith), λ h. absurd (omega (arith, h.0)))
  two r (foreign_byte few dirt) = (λ e. (few, dirt), λ h. refl)
  two r (bad_name few clean bad) = (λ e. absurd (omega arith), λ h. absurd (h.1 clean))
  two r (no_tree s underived) = (λ e. absurd (omega arith), λ h. absurd (h.1 s.no_foreign))
  two r (open_tree s t d unclosed) = (λ e. absurd (omega arith), λ h. absurd (h.1 s.no_foreign))
  two r (no_room s t m short) = (λ e. absurd (omega arith), λ h. absurd (h.1 s.no_foreign))
  two r (a_term s t m fits) = (λ e. absurd (omega arith), λ h. absurd (h.1 s.no_foreign))

  three : (r : Read) → Finds text table r → (r.refusal ≡ 3) ↔ ((length text ≤ most_bytes) × NoForeign text × (GoodNames (tokens text) → ⊥))
  three r (too_long long) = (λ e. absurd (omega arith), λ h. absurd (omega (arith, h.0)))
  three r (foreign_byte few dirt) = (λ e. absurd (omega arith), λ h. absurd (dirt h.1))
  three r (bad_name few clean bad) = (λ e. (few, clean, bad), λ h. refl)
  three r (no_tree s underived) = (λ e. absurd (omega arith), λ h. absurd (h.2 s.good_names))
  three r (open_tree s t d unclosed) = (λ e. absurd (omega arith), λ h. absurd (h.2 s.good_names))
  three r (no_room s t m short) = (λ e. absurd (omega arith), λ h. absurd (h.2 s.good_names))
  three r (a_term s t m fits) = (λ e. absurd (omega arith), λ h. absurd (h.2 s.good_names))

  four : (r : Read) → Finds text table r → (r.refusal ≡ 4) ↔ (WellSpelled text × ((t : Tree) → Derives (tokens text) t → ⊥))
  four r (too_long long) = (λ e. absurd (omega arith), λ h. absurd (omega (arith, h.0.few_bytes)))
  four r (foreign_byte few dirt) = (λ e. absurd (omega arith), λ h. absurd (dirt h.0.no_foreign))
  four r (bad_name few clean bad) = (λ e. absurd (omega arith), λ h. absurd (bad h.0.good_names))
  four r (no_tree s underived) = (λ e. (s, underived), λ h. refl)
  four r (open_tree s t d unclosed) = (λ e. absurd (omega arith), λ h. absurd (h.1 t d))
  four r (no_room s t m short) = (λ e. absurd (omega arith), λ h. absurd (h.1 m.tree m.derives))
  four r (a_term s t m fits) = (λ e. absurd (omega arith), λ h. absurd (h.1 m.tree m.derives))

  five : (r : Read) → Finds text table r
      → (r.refusal ≡ 5) ↔ (WellSpelled text × ((t : Tree) × Derives (tokens text) t × (ClosedIn t [] → ⊥)))
  five r (too_long long) = (λ e. absurd (omega arith), λ h. absurd (omega (arith, h.0.few_bytes)))
  five r (foreign_byte few dirt) = (λ e. absurd (omega arith), λ h. absurd (dirt h.0.no_foreign))
  five r (bad_name few clean bad) = (λ e. absurd (omega arith), λ h. absurd (bad h.0.good_names))
  five r (no_tree s underived) = (λ e. absurd (omega arith), λ h. absurd (underived h.1.0 h.1.1))
  five r (open_tree s t d unclosed) = (λ e. (s, (t, d, unclosed)), λ h. refl)
  five r (no_room s t m short) = (λ e. absurd (omega arith), λ h. absurd (h.1.2 (only_closed text h.1.0 t h.1.1 m)))
  five r (a_term s t m fits) = (λ e. absurd (omega arith), λ h. absurd (h.1.2 (only_closed text h.1.0 t h.1.1 m)))

  six : (r : Read) → Finds text table r → (r.refusal ≡ 6) ↔ ((t : Term) × NamesMean text t × (length table < 5 * size t))
  six r (too_long long) = (λ e. absurd (omega arith), λ h. absurd (omega (arith, h.1.0.few_bytes)))
  six r (foreign_byte few dirt) = (λ e. absurd (omega arith), λ h. absurd (dirt h.1.0.no_foreign))
  six r (bad_name few clean bad) = (λ e. absurd (omega arith), λ h. absurd (bad h.1.0.good_names))
  six r (no_tree s underived) = (λ e. absurd (omega arith), λ h. absurd (underived h.1.1.tree h.1.1.derives))
  six r (open_tree s t d unclosed) = (λ e. absurd (omega arith), λ h. absurd (unclosed (only_closed text t h.0 d h.1.1)))
  six r (no_room s t m short) = (λ e. (t, (s, m), short), λ h. refl)
  six r (a_term s t m fits) =
      (λ e. absurd (omega arith), λ h. absurd (omega (arith, h.2, ap size (one_meaning text t h.0 m h.1.1))))

  table_unchanged : (r : Read) → Finds text table r → (r.refusal ≡ 0 → ⊥) → (r.n ≡ 0) × (r.table ≡ table)
  table_unchanged r (too_long long) h = (refl, refl)
  table_unchanged r (foreign_byte few dirt) h = (refl, refl)
  table_unchanged r (bad_name few clean bad) h = (refl, refl)
  table_unchanged r (no_tree s underived) h = (refl, refl)
  table_unchanged r (open_tree s t d unclosed) h = (refl, refl)
  table_unchanged r (no_room s t m short) h = (refl, refl)
  table_unchanged r (a_term s t m fits) h = absurd (h refl)

  accepts_reading : (r : Read) (n : ℕ) (words : List ℕ) → Finds text table r
      → (r ≡ record { n = n; refusal = 0; table = words }) ↔ Accepts (NamesMean text) table n words
  accepts_reading r n words (too_long long) = (λ e. absurd (omega (arith, same_refusal e)), λ a. absurd (omega (arith, a.means.0.few_bytes)))
  accepts_reading r n words (foreign_byte few dirt) = (λ e. absurd (omega (arith, same_refusal e)), λ a. absurd (dirt a.means.0.no_foreign))
  accepts_reading r n words (bad_name few clean bad) = (λ e. absurd (omega (arith, same_refusal e)), λ a. absurd (bad a.means.0.good_names))
  accepts_reading r n words (no_tree s underived) = (λ e. absurd (omega (arith, same_refusal e)), λ a. absurd (underived a.means.1.tree a.means.1.derives))
  accepts_reading r n words (open_tree s t d unclosed) =
      (λ e. absurd (omega (arith, same_refusal e)), λ a. absurd (unclosed (only_closed text t a.term d a.means.1)))
  accepts_reading r n words (no_room s t m short) = short_accepts (NamesMean text) table t n words short (λ u k. one_meaning text u t k.1 m)
  accepts_reading r n words (a_term s t m fits) = laid_accepts (NamesMean text) table t n words (s, m) fits (λ u k. one_meaning text u t k.1 m)

pub one_exactly : OneExactly
one_exactly text table = one text table (read_of text table) (finds text table)

pub two_exactly : TwoExactly
two_exactly text table = two text table (read_of text table) (finds text table)

pub three_exactly : ThreeExactly
three_exactly text table = three text table (read_of text table) (finds text table)

pub four_exactly : FourExactly
four_exactly text table = four text table (read_of text table) (finds text table)

pub five_exactly : FiveExactly
five_exactly text table = five text table (read_of text table) (finds text table)

pub six_exactly : SixExactly
six_exactly text table = six text table (read_of text table) (finds text table)

pub refused_reading_unchanged : RefusedReadingUnchanged
refused_reading_unchanged text table = table_unchanged text table (read_of text table) (finds text table)

pub accepted_exactly : AcceptedExactly
accepted_exactly text table n words = accepts_reading text table (read_of text table) n words (finds text table)
