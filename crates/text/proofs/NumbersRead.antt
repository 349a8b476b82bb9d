-- The answers of the reader of the number dialect are those that specs/NumbersRead.antt says in words.
use mathlib.Core.Path.{◌≡◌, refl, sym, ap, ◌∙◌, subst}
use mathlib.Core.Logic.{◌↔◌}
use mathlib.Core.Bool.{Bool, true, false, false≢true}
use mathlib.Core.Option.{Option, none, some}
use mathlib.Core.List.{List}
use Prim.Native.Nat.{ℕ, ◌*◌, ◌≤◌, ◌<◌}
use native.Mathlib.Omega.{arith}
use lib.ListN.{length}
use lib.Dec.{ltb}
use borrow.Author.Tests.{ltb-true, ltb-false}
use Rattle.term.specs.Term.{Term, size, Closed, is_closed_under}
use Rattle.term.proofs.Closed.{closed_exactly}
use Rattle.text.specs.Reading.{Read, most_bytes, refused, laid_out}
use Rattle.text.specs.Exactly.{Accepts}
use Rattle.text.specs.NumberGrammar.{Phrase}
use Rattle.text.specs.NumberParse.{parse_numbers}
use Rattle.text.specs.NumberReading.{numbers_meant, numbers_number, read_numbers_of}
use Rattle.text.specs.NumbersRead.{NumbersMean, NumbersAcceptedExactly, NumbersOneExactly, ThirteenExactly, FourteenExactly, NumbersSixExactly, NumbersRefusedUnchanged}
use Rattle.text.proofs.Exactly.{same_refusal, short_accepts, laid_accepts}
use Rattle.text.proofs.NumberParse.{numbers_exactly, one_phrase}

-- what the reader finds, in the order of the tests, and what it then answers
pub data Finds (text table : List ℕ) : Read → Type 0 where
  too_long : most_bytes < length text → Finds text table (refused 1 table)
  no_phrase : length text ≤ most_bytes → ((t : Term) → Phrase text t → ⊥) → Finds text table (refused 13 table)
  open_phrase : length text ≤ most_bytes → (t : Term) → Phrase text t → (Closed t → ⊥) → Finds text table (refused 14 table)
  no_room : (t : Term) → NumbersMean text t → length table < 5 * size t → Finds text table (refused 6 table)
  a_term : (t : Term) → NumbersMean text t → 5 * size t ≤ length table → Finds text table (laid_out t table)

module _ (text table : List ℕ) where
  none_spelt : parse_numbers text ≡ none → (t : Term) → Phrase text t → ⊥
  none_spelt e t p =
      let found = (numbers_exactly text t).1 p in
      let z : ◌≡◌ {A = ℕ} 0 1 = cc in
      omega arith

  module _ (short : ltb most_bytes (length text) ≡ false) where
    few : length text ≤ most_bytes
    few = ltb-false most_bytes (length text) short

    module _ (t : Term) (p : parse_numbers text ≡ some t) where
      phrase_of : Phrase text t
      phrase_of = (numbers_exactly text t).0 p

      meaning : is_closed_under 0 t ≡ true → NumbersMean text t
      meaning c = record { few_bytes = few; phrase = phrase_of; closed = (closed_exactly 0 t).0 c }

      by_room : (b : Bool) → is_closed_under 0 t ≡ true → ltb (length table) (5 * size t) ≡ b → Finds text table (read_numbers_of text table)
      unfolding read_numbers_of numbers_number numbers_meant
      by_room true c r = rw (short, p, c, r) (no_room t (meaning c) (ltb-true (length table) (5 * size t) r))
      by_room false c r = rw (short, p, c, r) (a_term t (meaning c) (ltb-false (length table) (5 * size t) r))

      by_closed : (b : Bool) → is_closed_under 0 t ≡ b → Finds text table (read_numbers_of text table)
      unfolding read_numbers_of numbers_number numbers_meant
      by_closed true c = by_room _ c refl
      by_closed false c = rw (short, p, c) (open_phrase few t phrase_of (λ h. false≢true (sym c ∙ (closed_exactly 0 t).1 h)))

    by_parse : (o : Option Term) → parse_numbers text ≡ o → Finds text table (read_numbers_of text table)
    unfolding read_numbers_of numbers_number numbers_meant
    by_parse none e = rw (short, e) (no_phrase few (none_spelt e))
    by_parse (some t) e = by_closed t e _ refl

  by_length : (b : Bool) → ltb most_bytes (length text) ≡ b → Finds text table (read_numbers_of text table)
  unfolding read_numbers_of numbers_number
  by_length true e = rw e (too_long (ltb-true most_bytes (length text) e))
  by_length false e = by_parse e _ refl

  pub finds : Finds text table (read_numbers_of text table)
  finds = by_length _ refl

  one : (r : Read) → Finds text table r → (r.refusal ≡ 1) ↔ (most_bytes < length text)
  one r (too_long long) = (λ e. long, λ h. refl)
  one r (no_phrase short unspelt) = (λ e. absurd (omega arith), λ h. absurd (omega arith))
  one r (open_phrase short t p unclosed) = (λ e. absurd (omega arith), λ h. absurd (omega arith))
  one r (no_room t m lacking) = (λ e. absurd (omega arith), λ h. absurd (omega (arith, m.few_bytes)))
  one r (a_term t m room) = (λ e. absurd (omega arith), λ h. absurd (omega (arith, m.few_bytes)))

  thirteen : (r : Read) → Finds text table r → (r.refusal ≡ 13) ↔ ((length text ≤ most_bytes) × ((t : Term) → Phrase text t → ⊥))
  thirteen r (too_long long) = (λ e. absurd (omega arith), λ h. absurd (omega (arith, h.0)))
  thirteen r (no_phrase short unspelt) = (λ e. (short, unspelt), λ h. refl)
  thirteen r (open_phrase short t p unclosed) = (λ e. absurd (omega arith), λ h. absurd (h.1 t p))
  thirteen r (no_room t m lacking) = (λ e. absurd (omega arith), λ h. absurd (h.1 t m.phrase))
  thirteen r (a_term t m room) = (λ e. absurd (omega arith), λ h. absurd (h.1 t m.phrase))

  same_closed : (t u : Term) → Phrase text t → Phrase text u → Closed u → Closed t
  same_closed t u p q c = subst Closed (one_phrase text u t q p) c

  fourteen : (r : Read) → Finds text table r → (r.refusal ≡ 14) ↔ ((length text ≤ most_bytes) × ((t : Term) × Phrase text t × (Closed t → ⊥)))
  fourteen r (too_long long) = (λ e. absurd (omega arith), λ h. absurd (omega (arith, h.0)))
  fourteen r (no_phrase short unspelt) = (λ e. absurd (omega arith), λ h. absurd (unspelt h.1.0 h.1.1))
  fourteen r (open_phrase short t p unclosed) = (λ e. (short, (t, p, unclosed)), λ h. refl)
  fourteen r (no_room t m lacking) = (λ e. absurd (omega arith), λ h. absurd (h.1.2 (same_closed h.1.0 t h.1.1 m.phrase m.closed)))
  fourteen r (a_term t m room) = (λ e. absurd (omega arith), λ h. absurd (h.1.2 (same_closed h.1.0 t h.1.1 m.phrase m.closed)))

  six : (r : Read) → Finds text table r → (r.refusal ≡ 6) ↔ ((t : Term) × NumbersMean text t × (length table < 5 * size t))
  six r (too_long long) = (λ e. absurd (omega arith), λ h. absurd (omega (arith, h.1.few_bytes)))
  six r (no_phrase short unspelt) = (λ e. absurd (omega arith), λ h. absurd (unspelt h.0 h.1.phrase))
  six r (open_phrase short t p unclosed) = (λ e. absurd (omega arith), λ h. absurd (unclosed (same_closed t h.0 p h.1.phrase h.1.closed)))
  six r (no_room t m lacking) = (λ e. (t, m, lacking), λ h. refl)
  six r (a_term t m room) = (λ e. absurd (omega arith), λ h. absurd (omega (arith, h.2, ap size (one_phrase text t h.0 m.phrase h.1.phrase))))

  unchanged : (r : Read) → Finds text table r → (r.refusal ≡ 0 → ⊥) → (r.n ≡ 0) × (r.table ≡ table)
  unchanged r (too_long long) h = (refl, refl)
  unchanged r (no_phrase short unspelt) h = (refl, refl)
  unchanged r (open_phrase short t p unclosed) h = (refl, refl)
  unchanged r (no_room t m lacking) h = (refl, refl)
  unchanged r (a_term t m room) h = absurd (h refl)

  accepts : (r : Read) (n : ℕ) (words : List ℕ) → Finds text table r → (r ≡ record { n = n; refusal = 0; table = words }) ↔ Accepts (NumbersMean text) table n words
  accepts r n words (too_long long) = (λ e. absurd (omega (arith, same_refusal e)), λ a. absurd (omega (arith, a.means.few_bytes)))
  accepts r n words (no_phrase short unspelt) = (λ e. absurd (omega (arith, same_refusal e)), λ a. absurd (unspelt a.term a.means.phrase))
  accepts r n words (open_phrase short t p unclosed) =
      (λ e. absurd (omega (arith, same_refusal e)), λ a. absurd (unclosed (same_closed t a.term p a.means.phrase a.means.closed)))
  accepts r n words (no_room t m lacking) = short_accepts (NumbersMean text) table t n words lacking (λ u k. one_phrase text u t k.phrase m.phrase)
  accepts r n words (a_term t m room) = laid_accepts (NumbersMean text) table t n words m room (λ u k. one_phrase text u t k.phrase m.phrase)

pub numbers_one_exactly : NumbersOneExactly
numbers_one_exactly text table = one text table (read_numbers_of text table) (finds text table)

pub thirteen_exactly : ThirteenExactly
thirteen_exactly text table = thirteen text table (read_numbers_of text table) (finds text table)

pub fourteen_exactly : FourteenExactly
fourteen_exactly text table = fourteen text table (read_numbers_of text table) (finds text table)

pub numbers_six_exactly : NumbersSixExactly
numbers_six_exactly text table = six text table (read_numbers_of text table) (finds text table)

pub numbers_refused_unchanged : NumbersRefusedUnchanged
numbers_refused_unchanged text table = unchanged text table (read_numbers_of text table) (finds text table)

pub numbers_accepted_exactly : NumbersAcceptedExactly
numbers_accepted_exactly text table n words = accepts text table (read_numbers_of text table) n words (finds text table)
