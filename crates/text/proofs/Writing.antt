-- The writer's answers are those that specs/WritingExactly.antt says in words.
use mathlib.Core.Path.{◌≡◌, refl, sym, ap, ◌∙◌, subst, subst⁻¹}
use mathlib.Core.Logic.{◌↔◌, ◌⊎◌, inl, inr}
use mathlib.Core.Bool.{Bool, true, false, ◌||◌, false≢true}
use mathlib.Core.List.{List, [], ◌∷◌}
use Prim.Native.Nat.{ℕ, ◌<◌}
use native.Mathlib.Omega.{arith}
use lib.ListN.{length}
use lib.Dec.{ltb}
use borrow.Author.Tests.{ltb-true, ltb-false}
use Rattle.term.specs.Choice.{◌⇒◌, first}
use Rattle.term.specs.Term.{Term}
use Rattle.term.specs.Accepted.{Accepted, accepted}
use Rattle.term.proofs.Accepted.{read_whole, accepts_all, accepts_only, one_term}
use Rattle.text.specs.Reading.{most_bytes}
use Rattle.text.specs.Writing.{Write, part_text, table_text, unfit, writer_number, refused, written_out, answer, writing}
use Rattle.text.specs.WritingExactly.{Fits, Writes, WrittenExactly, SevenExactly, ElevenExactly, RefusedUnwritten}
use Rattle.text.proofs.Exactly.{neither}

pub table_text_lem : (of : Term → List ℕ) (w : List ℕ) (n : ℕ) (A : Accepted w n) → table_text of w n ≡ of A.term
unfolding table_text
table_text_lem of w n A = ap (part_text of) (read_whole w n A)

-- What is answered, by the tests.
module _ (of : Term → List ℕ) (w : List ℕ) (n : ℕ) (text : List ℕ) where
  pub writes_seven : accepted w n ≡ false → writing of w n text ≡ refused 7 text
  unfolding writing writer_number
  writes_seven e = rw e

  -- past number 7, the text alone decides
  pub by_text : (A : Accepted w n) → let s = of A.term in writing of w n text ≡ answer (first ((unfit s text ⇒ 11) ∷ [])) s text
  unfolding writing writer_number
  by_text A = rw (accepts_all w n A, table_text_lem of w n A)

  pub writes_eleven : (A : Accepted w n) → unfit (of A.term) text ≡ true → writing of w n text ≡ refused 11 text
  writes_eleven A e = by_text A ∙ rw e

  pub writes_text : (A : Accepted w n) → unfit (of A.term) text ≡ false → writing of w n text ≡ written_out (of A.term) text
  writes_text A e = by_text A ∙ rw e

-- A text that number 11 refuses is too long for one of the two, and any other fits.
abbrev pub TooLong : List ℕ → List ℕ → Type 0
TooLong s text = (most_bytes < length s) ⊎ (length text < length s)

by_length : (s text : List ℕ) (a b : Bool) → ltb most_bytes (length s) ≡ a → ltb (length text) (length s) ≡ b → (a || b) ≡ true → TooLong s text
by_length s text true b e f h = inl (ltb-true most_bytes (length s) e)
by_length s text false true e f h = inr (ltb-true (length text) (length s) f)
by_length s text false false e f h = absurd (false≢true h)

pub too_long : (s text : List ℕ) → unfit s text ≡ true → TooLong s text
too_long s text e = by_length s text _ _ refl refl e

pub fitted : (s text : List ℕ) → unfit s text ≡ false → Fits s text
fitted s text e =
    let h = neither (ltb most_bytes (length s)) (ltb (length text) (length s)) e in
    (ltb-false most_bytes (length s) h.0, ltb-false (length text) (length s) h.1)

pub not_both : (s text : List ℕ) → TooLong s text → Fits s text → ⊥
not_both s text (inl l) h = omega (arith, h.0)
not_both s text (inr l) h = omega (arith, h.1)

module _ (of : Term → List ℕ) (w : List ℕ) (n : ℕ) (text : List ℕ) where
  -- what the writer finds, in the order of the tests, and what it then answers
  pub data Finds : Write → Type 0 where
    no_table : (Accepted w n → ⊥) → Finds (refused 7 text)
    no_room : (A : Accepted w n) → TooLong (of A.term) text → Finds (refused 11 text)
    fitting : (A : Accepted w n) → Fits (of A.term) text → Finds (written_out (of A.term) text)

  by_room : (A : Accepted w n) (b : Bool) → unfit (of A.term) text ≡ b → Finds (writing of w n text)
  by_room A true e = subst⁻¹ Finds (writes_eleven of w n text A e) (no_room A (too_long (of A.term) text e))
  by_room A false e = subst⁻¹ Finds (writes_text of w n text A e) (fitting A (fitted (of A.term) text e))

  by_table : (b : Bool) → accepted w n ≡ b → Finds (writing of w n text)
  by_table true e = let A = accepts_only w n e in by_room A _ refl
  by_table false e = subst⁻¹ Finds (writes_seven of w n text e) (no_table (λ A. false≢true (sym e ∙ accepts_all w n A)))

  pub finds : Finds (writing of w n text)
  finds = by_table _ refl

  seven : (r : Write) → Finds r → (r.refusal ≡ 7) ↔ (Accepted w n → ⊥)
  seven r (no_table h) = (λ e. h, λ i. refl)
  seven r (no_room A h) = (λ e. absurd (omega arith), λ i. absurd (i A))
  seven r (fitting A h) = (λ e. absurd (omega arith), λ i. absurd (i A))

  eleven : (r : Write) → Finds r → (r.refusal ≡ 11) ↔ ((A : Accepted w n) × TooLong (of A.term) text)
  eleven r (no_table h) = (λ e. absurd (omega arith), λ i. absurd (h i.0))
  eleven r (no_room A h) = (λ e. (A, h), λ i. refl)
  eleven r (fitting A h) = (λ e. absurd (omega arith), λ i. absurd (not_both (of A.term) text (subst (λ t. TooLong (of t) text) (one_term w n i.0 A) i.1) h))

  unwritten : (r : Write) → Finds r → (r.refusal ≡ 0 → ⊥) → (r.len ≡ 0) × (r.text ≡ text)
  unwritten r (no_table h) i = (refl, refl)
  unwritten r (no_room A h) i = (refl, refl)
  unwritten r (fitting A h) i = absurd (i refl)

  same_refusal : {r s : Write} → r ≡ s → r.refusal ≡ s.refusal
  same_refusal e = ap (λ (a : Write). a.refusal) e

  writes : (r : Write) (len : ℕ) (bytes : List ℕ) → Finds r → (r ≡ record { len = len; refusal = 0; text = bytes }) ↔ Writes of w n text len bytes
  writes r len bytes (no_table h) = (λ e. absurd (omega (arith, same_refusal e)), λ i. absurd (h i.accepted_table))
  writes r len bytes (no_room A h) = (
    λ e. absurd (omega (arith, same_refusal e)),
    λ i. absurd (not_both (of A.term) text h (subst (λ t. Fits (of t) text) (one_term w n i.accepted_table A) i.fits)),
  )
  writes r len bytes (fitting A h) = (
    λ e.
        let len_is : len ≡ length (of A.term) = sym (ap (λ (a : Write). a.len) e) in
        record { accepted_table = A; fits = h; len_is = len_is; bytes_are = sym (ap (λ (a : Write). a.text) e) ∙ rw len_is },
    λ i. rw (i.bytes_are, i.len_is, one_term w n i.accepted_table A),
  )

pub seven_exactly : (of : Term → List ℕ) → SevenExactly of
seven_exactly of w n text = seven of w n text (writing of w n text) (finds of w n text)

pub eleven_exactly : (of : Term → List ℕ) → ElevenExactly of
eleven_exactly of w n text = eleven of w n text (writing of w n text) (finds of w n text)

pub refused_unwritten : (of : Term → List ℕ) → RefusedUnwritten of
refused_unwritten of w n text = unwritten of w n text (writing of w n text) (finds of w n text)

pub written_exactly : (of : Term → List ℕ) → WrittenExactly of
written_exactly of w n text len bytes = writes of w n text (writing of w n text) len bytes (finds of w n text)
