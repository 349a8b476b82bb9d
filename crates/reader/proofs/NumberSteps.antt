-- The steps of reading the number dialect make up the whole: from a phrase that was read to the code of what the text means, and the numbers in their order.
use mathlib.Core.Path.{◌≡◌, refl, sym, ap, ap₂, ◌∙◌}
use mathlib.Core.Bool.{Bool, true, false, not, ◌&&◌, ◌||◌, cond}
use mathlib.Core.Option.{Option, none, some}
use mathlib.Core.List.{List, [], ◌∷◌, ◌++◌, append-nil}
use Prim.Native.Nat.{ℕ, suc, ◌+◌, ◌≤◌, ◌<◌}
use native.Mathlib.Omega.{arith}
use lib.ListN.{length, drop, drop_of_length-le, length-drop, length-append}
use lib.Seq.{sets-eq}
use lib.Dec.{eqb, ltb}
use borrow.Author.Tests.{ne_eqb, lt-ltb, le-ltb}
use Rattle.term.specs.Term.{Term, var, lam, app, size, is_closed_under}
use Rattle.term.specs.Code.{code_of}
use Rattle.term.proofs.Choice.{each}
use Rattle.term.proofs.Closed.{closed_exactly}
use Rattle.text.specs.Reading.{most_bytes, refused}
use Rattle.text.specs.NumberGrammar.{number_text}
use Rattle.text.specs.NumberParse.{digits_first, parse_numbers}
use Rattle.text.specs.NumberReading.{closed_only, numbers_meant, numbers_number, read_numbers_of}
use Rattle.text.proofs.NumberGrammar.{phrase_exactly, text_long}
use Rattle.text.proofs.NumberParse.{numbers_exactly, one_reading}
use Rattle.reader.specs.Grammar.{variable_word}
use Rattle.reader.specs.Answering.{any_zero, Codes, answer_for}
use Rattle.reader.specs.Steps.{CodedTo}
use Rattle.reader.specs.Numbers.{code_under, Begins, NoPhrase, PhraseTo}
use Rattle.std.proofs.lemmas.List.Folds.{list_any-append}
use Rattle.reader.proofs.Answering.{last_two}

-- The code of a term under binders has a word for each node; a 0 stands there exactly where the term is not closed, and else it is the term's code.
code_size : (t : Term) (d : ℕ) → length (code_under t d) ≡ size t
unfolding code_under
code_size (var k) d = refl
code_size (lam b) d = ap suc (code_size b (suc d))
code_size (app f a) d = ap suc (length-append (code_under f d) (code_under a d) ∙ ap₂ (λ m n. m + n) (code_size f d) (code_size a d))

not_both : (a b : Bool) → (not a || not b) ≡ not (a && b)
not_both true b = refl
not_both false b = refl

zero_open : (t : Term) (d : ℕ) → any_zero (code_under t d) ≡ not (is_closed_under d t)
unfolding code_under
zero_open (var k) d = by_test (ltb k d)
  where
    by_test : (b : Bool) → any_zero (variable_word (cond b (some k) none) ∷ []) ≡ not b
    by_test true = rw (ne_eqb (3 + k) 0 (λ e. omega arith))
    by_test false = refl
zero_open (lam b) d = zero_open b (suc d)
zero_open (app f a) d =
    list_any-append (λ w. eqb w 0) (code_under f d) (code_under a d) ∙ ap₂ (λ s t. s || t) (zero_open f d) (zero_open a d) ∙ not_both (is_closed_under d f) (is_closed_under d a)

closed_code : (t : Term) (d : ℕ) → is_closed_under d t ≡ true → code_under t d ≡ code_of t
unfolding code_under code_of
closed_code (var k) d e = rw e
closed_code (lam b) d e = ap (λ ws. 1 ∷ ws) (closed_code b (suc d) e)
closed_code (app f a) d e =
    let h = each (is_closed_under d f) (is_closed_under d a) e in
    ap₂ (λ ws vs. 2 ∷ (ws ++ vs)) (closed_code f d h.0) (closed_code a d h.1)

under_codes : (t : Term) → Codes (code_under t 0) (closed_only t)
under_codes t = by_test (is_closed_under 0 t) refl
  where
    by_test : (b : Bool) → is_closed_under 0 t ≡ b → Codes (code_under t 0) (cond b (some t) none)
    by_test true e = (closed_code t 0 e, (closed_exactly 0 t).0 e)
    by_test false e = zero_open t 0 ∙ ap not e

-- A text is read as a term exactly where a phrase of it takes all the bytes.
text_spelt : (text : List ℕ) (t : Term) → Begins [] text t [] → parse_numbers text ≡ some t
text_spelt text t b = (numbers_exactly text t).1 ((phrase_exactly text t).1 (sym (rw append-nil at b.spells)))

none_spelt : (text : List ℕ) → ((t : Term) → Begins [] text t [] → ⊥) → parse_numbers text ≡ none
unfolding digits_first
none_spelt text h = by_option (parse_numbers text) refl
  where
    by_option : (o : Option Term) → parse_numbers text ≡ o → o ≡ none
    by_option none e = refl
    by_option (some t) e =
        let same = (phrase_exactly text t).0 ((numbers_exactly text t).0 e) in
        absurd (h t record { spells = append-nil (number_text t) ∙ sym same; ends = refl })

pub no_phrase_read : (text : List ℕ) → NoPhrase [] text 0 → parse_numbers text ≡ none
no_phrase_read text x = none_spelt text (λ t b. x t [] b)

-- What was read from the text's start on.
module _ (text code code' : List ℕ) (p n : ℕ) (r : PhraseTo [] text 0 0 code 0 p n code') where
  pub bytes_left : p < length text → parse_numbers text ≡ none
  bytes_left h =
      none_spelt text (λ t b.
      let same = one_reading t r.value [] (drop p text) b.ends r.begins.ends (b.spells ∙ sym r.begins.spells) in
      omega (arith, ap length same.1, length-drop p text))

  pub numbers_coded : length text ≤ p → length text ≤ 3000 → 3000 ≤ length code → CodedTo (parse_numbers text) closed_only n code'
  numbers_coded h short room =
      let words = code_under r.value 0 in
      let left : drop p text ≡ [] = drop_of_length-le text h in
      let spelt : Begins [] text r.value [] = rw left at r.begins in
      let few : length words ≤ length text =
      omega (arith, code_size r.value 0, text_long r.value, ap length spelt.spells, length-append (number_text r.value) []) in
      record {
        value = r.value;
        is = text_spelt text r.value spelt;
        in_code = record {
          words = words;
          rest = drop (0 + length words) code;
          stands = r.wrote ∙ sets-eq words code 0 (omega arith);
          count = omega (arith, r.next);
          few = omega (arith, r.next);
          codes = under_codes r.value;
        };
      }

-- The numbers: 1, then 13, then 14 and 6.
module _ (text table : List ℕ) where
  pub too_long : most_bytes < length text → read_numbers_of text table ≡ refused 1 table
  unfolding read_numbers_of numbers_number
  too_long h = rw (lt-ltb most_bytes (length text) h)

  module _ (short : length text ≤ most_bytes) where
    pub no_phrase : parse_numbers text ≡ none → read_numbers_of text table ≡ refused 13 table
    unfolding read_numbers_of numbers_number
    no_phrase e = rw (le-ltb most_bytes (length text) short, e)

    pub a_phrase : (t : Term) → parse_numbers text ≡ some t → read_numbers_of text table ≡ answer_for 14 (closed_only t) table
    unfolding read_numbers_of numbers_number numbers_meant
    a_phrase t e = rw (le-ltb most_bytes (length text) short, e) (last_two 14 (closed_only t) table)
