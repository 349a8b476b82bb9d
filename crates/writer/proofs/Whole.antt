-- The text of a whole table, put from the first byte on: that there is room for it, what `write_in` measures, and what it leaves.
use mathlib.Core.Path.{◌≡◌, sym, ap, ◌∙◌}
use mathlib.Core.Bool.{false}
use mathlib.Core.List.{List, [], ◌++◌}
use Prim.Native.Nat.{ℕ, ◌≤◌, ◌<◌}
use native.Mathlib.Omega.{arith}
use lib.ListN.{length}
use borrow.Author.Tests.{lt-ltb, le-ltb}
use Rattle.term.specs.Accepted.{Accepted, accepted}
use Rattle.term.proofs.Accepted.{term_size, accepted_rows}
use Rattle.text.specs.Reading.{most_bytes}
use Rattle.text.specs.Written.{text_of}
use Rattle.text.specs.Writing.{refused}
use Rattle.text.specs.Dialects.{Dialect, names, text_in, write_in}
use Rattle.text.proofs.Names.{text_short}
use Rattle.text.proofs.Writing.{writes_seven, writes_eleven, writes_text}
use Rattle.text.proofs.Dialects.{write_in_lem}
use Rattle.writer.specs.Putting.{Puttable, PartPut, TextPut}
use Rattle.writer.proofs.Putting.{put_nothing, put_whole}

-- with names
module _ (w : List ℕ) (n : ℕ) where
  pub whole_puttable : (A : Accepted w n) → Puttable w n 1 false 0 A.term []
  unfolding text_of
  whole_puttable A =
      let size_is = term_size w n A in
      record {
        stood = record { parent = 0; level = 0; rows = accepted_rows w n A; last = omega arith };
        short = omega (arith, A.few_nodes, text_short A.term A.closed (omega (arith, A.few_nodes)));
      }

  pub names_put : {o : List ℕ} {r : ℕ} {o' : List ℕ} → PartPut w n 1 false 0 o r o' → TextPut names w n o r o'
  unfolding text_of
  names_put x A = x A.term [] (whole_puttable A)

-- in either dialect
pub no_table : (d : Dialect) (w : List ℕ) (n : ℕ) (text : List ℕ) → accepted w n ≡ false → refused 7 text ≡ write_in d w n text
no_table d w n text e = sym (write_in_lem d w n text ∙ writes_seven (text_in d) w n text e)

module _ (d : Dialect) (w : List ℕ) (n : ℕ) (A : Accepted w n) where
  abbrev term_text : List ℕ
  term_text = text_in d A.term

  -- put into none of the bytes: its length, and every byte as it was
  pub measured : {r : ℕ} {ys : List ℕ} → TextPut d w n [] r ys → r ≡ length term_text
  measured x = omega (arith, (x A).next)

  pub untouched : {r : ℕ} {ys : List ℕ} (text : List ℕ) → TextPut d w n [] r ys → ys ++ text ≡ text
  untouched text x = ap (λ (s : List ℕ). s ++ text) (put_nothing (x A))

  module _ (text : List ℕ) (len : ℕ) (len_is : len ≡ length term_text) where
    pub too_long : most_bytes < len → refused 11 text ≡ write_in d w n text
    too_long h = sym (write_in_lem d w n text ∙ writes_eleven (text_in d) w n text A (rw (lt-ltb most_bytes (length term_text) (omega arith))))

    pub too_much : len ≤ most_bytes → length text < len → refused 11 text ≡ write_in d w n text
    too_much l h =
        sym (write_in_lem d w n text ∙ writes_eleven (text_in d) w n text A (rw (le-ltb most_bytes (length term_text) (omega arith), lt-ltb (length text) (length term_text) (omega arith))))

    pub fitting : {r : ℕ} {text' : List ℕ} → len ≤ most_bytes → len ≤ length text → TextPut d w n text r text'
        → record { len = len; refusal = 0; text = text' } ≡ write_in d w n text
    fitting {r} {text'} l h x =
        let e = put_whole text term_text r text' (omega arith) (x A) in
        rw (e, len_is)
        (sym (write_in_lem d w n text ∙ writes_text (text_in d) w n text A (rw (le-ltb most_bytes (length term_text) (omega arith), le-ltb (length text) (length term_text) (omega arith)))))
