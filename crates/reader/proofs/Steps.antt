-- The steps of a reading make up the whole: numbers 1 to 3, then number 4, then what is answered to a tree.
use mathlib.Core.Path.{◌≡◌, refl, sym, ap, ◌∙◌}
use mathlib.Core.Bool.{Bool, true, false}
use mathlib.Core.Option.{none, some, get_or}
use mathlib.Core.List.{List, [], ◌∷◌}
use Prim.Native.Nat.{ℕ, ◌≤◌}
use native.Mathlib.Omega.{arith}
use lib.ListN.{length}
use lib.Dec.{ltb}
use borrow.Author.Tests.{ltb-false}
use Rattle.term.specs.Choice.{Test, ◌⇒◌, first, is_none}
use Rattle.text.specs.Tokens.{tokens, any_bad_name}
use Rattle.text.specs.Grammar.{Phrase, phrase_tree}
use Rattle.text.specs.Parse.{parse}
use Rattle.text.specs.Binding.{nameless}
use Rattle.text.specs.Reading.{most_bytes, any_foreign, meant, too_short, reader_number, refused, answer, read_of}
use Rattle.reader.specs.Answering.{answer_for}
use Rattle.reader.specs.Steps.{spelling_number}
use Rattle.reader.proofs.Answering.{last_two}

-- Numbers 1 to 3: they come first, and where none of them applies the others are left.
abbrev first_three : Bool → Bool → Bool → List (Test ℕ) → List (Test ℕ)
first_three a b c ts = (a ⇒ 1) ∷ (b ⇒ 2) ∷ (c ⇒ 3) ∷ ts

first_of_three : (a b c : Bool) (ts : List (Test ℕ)) (k : ℕ) → k ≡ get_or (first (first_three a b c [])) 0 → (k ≡ 0 → ⊥)
    → first (first_three a b c ts) ≡ some k
first_of_three true b c ts k e n = ap some (sym e)
first_of_three false true c ts k e n = ap some (sym e)
first_of_three false false true ts k e n = ap some (sym e)
first_of_three false false false ts k e n = absurd (n e)

none_of_three : (a b c : Bool) (ts : List (Test ℕ)) → ◌≡◌ {A = ℕ} 0 (get_or (first (first_three a b c [])) 0)
    → (a ≡ false) × (first (first_three a b c ts) ≡ first ts)
none_of_three true b c ts e = absurd (omega arith)
none_of_three false true c ts e = absurd (omega arith)
none_of_three false false true ts e = absurd (omega arith)
none_of_three false false false ts e = (refl, refl)

module _ (text table : List ℕ) where
  pub misspelled : (k : ℕ) → k ≡ spelling_number text → (k ≡ 0 → ⊥) → read_of text table ≡ refused k table
  unfolding read_of reader_number spelling_number
  misspelled k e n =
      ap (λ o. answer o (meant text) table) (first_of_three (ltb most_bytes (length text)) (any_foreign text) (any_bad_name (tokens text)) _ k e n)

  pub few_bytes : 0 ≡ spelling_number text → length text ≤ most_bytes
  unfolding spelling_number
  few_bytes e = ltb-false most_bytes (length text) (none_of_three (ltb most_bytes (length text)) (any_foreign text) (any_bad_name (tokens text)) [] e).0

  -- the other three, by what is parsed
  abbrev other_three : List (Test ℕ)
  other_three = (is_none (parse (tokens text)) ⇒ 4) ∷ (is_none (meant text) ⇒ 5) ∷ (too_short (meant text) table ⇒ 6) ∷ []

  other_three_lem : 0 ≡ spelling_number text → read_of text table ≡ answer (first other_three) (meant text) table
  unfolding read_of reader_number spelling_number
  other_three_lem e =
      ap (λ o. answer o (meant text) table) (none_of_three (ltb most_bytes (length text)) (any_foreign text) (any_bad_name (tokens text)) other_three e).1

  pub no_term : 0 ≡ spelling_number text → parse (tokens text) ≡ none → read_of text table ≡ refused 4 table
  no_term e n = other_three_lem e ∙ rw n

  pub a_phrase : 0 ≡ spelling_number text → (p : Phrase) → parse (tokens text) ≡ some p → read_of text table ≡ answer_for 5 (nameless (phrase_tree p) []) table
  unfolding meant
  a_phrase e p h = other_three_lem e ∙ rw h (last_two 5 (nameless (phrase_tree p) []) table)
