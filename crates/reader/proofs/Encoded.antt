-- From a phrase that was read to its code.
use mathlib.Core.Path.{◌≡◌, refl, sym, ap, ◌∙◌}
use mathlib.Core.Logic.{inl, inr}
use mathlib.Core.Bool.{false}
use mathlib.Core.Option.{none, some}
use mathlib.Core.List.{List, [], ◌∷◌}
use Prim.Native.Nat.{ℕ, ◌+◌, ◌≤◌, ◌<◌}
use native.Mathlib.Omega.{arith}
use lib.ListN.{length, drop, drop_of_length-le, length-drop}
use lib.Seq.{sets, sets-eq}
use Rattle.text.specs.Tokens.{tokens}
use Rattle.text.specs.Grammar.{phrase_tree}
use Rattle.text.specs.Parsed.{is_empty}
use Rattle.text.specs.Parse.{phrase_from, parse}
use Rattle.text.specs.Binding.{nameless}
use Rattle.reader.specs.Scanning.{gap_run, names_at}
use Rattle.reader.specs.Grammar.{tree_code, phrase_code, cursor, ReadTo}
use Rattle.reader.specs.Steps.{CodedTo}
use Rattle.text.proofs.Tokens.{tokens_nil, tokens_mark}
use Rattle.text.proofs.Parse.{parse_exactly}
use Rattle.text.proofs.Size.{few_nodes}
use Rattle.reader.proofs.Scanning.{skip_tokens, no_gap, FirstToken, first_token, name_tokens}
use Rattle.reader.proofs.Nameless.{tree_code_length, tree_codes}

-- A text has no token exactly where it is a gap.
nothing_left : (s : List ℕ) → length s ≤ gap_run s → tokens s ≡ []
nothing_left s h = sym (skip_tokens s) ∙ ap tokens (drop_of_length-le s h) ∙ tokens_nil

first_left : (s : List ℕ) → 1 ≤ length s → FirstToken s → is_empty (tokens s) ≡ false
first_left [] h f = absurd (omega arith)
first_left (b ∷ s) h (inl x) = ap is_empty (name_tokens (b ∷ s) x.1)
first_left (b ∷ s) h (inr x) = ap is_empty (tokens_mark b s x.1)

something_left : (s : List ℕ) → gap_run s < length s → is_empty (tokens s) ≡ false
something_left s h =
    ap is_empty (sym (skip_tokens s))
    ∙ first_left (drop (gap_run s) s) (omega (arith, length-drop (gap_run s) s)) (first_token (drop (gap_run s) s) (no_gap s))

pub text_not : (text : List ℕ) → phrase_from (tokens text) ≡ none → parse (tokens text) ≡ none
unfolding parse
text_not text e = rw e

-- What was read from the text's start on: the whole text spells it if nothing is left, and no term else.
module _ (text scope code scope' code' : List ℕ) (p n end : ℕ)
    (r : ReadTo phrase_from phrase_code (cursor text 0 scope 0 code 0) p n 1 scope' code') (e : end ≡ p + gap_run (drop p text)) where
  pub text_left : end < length text → parse (tokens text) ≡ none
  unfolding parse
  text_left h = rw r.is (rw (something_left (drop p text) (omega (arith, length-drop p text))) refl)

  text_is : length text ≤ end → parse (tokens text) ≡ some r.value
  unfolding parse
  text_is h = rw r.is (rw (nothing_left (drop p text) (omega (arith, length-drop p text))) refl)

  abbrev code_words : List ℕ
  code_words = tree_code (phrase_tree r.value) []

  words_next : n ≡ 0 + length code_words
  unfolding names_at
  words_next = r.next

  words_wrote : code' ≡ sets code 0 code_words
  unfolding names_at
  words_wrote = r.wrote

  pub text_coded : length text ≤ end → length text ≤ 3000 → 6000 ≤ length code → CodedTo (parse (tokens text)) (λ p. nameless (phrase_tree p) []) n code'
  text_coded h short room =
      let few : length code_words ≤ length text =
      omega (arith, tree_code_length (phrase_tree r.value) [], few_nodes text r.value ((parse_exactly (tokens text) r.value).0 (text_is h))) in
      record {
        value = r.value;
        is = text_is h;
        in_code = record {
          words = code_words;
          rest = drop (0 + length code_words) code;
          stands = words_wrote ∙ sets-eq code_words code 0 (omega arith);
          count = omega (arith, words_next);
          few = omega (arith, words_next);
          codes = tree_codes (phrase_tree r.value);
        };
      }
