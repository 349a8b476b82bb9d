-- The next token of a text from a position on: a sign, a name or none.
use mathlib.Core.Path.{◌≡◌, refl, sym, ap, ◌∙◌}
use mathlib.Core.Logic.{⊎_elim}
use mathlib.Core.Bool.{true, false}
use mathlib.Core.Option.{none, some}
use mathlib.Core.List.{List, [], ◌∷◌}
use Prim.Native.Nat.{ℕ, zero, suc, ◌+◌, ◌≤◌, ◌<◌}
use native.Mathlib.Nat.{add-zero}
use native.Mathlib.Omega.{arith}
use lib.ListN.{length, drop, get_or, length-drop, get_or-eq_default}
use lib.Seq.{drop-drop, get_or-drop}
use lib.Dec.{eqb}
use borrow.Author.Tests.{eq-eqb, ne_eqb}
use Rattle.text.specs.Bytes.{sign, class_of, in_name, opening}
use Rattle.text.specs.Tokens.{tokens}
use Rattle.text.specs.Parse.{after_mark, name_first, starts_atom}
use Rattle.reader.specs.Scanning.{name_run, gap_run}
use Rattle.reader.specs.Token.{tokens_from, MarkTo, NameTo}
use Rattle.text.proofs.Tokens.{tokens_nil, tokens_mark}
use Rattle.reader.proofs.Scanning.{gap_fits, name_fits, skip_tokens, no_gap, name_tokens, first_token}

-- A text that begins with no gap: its first token, by its first byte or its first name.
mark_found : (b : ℕ) (s : List ℕ) → class_of b ≡ sign → get_or s 0 0 ≡ b → 1 ≤ length s → after_mark b (tokens s) ≡ some (tokens (drop 1 s))
mark_found b [] k e l = absurd (omega arith)
mark_found b (c ∷ s) k e l = rw (tokens_mark c s (ap class_of e ∙ k), eq-eqb c b e)

mark_missing : (b : ℕ) (s : List ℕ) → gap_run s ≡ 0 → (get_or s 0 0 ≡ b → ⊥) → after_mark b (tokens s) ≡ none
mark_missing b [] g n = rw tokens_nil
mark_missing b (c ∷ s) g n =
    ⊎_elim (λ h. rw (name_tokens (c ∷ s) h.1)) (λ h. rw (tokens_mark c s h.1, ne_eqb c b n)) (first_token (c ∷ s) g)

name_missing : (s : List ℕ) → gap_run s ≡ 0 → name_run s ≡ 0 → name_first (tokens s) ≡ none
name_missing [] g n = rw tokens_nil
name_missing (c ∷ s) g n =
    ⊎_elim (λ h. absurd (omega arith)) (λ h. rw (tokens_mark c s h.1)) (first_token (c ∷ s) g)

name_starts_atom : (s : List ℕ) → gap_run s ≡ 0 → in_name (class_of (get_or s 0 0)) ≡ true → starts_atom (tokens s) ≡ true
unfolding class_of
name_starts_atom [] g h = cc
name_starts_atom (c ∷ s) g h =
    ⊎_elim (λ i. rw (name_tokens (c ∷ s) i.1)) (λ i. let z : ◌≡◌ {A = ℕ} 0 1 = cc in absurd (omega arith)) (first_token (c ∷ s) g)

sign_starts_atom : (s : List ℕ) → gap_run s ≡ 0 → in_name (class_of (get_or s 0 0)) ≡ false → starts_atom (tokens s) ≡ eqb (get_or s 0 0) opening
sign_starts_atom [] g h = rw tokens_nil
sign_starts_atom (c ∷ s) g h =
    ⊎_elim (λ i. let z : ◌≡◌ {A = ℕ} 0 1 = cc in absurd (omega arith)) (λ i. rw (tokens_mark c s i.1)) (first_token (c ∷ s) g)

-- a sign is not 0
sign_some : (b : ℕ) → class_of b ≡ sign → 1 ≤ b
unfolding class_of
sign_some zero e = let z : ◌≡◌ {A = ℕ} 0 1 = cc in absurd (omega arith)
sign_some (suc b) e = omega arith

-- The same from a position on, at the token that follows the gap there.
module _ (text : List ℕ) (at i : ℕ) (skipped : i ≡ at + gap_run (drop at text)) where
  text_behind : drop i text ≡ drop (gap_run (drop at text)) (drop at text)
  text_behind = rw skipped (sym (drop-drop (gap_run (drop at text)) at text))

  same_tokens : tokens_from text i ≡ tokens_from text at
  same_tokens = ap tokens text_behind ∙ skip_tokens (drop at text)

  gap_passed : gap_run (drop i text) ≡ 0
  gap_passed = rw text_behind (no_gap (drop at text))

  first_byte : get_or (drop i text) 0 0 ≡ get_or text i 0
  first_byte = get_or-drop i text 0 0 ∙ rw add-zero

  pub skip_fits : at ≤ length text → i ≤ length text
  skip_fits h = omega (arith, gap_fits (drop at text), length-drop at text)

  pub after_found : (b : ℕ) → class_of b ≡ sign → i < length text → get_or text i 0 ≡ b → MarkTo b text at (i + 1)
  after_found b k l h = record {
    is = ap (after_mark b) (sym same_tokens) ∙ mark_found b (drop i text) k (first_byte ∙ h) (omega (arith, length-drop i text)) ∙ rw (drop-drop 1 i text);
    on = omega arith;
    within = omega arith;
  }

  pub after_missing : (b : ℕ) → (get_or text i 0 ≡ b → ⊥) → after_mark b (tokens_from text at) ≡ none
  after_missing b n = ap (after_mark b) (sym same_tokens) ∙ mark_missing b (drop i text) gap_passed (λ h. n (sym first_byte ∙ h))

  pub after_end : (b : ℕ) → class_of b ≡ sign → length text ≤ i → after_mark b (tokens_from text at) ≡ none
  after_end b k l = after_missing b (λ h. omega (arith, get_or-eq_default text 0 l, sign_some b k, h))

  pub first_found : (end : ℕ) → at ≤ length text → end ≡ i + name_run (drop i text) → i < end → NameTo text at i end
  first_found end w e h = record {
    is = ap name_first (sym same_tokens) ∙ rw (name_tokens (drop i text) (omega arith), drop-drop (name_run (drop i text)) i text, ← e);
    on = omega arith;
    within = omega (arith, name_fits (drop i text), length-drop i text, skip_fits w);
    stands = skip_fits w;
  }

  pub first_missing : (end : ℕ) → end ≡ i + name_run (drop i text) → end ≤ i → name_first (tokens_from text at) ≡ none
  first_missing end e h = ap name_first (sym same_tokens) ∙ name_missing (drop i text) gap_passed (omega arith)

  pub starts_named : (b : ℕ) → b ≡ get_or text i 0 → in_name (class_of b) ≡ true → true ≡ starts_atom (tokens_from text at)
  starts_named b e h =
      let g : in_name (class_of (get_or (drop i text) 0 0)) ≡ true = rw (first_byte, ← e) h in
      sym (name_starts_atom (drop i text) gap_passed g) ∙ ap starts_atom same_tokens

  pub starts_sign : (b : ℕ) → b ≡ get_or text i 0 → in_name (class_of b) ≡ false → eqb b opening ≡ starts_atom (tokens_from text at)
  starts_sign b e h =
      let g : in_name (class_of (get_or (drop i text) 0 0)) ≡ false = rw (first_byte, ← e) h in
      ap (λ (c : ℕ). eqb c opening) (e ∙ sym first_byte) ∙ sym (sign_starts_atom (drop i text) gap_passed g) ∙ ap starts_atom same_tokens

  pub starts_end : length text ≤ i → false ≡ starts_atom (tokens_from text at)
  unfolding class_of
  starts_end l = starts_sign 0 (sym (get_or-eq_default text 0 l)) refl
