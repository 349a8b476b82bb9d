-- What each function that reads the number dialect may answer, from what those that it calls answered.
use mathlib.Core.Path.{◌≡◌, refl, sym, ap, ap₂, ◌∙◌}
use mathlib.Core.Bool.{true, false, false≢true}
use mathlib.Core.Option.{none-ne-some}
use mathlib.Core.List.{List, [], ◌∷◌, ◌++◌, append_assoc}
use Prim.Native.Nat.{ℕ, suc, ◌+◌, ◌≤◌, ◌<◌}
use native.Mathlib.Numerals.{add-one}
use native.Mathlib.Omega.{arith}
use lib.ListN.{length, get_or, set, drop, length-append}
use lib.Seq.{drop-cons, get_or-drop}
use borrow.Author.Tests.{eq-eqb}
use Rattle.decimal.specs.Decimal.{decimal, value_after}
use Rattle.decimal.proofs.Decimal.{decimal_is, decimal_only}
use Rattle.term.specs.Term.{Term, var, lam, app}
use Rattle.term.proofs.Stores.{run_on}
use Rattle.text.specs.Bytes.{lambda, space}
use Rattle.text.specs.NumberGrammar.{at_sign, number_text}
use Rattle.text.specs.NumberParse.{after_byte, digits_first, is_number}
use Rattle.text.proofs.NumberParse.{digits_are, digits_then, digits_end, digits_found, space_ends, number_test, number_only, no_sign, one_reading}
use Rattle.reader.specs.Numbers.{word_under, code_under, Begins, NoPhrase, PhraseTo, PhraseRead}
use Rattle.std.specs.Prelude.{Some, None}
use Rattle.reader.specs.Types.{Got}
use Rattle.reader.proofs.Digits.{digits_within, digits_left}

-- A term's text by its first byte: after `\` a body,
no_number : (k b : ℕ) (s left : List ℕ) → 57 < b → decimal k ++ left ≡ b ∷ s → ⊥
no_number k b s left h e =
    let d = decimal_is k in
    none-ne-some s (sym (no_sign (decimal k) left b d.some_digit d.digits h) ∙ ap (after_byte b) e ∙ rw (eq-eqb b b refl))

inner_body : (t : Term) (s left : List ℕ) → Begins [] (lambda ∷ s) t left → (b : Term) × Begins (space ∷ []) s b left
unfolding number_text
inner_body (var k) s left x = absurd (no_number k lambda s left (omega arith) x.spells)
inner_body (lam b) s left x = (b, record { spells = ap (drop 1) x.spells; ends = x.ends })
inner_body (app f a) s left x = absurd (omega (arith, ap (λ l. get_or l 0 0) x.spells))

-- after `@` a function, and after that an argument,
record Sides (s left : List ℕ) : Type 0 where
  function : Term
  argument : Term
  spells : space ∷ (number_text function ++ (space ∷ (number_text argument ++ left))) ≡ s
  ends : digits_first left ≡ []

inner_sides : (t : Term) (s left : List ℕ) → Begins [] (at_sign ∷ s) t left → Sides s left
unfolding number_text
inner_sides (var k) s left x = absurd (no_number k at_sign s left (omega arith) x.spells)
inner_sides (lam b) s left x = absurd (omega (arith, ap (λ l. get_or l 0 0) x.spells))
inner_sides (app f a) s left x = record {
  function = f;
  argument = a;
  spells = ap (λ l. space ∷ l) (sym (append_assoc (number_text f) (space ∷ number_text a) left)) ∙ ap (drop 1) x.spells;
  ends = x.ends;
}

-- and else a number.
only_number : (t : Term) (s left : List ℕ) → Begins [] s t left → (get_or s 0 0 ≡ lambda → ⊥) → (get_or s 0 0 ≡ at_sign → ⊥) → (k : ℕ) × (decimal k ++ left ≡ s)
unfolding number_text
only_number (var k) s left x l a = (k, x.spells)
only_number (lam b) s left x l a = absurd (l (sym (ap (λ r. get_or r 0 0) x.spells)))
only_number (app f g) s left x l a = absurd (a (sym (ap (λ r. get_or r 0 0) x.spells)))

-- the bytes from a position on, by the first of them
first_byte : (text : List ℕ) (at : ℕ) → get_or (drop at text) 0 0 ≡ get_or text at 0
first_byte text at = let z : at + 0 ≡ at = omega arith in get_or-drop at text 0 0 ∙ ap (λ k. get_or text k 0) z

from_byte : (text : List ℕ) (at b : ℕ) → at < length text → get_or text at 0 ≡ b → drop at text ≡ b ∷ drop (at + 1) text
from_byte text at b h e = drop-cons text at 0 h ∙ ap₂ (λ c k. c ∷ drop k text) e (sym (add-one at))

module _ (text : List ℕ) (at depth : ℕ) (out : List ℕ) (node : ℕ) where
  -- An abstraction.
  module _ (h : at < length text) (e : get_or text at 0 ≡ lambda) where
    pub abstraction_read : (r : Got) (out' : List ℕ) → PhraseRead (space ∷ []) text (at + 1) (depth + 1) (set out node 1) (node + 1) r out'
        → PhraseRead [] text at depth out node r out'
    unfolding number_text code_under
    abstraction_read (Some (p, m)) out' x = record {
      value = lam x.value;
      begins = record { spells = ap (λ s. lambda ∷ s) x.begins.spells ∙ sym (from_byte text at lambda h e); ends = x.begins.ends };
      on = omega (arith, x.on);
      within = x.within;
      room = omega (arith, x.room);
      next = rw (← add-one depth) (omega (arith, x.next));
      wrote = rw (← add-one depth, ← add-one node) x.wrote;
    }
    abstraction_read None out' x = λ t left b.
        let i = inner_body t (drop (at + 1) text) left record { spells = b.spells ∙ from_byte text at lambda h e; ends = b.ends } in
        x i.0 left i.1

  -- An application.
  module _ (h : at < length text) (e : get_or text at 0 ≡ at_sign) where
    sides : (t : Term) (left : List ℕ) → Begins [] (drop at text) t left → Sides (drop (at + 1) text) left
    sides t left b = inner_sides t (drop (at + 1) text) left record { spells = b.spells ∙ from_byte text at at_sign h e; ends = b.ends }

    pub application_none : NoPhrase (space ∷ []) text (at + 1) → NoPhrase [] text at
    application_none x t left b =
        let s = sides t left b in
        x s.function (space ∷ (number_text s.argument ++ left)) record { spells = s.spells; ends = space_ends (number_text s.argument ++ left) }

    module _ (p m : ℕ) (out₁ : List ℕ) (f : PhraseTo (space ∷ []) text (at + 1) depth (set out node 2) (node + 1) p m out₁) where
      pub application_read : (r : Got) (out' : List ℕ) → PhraseRead (space ∷ []) text p depth out₁ m r out' → PhraseRead [] text at depth out node r out'
      unfolding number_text code_under
      application_read (Some (q, k)) out' a = record {
        value = app f.value a.value;
        begins = record {
          spells = ap (λ s. at_sign ∷ space ∷ s) (append_assoc (number_text f.value) (space ∷ number_text a.value) (drop q text) ∙ ap (λ s. number_text f.value ++ s) a.begins.spells)
              ∙ ap (λ s. at_sign ∷ s) f.begins.spells ∙ sym (from_byte text at at_sign h e);
          ends = a.begins.ends;
        };
        on = omega (arith, f.on, a.on);
        within = a.within;
        room = omega (arith, f.room, a.room);
        next = omega (arith, f.next, a.next, length-append (code_under f.value depth) (code_under a.value depth));
        wrote = run_on (set out node 2) out₁ out' (suc node) m (code_under f.value depth) (code_under a.value depth)
            (rw (← add-one node) f.wrote) (omega (arith, f.next)) a.wrote;
      }
      application_read None out' a = λ t left b.
          let s = sides t left b in
          let after = space ∷ (number_text s.argument ++ left) in
          let same = one_reading s.function f.value after (drop p text) (space_ends (number_text s.argument ++ left)) f.begins.ends (ap (drop 1) (s.spells ∙ sym f.begins.spells)) in
          a s.argument left record { spells = same.1; ends = s.ends }

  -- A number.
  module _ (end : ℕ) (within : at ≤ length text) (e : end ≡ at + length (digits_first (drop at text))) where
    abbrev digits : List ℕ
    digits = digits_first (drop at text)

    pub number_read : is_number digits ≡ true → (word : ℕ) → word ≡ word_under depth (value_after 0 digits)
        → PhraseTo [] text at depth out node end (node + 1) (set out node word)
    unfolding number_text code_under
    number_read n word w =
        let is = number_only digits (digits_are (drop at text)) n in
        record {
          value = var (value_after 0 digits);
          begins = record {
            spells = ap₂ (λ d s. d ++ s) (sym (decimal_only digits (value_after 0 digits) is)) (digits_left text at end within e) ∙ digits_then (drop at text);
            ends = ap digits_first (digits_left text at end within e) ∙ digits_end (drop at text);
          };
          on = omega (arith, e, is.some_digit);
          within = digits_within text at end within e;
          room = omega (arith, e, is.some_digit);
          next = refl;
          wrote = ap (λ x. set out node x) w;
        }

    pub number_none : is_number digits ≡ false → (get_or text at 0 ≡ lambda → ⊥) → (get_or text at 0 ≡ at_sign → ⊥)
        → NoPhrase [] text at
    number_none n l a t left b =
        let i = only_number t (drop at text) left b (λ z. l (sym (first_byte text at) ∙ z)) (λ z. a (sym (first_byte text at) ∙ z)) in
        let d = decimal_is i.0 in
        let found : digits ≡ decimal i.0 = ap digits_first (sym i.1) ∙ digits_found (decimal i.0) left d.digits b.ends in
        false≢true (sym n ∙ ap is_number found ∙ number_test (decimal i.0) i.0 d)
