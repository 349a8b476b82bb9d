-- The tests of number 9, word by word from the low end of a slice.
use mathlib.Core.Path.{◌≡◌, refl, sym, ap, ◌∙◌}
use mathlib.Core.Bool.{Bool, true, false, cond, and-false}
use mathlib.Core.Option.{Option, none, some, some-ne-none, some-injective}
use mathlib.Core.List.{List, [], ◌∷◌}
use Prim.Native.Nat.{ℕ, zero, suc, ◌+◌, ◌-◌, ◌≤◌, ◌<◌}
use native.Mathlib.Numerals.{add-one}
use native.Mathlib.Omega.{arith}
use lib.ListN.{length, take, drop, get_or, length-drop, drop_of_length-le}
use lib.Seq.{drop-cons, take_all}
use lib.Dec.{eqb}
use borrow.Author.Tests.{eq-eqb, ne_eqb, le-leb, lt-leb}
use Rattle.std.specs.Prelude as Std
use Rattle.std.specs.Prelude.{Some, None, MatchBool}
use Rattle.std.specs.List.{AllWithin, HoldsAt}
use Rattle.term.specs.Choice.{◌>>=◌, if_some}
use Rattle.term.specs.Table.{Table, arity, kind_at, is_variable}
use Rattle.term.specs.Kinds.{kind_meant}
use Rattle.term.specs.declared.kinds.Kind.{Kind}
use Rattle.term.specs.declared.kinds.Kind.TheVariants.{Variable, Abstraction, Application}
use Rattle.machine.specs.Slice.{makes_entry, all_zero}
use Rattle.session.specs.Counting.{count_entry, is_bullet, count_word, have_words}

-- the word at i, and the words after it
pub next_word : (s : List ℕ) (i : ℕ) → i < length s → drop i s ≡ get_or s i 0 ∷ drop (i + 1) s
next_word s i h = rw (add-one, drop-cons s i 0)

-- what is said of every word, or of one that is not 0, said of the list
every_zero : (s : List ℕ) → AllWithin (λ x. x ≡ 0) s 0 (length s) → all_zero s ≡ true
unfolding all_zero
every_zero [] h = refl
every_zero (x ∷ s) h = rw (eq-eqb x 0 (h 0 0 (omega arith) (omega arith))) (every_zero s (λ k d a b. h (suc k) d (omega arith) (omega arith)))

some_other : (s : List ℕ) (k : ℕ) → k < length s → HoldsAt (λ x. x ≡ 0 → ⊥) s k → all_zero s ≡ false
unfolding all_zero
some_other [] k l h = absurd (omega arith)
some_other (x ∷ s) zero l h = rw (ne_eqb x 0 (h 0))
some_other (x ∷ s) (suc k) l h = rw (some_other s k (omega arith) h, and-false (eqb x 0))

pub zeros_told : (s : List ℕ) (r : Bool) → MatchBool r (AllWithin (λ x. x ≡ 0) s 0 (length s)) ((k : ℕ) × (k < length s) × HoldsAt (λ x. x ≡ 0 → ⊥) s k) → r ≡ all_zero s
zeros_told s true h = sym (every_zero s h)
zeros_told s false h = sym (some_other s h.0 h.1 h.2)

-- what is said of the part of a slice that is lent from k on
pub zeros_past : (s : List ℕ) (k : ℕ) {r b : Bool} → r ≡ all_zero (take (length s - k) (drop k s)) → r ≡ b → all_zero (drop k s) ≡ b
zeros_past s k e t = ap all_zero (sym (take_all (length s - k) (drop k s) (omega (arith, length-drop k s)))) ∙ sym e ∙ t

-- what is said of a count and a level, said of the level in the table
pub counted_to : (o : Option ℕ) (v u : ℕ) {r b : Bool} → v ≡ u → r ≡ if_some o (λ k. eqb k v) (λ _. false) → r ≡ b → if_some o (λ k. eqb k u) (λ _. false) ≡ b
counted_to o v u e p q = ap (λ m. if_some o (λ k. eqb k m) (λ _. false)) (sym e) ∙ sym p ∙ q

-- Every kind but one is no variable.
pub other_kind : (o : Std.Option Kind) → (o ≡ Some Variable → ⊥) → is_variable (kind_meant o) ≡ false
other_kind None e = refl
other_kind (Some Variable) e = absurd (e refl)
other_kind (Some Abstraction) e = refl
other_kind (Some Application) e = refl

module _ (T : Table) where
  -- what a word counts, by the table
  module _ (v have : ℕ) where
    pub count_other : is_variable (kind_at T v) ≡ false → count_entry T v have ≡ none
    unfolding count_entry
    count_other z = rw z

    module _ (e : is_variable (kind_at T v) ≡ true) where
      pub count_few : have < arity T v → count_entry T v have ≡ none
      unfolding count_entry
      count_few h = rw (e, lt-leb (arity T v) have h)

      pub count_entry_lem : arity T v ≤ have → count_entry T v have ≡ some (have - arity T v + 1)
      unfolding count_entry
      count_entry_lem h = rw (e, le-leb (arity T v) have h)

  -- A word makes one entry at most.
  pub count_most : (v have k : ℕ) → count_entry T v have ≡ some k → k ≤ have + 1
  unfolding count_entry
  count_most v have k = by_test (makes_entry T v have)
    where
      by_test : (b : Bool) → cond b (some (have - arity T v + 1)) none ≡ some k → k ≤ have + 1
      by_test true e = let same : have - arity T v + 1 ≡ k = some-injective _ _ e in omega arith
      by_test false e = absurd (some-ne-none k (sym e))

  module _ (bullets : Bool) (ws : List ℕ) (i have : ℕ) where
    pub words_end : length ws ≤ i → have_words bullets T (drop i ws) have ≡ some have
    unfolding have_words
    words_end h = rw (drop_of_length-le ws h)

    module _ (h : i < length ws) where
      words_next : have_words bullets T (drop i ws) have ≡ (count_word bullets T (get_or ws i 0) have >>= λ k. have_words bullets T (drop (i + 1) ws) k)
      unfolding have_words
      words_next = rw (next_word ws i h)

      pub words_bullet : is_bullet bullets (get_or ws i 0) ≡ true → have_words bullets T (drop i ws) have ≡ have_words bullets T (drop (i + 1) ws) 0
      unfolding count_word
      words_bullet z = words_next ∙ ap (λ b. cond b (some 0) (count_entry T (get_or ws i 0) have) >>= λ k. have_words bullets T (drop (i + 1) ws) k) z

      module _ (z : is_bullet bullets (get_or ws i 0) ≡ false) where
        words_entry : have_words bullets T (drop i ws) have ≡ (count_entry T (get_or ws i 0) have >>= λ k. have_words bullets T (drop (i + 1) ws) k)
        unfolding count_word
        words_entry = words_next ∙ ap (λ b. cond b (some 0) (count_entry T (get_or ws i 0) have) >>= λ k. have_words bullets T (drop (i + 1) ws) k) z

        pub words_stop : count_entry T (get_or ws i 0) have ≡ none → have_words bullets T (drop i ws) have ≡ none
        words_stop e = rw (words_entry, e)

        pub words_more : (k : ℕ) → count_entry T (get_or ws i 0) have ≡ some k → have_words bullets T (drop i ws) have ≡ have_words bullets T (drop (i + 1) ws) k
        words_more k e = rw (words_entry, e)
