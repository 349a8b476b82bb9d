-- The numbers of a run in their order: 7, then 16.
use mathlib.Core.Path.{◌≡◌, refl, sym, ap, ◌∙◌}
use mathlib.Core.Logic.{◌↔◌}
use mathlib.Core.Bool.{Bool, true, false, not}
use mathlib.Core.Option.{Option, none, some, none-ne-some, some-injective}
use mathlib.Core.List.{List, [], ◌∷◌}
use Prim.Native.Nat.{ℕ, ◌≤◌, ◌<◌}
use native.Mathlib.Omega.{arith}
use lib.ListN.{length}
use lib.Dec.{ltb}
use borrow.Author.Tests.{lt-ltb, le-ltb, ltb-true}
use Rattle.term.specs.Choice.{◌⇒◌, first}
use Rattle.term.specs.Table.{table_in}
use Rattle.term.specs.Accepted.{Accepted, accepted}
use Rattle.term.proofs.Accepted.{accepts_all, accepts_only}
use Rattle.kam.specs.Runs.{start_moment, run_from, most_words, run_number, refused_run, run_by, run_of}

-- by what the two tests say
number_by : (a b : Bool) → Option ℕ
number_by a b = first ((not a ⇒ 7) ∷ (b ⇒ 16) ∷ [])

module _ (w : List ℕ) (n : ℕ) (records : List ℕ) where
  number_is : run_number w n records ≡ number_by (accepted w n) (ltb most_words (length records))
  unfolding run_number number_by
  number_is = refl

  module _ (count : ℕ) where
    by_number : (o : Option ℕ) → run_number w n records ≡ o → run_by o w n records count ≡ run_of w n records count
    unfolding run_of
    by_number o e = ap (λ q. run_by q w n records count) (sym e)

    pub run_seven : accepted w n ≡ false → refused_run 7 records ≡ run_of w n records count
    unfolding number_by
    run_seven e = by_number (some 7) (number_is ∙ ap (λ a. number_by a (ltb most_words (length records))) e)

    pub run_sixteen : accepted w n ≡ true → most_words < length records → refused_run 16 records ≡ run_of w n records count
    unfolding number_by
    run_sixteen e l = by_number (some 16)
        (number_is ∙ ap (λ a. number_by a (ltb most_words (length records))) e ∙ ap (number_by true) (lt-ltb most_words (length records) l))

    pub run_unrefused : accepted w n ≡ true → length records ≤ most_words → run_from (table_in w n) count (start_moment records) ≡ run_of w n records count
    unfolding number_by
    run_unrefused e l = by_number none
        (number_is ∙ ap (λ a. number_by a (ltb most_words (length records))) e ∙ ap (number_by true) (le-ltb most_words (length records) l))

  -- 16 is said exactly where 7 is not and the slice is over 16,383 words.
  sixteen_by : (a b : Bool) → number_by a b ≡ some 16 → (a ≡ true) × (b ≡ true)
  unfolding number_by
  sixteen_by true true e = (refl, refl)
  sixteen_by true false e = absurd (none-ne-some 16 e)
  sixteen_by false b e = let z : ◌≡◌ {A = ℕ} 7 16 = some-injective 7 16 e in absurd (omega arith)

  pub sixteen_exactly : (run_number w n records ≡ some 16) ↔ (Accepted w n × (most_words < length records))
  unfolding number_by
  sixteen_exactly = (
    λ e.
        let p = sixteen_by (accepted w n) (ltb most_words (length records)) (sym number_is ∙ e) in
        (accepts_only w n p.0, ltb-true most_words (length records) p.1),
    λ h.
        number_is
        ∙ ap (λ a. number_by a (ltb most_words (length records))) (accepts_all w n h.0)
        ∙ ap (number_by true) (lt-ltb most_words (length records) h.1),
  )

  -- a slice of 16,383 words is not over 16,383, and one of a word more is
  pub longest_passes : Accepted w n → length records ≡ 16383 → run_number w n records ≡ none
  unfolding number_by
  longest_passes A l =
      number_is ∙ ap (λ a. number_by a (ltb most_words (length records))) (accepts_all w n A) ∙ ap (number_by true) (le-ltb most_words (length records) (omega arith))

  pub longer_refused : Accepted w n → length records ≡ 16384 → run_number w n records ≡ some 16
  longer_refused A l = sixteen_exactly.1 (A, omega arith)
