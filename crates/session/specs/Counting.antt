-- Number 9 by counting alone: how many entries there are after the words of a slice, read from its low end.
use Rattle.std.specs.Prelude.{◌≡◌, Bool, true, false, ◌&&◌, cond, List, [], ◌∷◌, ℕ, ◌+◌, ◌-◌, eqb, Some, None}
use Rattle.std.specs.Prelude as Std
use Rattle.std.proofs.Math.Option.{Option, none, some}
use Rattle.term.specs.Choice.{◌>>=◌}
use Rattle.term.specs.Table.{Table, arity}
use Rattle.machine.specs.Slice.{makes_entry}

-- A variable's word takes the arity-many entries on top into its own; any other word makes none.
unfoldable pub count_entry : Table → ℕ → ℕ → Option ℕ
count_entry T v have = cond (makes_entry T v have) (some (have - arity T v + 1)) none

-- Where bullets may stand, the word 0 is one, and hides the entries under it.
abbrev pub is_bullet : Bool → ℕ → Bool
is_bullet bullets v = bullets && eqb v 0

unfoldable pub count_word : Bool → Table → ℕ → ℕ → Option ℕ
count_word bullets T v have = cond (is_bullet bullets v) (some 0) (count_entry T v have)

-- the entries on top of a list that had so many, down to a bullet or the end, once these words are put onto it
unfoldable pub have_words : Bool → Table → List ℕ → ℕ → Option ℕ
have_words bullets T [] have = some have
have_words bullets T (v ∷ ws) have = count_word bullets T v have >>= λ k. have_words bullets T ws k

abbrev pub have_log : Table → List ℕ → ℕ → Option ℕ
have_log T ws have = have_words false T ws have

abbrev pub have_tape : Table → List ℕ → ℕ → Option ℕ
have_tape T ws have = have_words true T ws have

-- what the code's count promises
abbrev pub CountIs : Option ℕ → Std.Option ℕ → Type 0
CountIs o (Some k) = o ≡ some k
CountIs o None = o ≡ none
