-- What reading tokens or bytes gives: what was read, and what is left.
use Rattle.std.specs.Prelude.{Bool, true, false, cond, List, [], ◌∷◌}
use Rattle.std.proofs.Math.Option.{Option, none, some}

pub record Parsed (A B : Type 0) : Type 0 where
  pub value : A
  pub left : List B

abbrev pub parsed : {A B : Type 0} → A → List B → Parsed A B
parsed a s = record { value = a; left = s }

abbrev pub is_empty : {B : Type 0} → List B → Bool
is_empty [] = true
is_empty (b ∷ s) = false

-- what was read, where nothing is left
abbrev pub whole : {A B : Type 0} → Parsed A B → Option A
whole p = cond (is_empty p.left) (some p.value) none
