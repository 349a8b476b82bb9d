-- What the definitions share: the first test that applies, and choices by a test or an option.
use Rattle.std.specs.Prelude.{Bool, true, false, List, [], ◌∷◌}
use Rattle.std.proofs.Math.Option.{Option, none, some}

infix 12 ◌⇒◌
infixl 40 ◌>>=◌
-- A test, and what it names where it applies.
pub data Test (A : Type 0) : Type 0 where
  ◌⇒◌ : Bool → A → Test A

-- What the first test that applies names: document 01's "in this order", "in order of test".
abbrev pub first : {A : Type 0} → List (Test A) → Option A
first [] = none
first ((true ⇒ x) ∷ ts) = some x
first ((false ⇒ x) ∷ ts) = first ts

abbrev pub ◌>>=◌ : {A B : Type 0} → Option A → (A → Option B) → Option B
◌>>=◌ none f = none
◌>>=◌ (some a) f = f a

abbrev pub is_none : {A : Type 0} → Option A → Bool
is_none none = true
is_none (some a) = false

-- A choice whose arms wait, so that a recursion stops where its test says.
abbrev pub choose : {A : Type 0} → Bool → (Unit {0} → A) → (Unit {0} → A) → A
choose true a b = a tt
choose false a b = b tt

abbrev pub if_some : {A B : Type 0} → Option A → (A → B) → (Unit {0} → B) → B
if_some none f b = b tt
if_some (some a) f b = f a
