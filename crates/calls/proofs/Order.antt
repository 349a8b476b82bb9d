-- Tests in a row: what the first that applies of two lists names, and what holds of all that a list names.
use mathlib.Core.Path.{◌≡◌, refl, subst}
use mathlib.Core.Bool.{true, false}
use mathlib.Core.Option.{some, some-injective, none-ne-some}
use mathlib.Core.List.{List, [], ◌∷◌, ◌++◌}
use Rattle.term.specs.Choice.{Test, ◌⇒◌, first, if_some}

pub first_of_both : {A : Type 0} (xs ys : List (Test A)) → first (xs ++ ys) ≡ if_some (first xs) (λ x. some x) (λ _. first ys)
first_of_both [] ys = refl
first_of_both ((true ⇒ x) ∷ xs) ys = refl
first_of_both ((false ⇒ x) ∷ xs) ys = first_of_both xs ys

abbrev pub AllName : {A : Type 0} → (A → Type 0) → List (Test A) → Type 0
AllName P [] = Unit
AllName P ((b ⇒ x) ∷ ts) = P x × AllName P ts

pub first_names : {A : Type 0} (P : A → Type 0) (ts : List (Test A)) → AllName P ts → (x : A) → first ts ≡ some x → P x
first_names P [] h x e = absurd (none-ne-some x e)
first_names P ((true ⇒ y) ∷ ts) h x e = subst P (some-injective y x e) h.0
first_names P ((false ⇒ y) ∷ ts) h x e = first_names P ts h.1 x e
