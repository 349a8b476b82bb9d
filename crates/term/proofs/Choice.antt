-- What a test that passes and an option that answers say of their parts.
use mathlib.Core.Path.{◌≡◌, refl, ap, ◌∙◌}
use mathlib.Core.Bool.{Bool, true, false, not, ◌&&◌, cond, true≢false, false≢true}
use mathlib.Core.Option.{Option, none, some, none-ne-some}
use Rattle.term.specs.Choice.{◌>>=◌, is_none}

pub both : (a b : Bool) → a ≡ true → b ≡ true → a && b ≡ true
both a b p q = ap (λ c. c && b) p ∙ q

pub each : (a b : Bool) → a && b ≡ true → (a ≡ true) × (b ≡ true)
each true b e = (refl, e)
each false b e = absurd (false≢true e)

pub fails : (b : Bool) → (b ≡ true → ⊥) → b ≡ false
fails true h = absurd (h refl)
fails false h = refl

pub passes : (b : Bool) → (b ≡ false → ⊥) → b ≡ true
passes true h = refl
passes false h = absurd (h refl)

module _ {A : Type 0} where
  pub passed : (b : Bool) (x y : A) → b ≡ true → cond b x y ≡ x
  passed b x y e = ap (λ c. cond c x y) e

  pub failed : (b : Bool) (x y : A) → b ≡ false → cond b x y ≡ y
  failed b x y e = ap (λ c. cond c x y) e

  pub guarded : (b : Bool) (o : Option A) (a : A) → cond b o none ≡ some a → (b ≡ true) × (o ≡ some a)
  guarded true o a e = (refl, e)
  guarded false o a e = absurd (none-ne-some a e)

  pub chained : {B : Type 0} (o : Option A) (f : A → Option B) (b : B) → (o >>= f) ≡ some b → (a : A) × (o ≡ some a) × (f a ≡ some b)
  chained none f b e = absurd (none-ne-some b e)
  chained (some a) f b e = (a, refl, e)

  pub some_answer : (o : Option A) → not (is_none o) ≡ true → (a : A) × (o ≡ some a)
  some_answer none e = absurd (false≢true e)
  some_answer (some a) e = (a, refl)

  pub lacks : (o : Option A) → not (is_none o) ≡ false → o ≡ none
  lacks none e = refl
  lacks (some a) e = absurd (true≢false e)

  pub never : (o : Option A) → ((a : A) → o ≡ some a → ⊥) → o ≡ none
  never none h = refl
  never (some a) h = absurd (h a refl)
