-- What holds of the value of an option, if it has one; and how the choices of the definitions pass it on.
use mathlib.Core.Path.{◌≡◌, refl, subst}
use mathlib.Core.Bool.{Bool, true, false, cond}
use mathlib.Core.Option.{Option, none, some}
use mathlib.Core.List.{List, [], ◌∷◌, ◌++◌, append-nil}
use Rattle.term.specs.Choice.{◌>>=◌, choose, if_some}
use Rattle.text.specs.Parsed.{Parsed, is_empty, whole}

abbrev pub Each : {A : Type 0} → (A → Type 0) → Option A → Type 0
Each P none = Unit
Each P (some a) = P a

pub each_some : {A : Type 0} (P : A → Type 0) {o : Option A} {a : A} → Each P o → o ≡ some a → P a
each_some P p e = subst (Each P) e p

module _ {A B : Type 0} (P : A → Type 0) (Q : B → Type 0) where
  pub each_bind : (o : Option A) (k : A → Option B) → Each P o → ((a : A) → P a → Each Q (k a)) → Each Q (o >>= k)
  each_bind none k p q = tt
  each_bind (some a) k p q = q a p

  pub each_if : (o : Option A) (k : A → Option B) (n : Unit {0} → Option B)
      → Each P o → ((a : A) → P a → Each Q (k a)) → Each Q (n tt) → Each Q (if_some o k n)
  each_if none k n p q r = r
  each_if (some a) k n p q r = q a p

pub each_choose : {B : Type 0} (Q : B → Type 0) (t : Bool) (x y : Unit {0} → Option B) → Each Q (x tt) → Each Q (y tt) → Each Q (choose t x y)
each_choose Q true x y p q = p
each_choose Q false x y p q = q

-- two choices are the same where their options are and their arms agree at what may be chosen
module _ {A B : Type 0} (P : A → Type 0) where
  pub bind_same : (o : Option A) (k l : A → Option B) → Each P o → ((a : A) → P a → k a ≡ l a) → o >>= k ≡ (o >>= l)
  bind_same none k l p e = refl
  bind_same (some a) k l p e = e a p

  pub bind_steady : (o p : Option A) (k l : A → Option B) → o ≡ p → Each P p → ((a : A) → P a → k a ≡ l a) → o >>= k ≡ (p >>= l)
  bind_steady o p k l d h e = rw d (bind_same p k l h e)

  pub if_same : (o : Option A) (k l : A → Option B) (m n : Unit {0} → Option B)
      → Each P o → ((a : A) → P a → k a ≡ l a) → m tt ≡ n tt → if_some o k m ≡ if_some o l n
  if_same none k l m n p e d = d
  if_same (some a) k l m n p e d = e a p

pub bind_ap : {A B : Type 0} (o p : Option A) (k : A → Option B) → o ≡ p → o >>= k ≡ (p >>= k)
bind_ap o p k e = rw e

pub choose_same : {B : Type 0} (t : Bool) (x y m n : Unit {0} → Option B) → x tt ≡ m tt → y tt ≡ n tt → choose t x y ≡ choose t m n
choose_same true x y m n p q = p
choose_same false x y m n p q = q

-- What was read, where nothing is left, is spelt by all that there was.
pub whole_spells : {A B : Type 0} (spelling : A → List B) (s : List B) (p : Parsed A B) → spelling p.value ++ p.left ≡ s → Each (λ a. spelling a ≡ s) (whole p)
whole_spells {B = B} spelling s p e = by_left p.left e
  where
    by_left : (left : List B) → spelling p.value ++ left ≡ s → Each (λ a. spelling a ≡ s) (cond (is_empty left) (some p.value) none)
    by_left [] e = rw append-nil at e
    by_left (b ∷ left) e = tt
