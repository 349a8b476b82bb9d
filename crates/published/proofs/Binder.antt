-- The binder of a variable in the hole cuts a context in two: what is around the binder, and what is below it.
use mathlib.Core.Path.{◌≡◌, refl, sym, ap, ap₂, ◌∙◌}
use mathlib.Core.Bool.{Bool, true, false, cond}
use Prim.Native.Nat.{ℕ, ◌≤◌, ◌<◌}
use native.Mathlib.Nat.{not-suc-le-zero}
use native.Mathlib.Omega.{arith}
use lib.Dec.{leb}
use borrow.Author.Tests.{le-leb, lt-leb, leb-true, leb-false}
use Rattle.published.specs.Figure.{Context, ⟨·⟩, lambda, left, right, ◌⟪◌⟫, binders}

abbrev pub below : Context → ℕ → Context
below ⟨·⟩ x = ⟨·⟩
below (lambda C) x = cond (leb (binders C) x) C (below C x)
below (left C t) x = below C x
below (right t C) x = below C x

abbrev pub around : Context → ℕ → Context
around ⟨·⟩ x = ⟨·⟩
around (lambda C) x = cond (leb (binders C) x) ⟨·⟩ (lambda (around C x))
around (left C t) x = left (around C x) t
around (right t C) x = right t (around C x)

-- Of a variable that the context binds these are its parts ..
pub record Cut (C A D : Context) (x : ℕ) : Type 0 where
  pub parts : C ≡ A ⟪ lambda D ⟫
  pub index : x ≡ binders D

cut_lambda : (C : Context) (x : ℕ) (b : Bool) → (b ≡ true → binders C ≤ x) → (b ≡ false → x < binders C) → x ≤ binders C → (x < binders C → Cut C (around C x) (below C x) x)
    → Cut (lambda C) (cond b ⟨·⟩ (lambda (around C x))) (cond b C (below C x)) x
cut_lambda C x true l g h more = let m : binders C ≤ x = l refl in record { parts = refl; index = omega arith }
cut_lambda C x false l g h more = record { parts = ap lambda (more (g refl)).parts; index = (more (g refl)).index }

pub cut : (C : Context) (x : ℕ) → x < binders C → Cut C (around C x) (below C x) x
cut ⟨·⟩ x h = absurd (not-suc-le-zero h)
cut (lambda C) x h = cut_lambda C x (leb (binders C) x) (leb-true (binders C) x) (leb-false (binders C) x) (omega arith) (λ m. cut C x m)
cut (left C t) x h = record { parts = ap (λ D. left D t) (cut C x h).parts; index = (cut C x h).index }
cut (right t C) x h = record { parts = ap (λ D. right t D) (cut C x h).parts; index = (cut C x h).index }

-- .. and no others.
binders_more : (C D : Context) → binders D < binders (C ⟪ lambda D ⟫)
binders_more ⟨·⟩ D = omega arith
binders_more (lambda C) D = omega (arith, binders_more C D)
binders_more (left C t) D = binders_more C D
binders_more (right t C) D = binders_more C D

pub below_is : (C D : Context) → below (C ⟪ lambda D ⟫) (binders D) ≡ D
below_is ⟨·⟩ D = ap (λ b. cond b D (below D (binders D))) (le-leb (binders D) (binders D) (omega arith))
below_is (lambda C) D =
    ap (λ b. cond b (C ⟪ lambda D ⟫) (below (C ⟪ lambda D ⟫) (binders D))) (lt-leb (binders (C ⟪ lambda D ⟫)) (binders D) (binders_more C D)) ∙ below_is C D
below_is (left C t) D = below_is C D
below_is (right t C) D = below_is C D

pub around_is : (C D : Context) → around (C ⟪ lambda D ⟫) (binders D) ≡ C
around_is ⟨·⟩ D = ap (λ b. cond b ⟨·⟩ (lambda (around D (binders D)))) (le-leb (binders D) (binders D) (omega arith))
around_is (lambda C) D =
    ap (λ b. cond b ⟨·⟩ (lambda (around (C ⟪ lambda D ⟫) (binders D)))) (lt-leb (binders (C ⟪ lambda D ⟫)) (binders D) (binders_more C D)) ∙ ap lambda (around_is C D)
around_is (left C t) D = ap (λ K. left K t) (around_is C D)
around_is (right t C) D = ap (right t) (around_is C D)

pub same_below : (A B D E : Context) → A ⟪ lambda D ⟫ ≡ B ⟪ lambda E ⟫ → binders D ≡ binders E → D ≡ E
same_below A B D E c x = sym (below_is A D) ∙ ap₂ below c x ∙ below_is B E
