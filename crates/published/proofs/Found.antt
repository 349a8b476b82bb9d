-- A node number has one position in a term: the position is found again from the term and the number.
use mathlib.Core.Path.{◌≡◌, refl, sym, ap, ap₂, ◌∙◌}
use mathlib.Core.Bool.{Bool, true, false, cond}
use Prim.Native.Nat.{ℕ, zero, suc, ◌+◌, ◌-◌, ◌≤◌, ◌<◌}
use native.Mathlib.Omega.{arith}
use lib.Dec.{leb}
use borrow.Author.Tests.{le-leb, lt-leb, leb-true, leb-false}
use Rattle.term.specs.Term.{Term, var, lam, app, size}
use Rattle.term.proofs.Rows.{size_positive}
use Rattle.published.specs.Figure.{Context, ⟨·⟩, lambda, left, right, ◌⟨◌⟩}
use Rattle.published.specs.Represents.{node_from, Position}
use Rattle.published.proofs.Contexts.{node_of}

-- how many nodes stand before the hole
abbrev offset : Context → ℕ
offset ⟨·⟩ = 0
offset (lambda C) = suc (offset C)
offset (left C t) = suc (offset C)
offset (right t C) = suc (size t + offset C)

node_offset : (C : Context) (i : ℕ) → node_from i C ≡ i + offset C
node_offset ⟨·⟩ i = omega arith
node_offset (lambda C) i = omega (arith, node_offset C (suc i))
node_offset (left C t) i = omega (arith, node_offset C (suc i))
node_offset (right t C) i = omega (arith, node_offset C (suc i + size t))

offset_inside : (C : Context) (u : Term) → offset C < size (C ⟨ u ⟩)
offset_inside ⟨·⟩ u = size_positive u
offset_inside (lambda C) u = omega (arith, offset_inside C u)
offset_inside (left C t) u = omega (arith, offset_inside C u)
offset_inside (right t C) u = omega (arith, offset_inside C u)

-- a subterm and its context
record Found : Type 0 where
  term : Term
  context : Context

abbrev found : Term → Context → Found
found u C = record { term = u; context = C }

abbrev in_body : Found → Found
in_body p = found p.term (lambda p.context)

abbrev in_function : Found → Term → Found
in_function p a = found p.term (left p.context a)

abbrev in_argument : Term → Found → Found
in_argument f p = found p.term (right f p.context)

-- the position before which k nodes stand
abbrev find : Term → ℕ → Found
find (var x) k = found (var x) ⟨·⟩
find (lam b) zero = found (lam b) ⟨·⟩
find (lam b) (suc k) = in_body (find b k)
find (app f a) zero = found (app f a) ⟨·⟩
find (app f a) (suc k) = cond (leb (size f) k) (in_argument f (find a (k - size f))) (in_function (find f k) a)

-- Each number of the term is found ..
record At (t : Term) (k : ℕ) (p : Found) : Type 0 where
  whole : p.context ⟨ p.term ⟩ ≡ t
  before : k ≡ offset p.context

find_part : (f a : Term) (k : ℕ) (b : Bool) → (b ≡ true → size f ≤ k) → (b ≡ false → k < size f) → k < size f + size a
    → (k - size f < size a → At a (k - size f) (find a (k - size f))) → (k < size f → At f k (find f k))
    → At (app f a) (suc k) (cond b (in_argument f (find a (k - size f))) (in_function (find f k) a))
find_part f a k true l g h in_a in_f =
    let m : size f ≤ k = l refl in
    let p : At a (k - size f) (find a (k - size f)) = in_a (omega arith) in
    let q : k - size f ≡ offset (find a (k - size f)).context = p.before in
    record { whole = ap (app f) p.whole; before = omega arith }
find_part f a k false l g h in_a in_f =
    let p : At f k (find f k) = in_f (g refl) in
    record { whole = ap (λ q. app q a) p.whole; before = ap suc p.before }

find_at : (t : Term) (k : ℕ) → k < size t → At t k (find t k)
find_at (var x) k h = record { whole = refl; before = omega arith }
find_at (lam b) zero h = record { whole = refl; before = refl }
find_at (lam b) (suc k) h = let p = find_at b k (omega arith) in record { whole = ap lam p.whole; before = ap suc p.before }
find_at (app f a) zero h = record { whole = refl; before = refl }
find_at (app f a) (suc k) h =
    find_part f a k (leb (size f) k) (leb-true (size f) k) (leb-false (size f) k) (omega arith) (λ m. find_at a (k - size f) m) (λ m. find_at f k m)

pub position_at : (t : Term) (i : ℕ) → 1 ≤ i → i ≤ size t → (u : Term) × (C : Context) × Position t i u C
position_at t i l h =
    let p : At t (i - 1) (find t (i - 1)) = find_at t (i - 1) (omega arith) in
    let q : i - 1 ≡ offset (find t (i - 1)).context = p.before in
    ((find t (i - 1)).term, (find t (i - 1)).context, record { whole = p.whole; number = omega (arith, node_offset (find t (i - 1)).context 1) })

-- .. and only where it is.
find_here : (u : Term) → find u 0 ≡ found u ⟨·⟩
find_here (var x) = refl
find_here (lam b) = refl
find_here (app f a) = refl

find_again : (C : Context) (u : Term) → find (C ⟨ u ⟩) (offset C) ≡ found u C
find_again ⟨·⟩ u = find_here u
find_again (lambda C) u = ap in_body (find_again C u)
find_again (left C t) u =
    ap (λ b. cond b (in_argument (C ⟨ u ⟩) (find t (offset C - size (C ⟨ u ⟩)))) (in_function (find (C ⟨ u ⟩) (offset C)) t)) (lt-leb (size (C ⟨ u ⟩)) (offset C) (offset_inside C u))
    ∙ ap (λ p. in_function p t) (find_again C u)
find_again (right t C) u =
    let e : (size t + offset C) - size t ≡ offset C = omega arith in
    ap (λ b. cond b (in_argument t (find (C ⟨ u ⟩) (size t + offset C - size t))) (in_function (find t (size t + offset C)) (C ⟨ u ⟩))) (le-leb (size t) (size t + offset C) (omega arith))
    ∙ ap (λ k. in_argument t (find (C ⟨ u ⟩) k)) e
    ∙ ap (in_argument t) (find_again C u)

same_found : (C D : Context) (u v : Term) → C ⟨ u ⟩ ≡ D ⟨ v ⟩ → node_of C ≡ node_of D → found u C ≡ found v D
same_found C D u v e h =
    let g : offset C ≡ offset D = omega (arith, node_offset C 1, node_offset D 1) in
    sym (find_again C u) ∙ ap₂ find e g ∙ find_again D v

pub one_position : (C D : Context) (u v : Term) → C ⟨ u ⟩ ≡ D ⟨ v ⟩ → node_of C ≡ node_of D → (u ≡ v) × (C ≡ D)
one_position C D u v e h = (ap (λ p. p.term) (same_found C D u v e h), ap (λ p. p.context) (same_found C D u v e h))
