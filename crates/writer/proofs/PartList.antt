-- The text of a term in the number dialect as a list of parts, in the order of its nodes, with one space before each but the first.
use mathlib.Core.Path.{◌≡◌, refl, sym, ap, ap₂, ◌∙◌}
use mathlib.Core.List.{List, [], ◌∷◌, ◌++◌, append-nil, append_assoc}
use Prim.Native.Nat.{ℕ, suc, ◌+◌, ◌≤◌, ◌<◌}
use native.Mathlib.Numerals.{add-one}
use native.Mathlib.Omega.{arith}
use lib.ListN.{length, get_or, take, drop, length-append, take-append-drop}
use lib.Seq.{take-suc, length-take-le, take_all}
use Rattle.decimal.specs.Decimal.{decimal}
use Rattle.term.specs.Term.{Term, var, lam, app, size}
use Rattle.text.specs.Bytes.{lambda, space}
use Rattle.text.specs.NumberGrammar.{at_sign, number_text}

abbrev pub parts_of : Term → List (List ℕ)
parts_of (var k) = decimal k ∷ []
parts_of (lam b) = (lambda ∷ []) ∷ parts_of b
parts_of (app f a) = (at_sign ∷ []) ∷ (parts_of f ++ parts_of a)

pub parts_count : (t : Term) → length (parts_of t) ≡ size t
parts_count (var k) = refl
parts_count (lam b) = ap suc (parts_count b)
parts_count (app f a) = ap suc (length-append (parts_of f) (parts_of a) ∙ ap₂ (λ m n. m + n) (parts_count f) (parts_count a))

-- parts with one space before each
abbrev spaced : List (List ℕ) → List ℕ
spaced [] = []
spaced (p ∷ ps) = space ∷ (p ++ spaced ps)

spaced_append : (ps qs : List (List ℕ)) → spaced (ps ++ qs) ≡ spaced ps ++ spaced qs
spaced_append [] qs = refl
spaced_append (p ∷ ps) qs = ap (λ s. space ∷ s) (ap (λ s. p ++ s) (spaced_append ps qs) ∙ sym (append_assoc p (spaced ps) (spaced qs)))

parts_spaced : (t : Term) → spaced (parts_of t) ≡ space ∷ number_text t
unfolding number_text
parts_spaced (var k) = ap (λ s. space ∷ s) (append-nil (decimal k))
parts_spaced (lam b) = ap (λ s. space ∷ lambda ∷ s) (parts_spaced b)
parts_spaced (app f a) = ap (λ s. space ∷ at_sign ∷ s) (spaced_append (parts_of f) (parts_of a) ∙ ap₂ (λ r s. r ++ s) (parts_spaced f) (parts_spaced a))

-- The text of the first k nodes: the first part, one part more with its space, and all of them.
abbrev pub text_to : Term → ℕ → List ℕ
text_to t k = drop 1 (spaced (take k (parts_of t)))

pub text_first : (t : Term) → text_to t 1 ≡ get_or (parts_of t) 0 []
text_first (var k) = append-nil (decimal k)
text_first (lam b) = refl
text_first (app f a) = refl

spaced_more : (ps qs : List (List ℕ)) → 1 ≤ length ps → drop 1 (spaced (ps ++ qs)) ≡ drop 1 (spaced ps) ++ spaced qs
spaced_more [] qs h = absurd (omega arith)
spaced_more (p ∷ ps) qs h = ap (λ s. p ++ s) (spaced_append ps qs) ∙ sym (append_assoc p (spaced ps) (spaced qs))

pub text_more : (t : Term) (k : ℕ) → 1 ≤ k → k < size t → text_to t (k + 1) ≡ text_to t k ++ (space ∷ get_or (parts_of t) k [])
text_more t k l h =
    let n = parts_count t in
    let some : 1 ≤ length (take k (parts_of t)) = omega (arith, length-take-le k (parts_of t) (omega arith)) in
    let last : spaced (get_or (parts_of t) k [] ∷ []) ≡ space ∷ get_or (parts_of t) k [] = ap (λ s. space ∷ s) (append-nil (get_or (parts_of t) k [])) in
    rw add-one
    (ap (λ ps. drop 1 (spaced ps)) (take-suc (parts_of t) k [] (omega arith))
    ∙ spaced_more (take k (parts_of t)) (get_or (parts_of t) k [] ∷ []) some
    ∙ ap (λ s. text_to t k ++ s) last)

pub text_all : (t : Term) → text_to t (size t) ≡ number_text t
text_all t = ap (λ ps. drop 1 (spaced ps)) (take_all (size t) (parts_of t) (omega (arith, parts_count t))) ∙ ap (drop 1) (parts_spaced t)

-- It is no longer than the whole.
pub text_within : (t : Term) (k : ℕ) → 1 ≤ k → k ≤ size t → length (text_to t k) ≤ length (number_text t)
text_within t k l h =
    let ps = take k (parts_of t) in
    let qs = drop k (parts_of t) in
    let some : 1 ≤ length ps = omega (arith, length-take-le k (parts_of t) (omega (arith, parts_count t))) in
    let e : number_text t ≡ text_to t k ++ spaced qs =
    sym (ap (drop 1) (parts_spaced t)) ∙ ap (λ r. drop 1 (spaced r)) (sym (take-append-drop k (parts_of t))) ∙ spaced_more ps qs some in
    omega (arith, ap length e, length-append (text_to t k) (spaced qs))
