-- What a node's kind and its place say: a node of a kind is there, and one that stands at a place is a part of its parent.
use mathlib.Core.Path.{◌≡◌, refl, sym, ◌∙◌, subst}
use mathlib.Core.Bool.{Bool, true, false, cond}
use Prim.Native.Nat.{ℕ, ◌≤◌}
use native.Mathlib.Omega.{arith}
use lib.Dec.{eqb}
use borrow.Author.Tests.{eqb-true}
use Rattle.term.specs.Table.{Table, Kind, variable, abstraction, application, nothing, kind_at, Place, body_of, function_of, argument_of, nowhere, place_under, place_at}
use Rattle.term.specs.Facts.{Facts, IsNode}
use Rattle.term.proofs.Facts.{NodeKind}

pub is_node : (T : Table) → Facts T → (i : ℕ) (k : Kind) → kind_at T i ≡ k → NodeKind k → IsNode T i
is_node T F i k e h = F.only_nodes i (λ z. subst NodeKind (sym e ∙ z) h)

-- a variable's word is a node's, and no node is 0
pub not_zero : (T : Table) → Facts T → (v : ℕ) → kind_at T v ≡ variable → v ≡ 0 → ⊥
not_zero T F v k z = let from_one : 1 ≤ v = (is_node T F v variable k tt).from_one in omega arith

-- the parent that a place names
abbrev pub Placed : Table → ℕ → Place → Type 0
Placed T i (body_of p) = (kind_at T p ≡ abstraction) × (T.left p ≡ i)
Placed T i (function_of p) = (kind_at T p ≡ application) × (T.left p ≡ i)
Placed T i (argument_of p) = (kind_at T p ≡ application) × (T.right p ≡ i)
Placed T i nowhere = Unit

module _ (T : Table) (i p : ℕ) where
  as_body : (b : Bool) → (b ≡ true → T.left p ≡ i) → kind_at T p ≡ abstraction → Placed T i (cond b (body_of p) nowhere)
  as_body true l k = (k, l refl)
  as_body false l k = tt

  as_part : (b c : Bool) → (b ≡ true → T.left p ≡ i) → (c ≡ true → T.right p ≡ i) → kind_at T p ≡ application
      → Placed T i (cond b (function_of p) (cond c (argument_of p) nowhere))
  as_part true c l r k = (k, l refl)
  as_part false true l r k = (k, r refl)
  as_part false false l r k = tt

  under : (k : Kind) → kind_at T p ≡ k → Placed T i (place_under T i p k)
  unfolding place_under
  under abstraction e = as_body (eqb (T.left p) i) (eqb-true (T.left p) i) e
  under application e = as_part (eqb (T.left p) i) (eqb (T.right p) i) (eqb-true (T.left p) i) (eqb-true (T.right p) i) e
  under variable e = tt
  under nothing e = tt

pub placed : (T : Table) (i : ℕ) → Placed T i (place_at T i)
placed T i = under T i (T.parent i) (kind_at T (T.parent i)) refl
