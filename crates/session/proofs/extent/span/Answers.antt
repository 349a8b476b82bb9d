-- `span` reads words from the top down: what is owed still, of the words left, is what the words read leave to be found.
use mathlib.Core.Path.{◌≡◌, refl, sym, ap, ◌∙◌}
use mathlib.Core.List.{List, [], ◌∷◌, ◌++◌, reverse, reverse-append}
use Prim.Native.Nat.{ℕ, zero, suc, ◌≤◌, ◌<◌, ◌-◌, ◌+◌}
use native.Mathlib.Omega.{arith}
use lib.ListN.{length, take, length-append}
use lib.Seq.{length-take-le}
use Rattle.term.specs.Table.{Table, table_in, arity}
use Rattle.machine.specs.Span.{span}
use Rattle.machine.proofs.Span.{span_none}
use Rattle.session.proofs.extent.span.Invariants.{Reads}
use Rattle.session.proofs.extent.span.Goals as goal

module _ (T : Table) (words : List ℕ) (top owed : ℕ) where
  begin : (i : ℕ) (below : List ℕ) → top ≤ length words → i ≡ 0 → below ≡ take top words → Reads T words top owed i below owed
  begin i below inside z e =
      let few = length-take-le top words inside in
      let many = ap length e in
      record {
        many = omega arith;
        few = omega arith;
        found = (let none : i + span T (reverse below) owed ≡ span T (reverse below) owed = omega arith in sym (none ∙ ap (λ q. span T (reverse q) owed) e));
      }

  module _ {i left : ℕ} {below : List ℕ} (r : Reads T words top owed i below left) where
    -- One word read: it settles one entry and owes its arity-many.
    one_read : (u : List ℕ) (v k : ℕ) → below ≡ u ++ (v ∷ []) → (left ≡ 0 → ⊥) → k ≡ arity T v → span T (reverse below) left ≡ suc (span T (reverse u) (left - 1 + k))
    unfolding span
    one_read u v k e some_owed k_is = rw (e, k_is, reverse-append) (by_left left some_owed)
      where
        by_left : (m : ℕ) → (m ≡ 0 → ⊥) → span T (v ∷ reverse u) m ≡ suc (span T (reverse u) (m - 1 + arity T v))
        by_left zero z = absurd (z refl)
        by_left (suc m) z = let one : suc m - 1 ≡ m = omega arith in rw one refl

    read_on : (j : ℕ) (u : List ℕ) (v k : ℕ) → j ≡ i + 1 → below ≡ u ++ (v ∷ []) → (left ≡ 0 → ⊥) → k ≡ arity T v → k < 4294967296 → Reads T words top owed j u (left - 1 + k)
    read_on j u v k j_is e some_owed k_is word = record {
      many = omega (arith, r.many, ap length e, length-append u (v ∷ []));
      few = omega (arith, r.few, some_owed);
      found = omega (arith, r.found, one_read u v k e some_owed k_is);
    }

    -- nothing owed, or nothing left
    settled : left ≡ 0 → (i ≡ span T (reverse (take top words)) owed) × (i ≤ top)
    settled z = (omega (arith, r.found, ap (span T (reverse below)) z ∙ span_none T (reverse below)), omega (arith, r.many))

    all_read : length below ≡ 0 → top ≡ span T (reverse (take top words)) owed
    unfolding span
    all_read z = omega (arith, r.found, r.many, none_left below z)
      where
        none_left : (ws : List ℕ) → length ws ≡ 0 → span T (reverse ws) left ≡ 0
        none_left [] z = refl
        none_left (v ∷ ws) z = absurd (omega arith)

pub loop-i-init : goal.loop-i-init
loop-i-init c =
    let a = c.args in
    begin (table_in a.tree.now.words a.tree.now.n) a.words.now a.top a.owed _ _ c.requires.0.0 (ap (λ x. x.count) c.into_iter-i-iterator.ensures.into_iter_gives ∙ c.enumerate-i-items.ensures.count)
    (ap (λ x. x.iter.iter.rest.now) c.into_iter-i-iterator.ensures.into_iter_gives
    ∙ ap (λ x. x.iter.rest.now) c.enumerate-i-items.ensures.source
    ∙ ap (λ x. x.rest.now) c.rev.ensures.source
    ∙ c.iter.ensures.rest)

pub returns-then-left-eq0 : goal.returns-then-left-eq0
returns-then-left-eq0 c =
    let a = c.args in
    let done = settled (table_in a.tree.now.words a.tree.now.n) a.words.now a.top a.owed c.loop-i.invariant c.if-left-eq0.true in
    rw c.in-Some.ensures.steps.1 done

pub loop-i-preserved : goal.loop-i-preserved
loop-i-preserved c =
    let a = c.args in
    let s = c.in-Some.ensures.steps in
    read_on (table_in a.tree.now.words a.tree.now.n) a.words.now a.top a.owed c.loop-i.invariant _ _ c.in-Some.word.now c.arity-inside.result s.2 s.0 c.if-left-eq0.false c.arity-inside.ensures c.arity-inside.type_inv

pub returns : goal.returns
returns c =
    let a = c.args in
    (all_read (table_in a.tree.now.words a.tree.now.n) a.words.now a.top a.owed c.loop-i.invariant c.in-None.ensures.steps.0.0, omega arith)
