-- What the code's walk over the parts of a table asks and answers.
use Rattle.std.specs.Prelude.{◌≡◌, Option, Some, None, List, [], ◌∷◌, ℕ, zero, suc, ◌-◌, ◌≤◌, ◌<◌, length, get_or}
use Rattle.std.proofs.Math.Option.{none, some}
use Rattle.std.proofs.Math.Option.{Option as MathOption}
use Rattle.term.specs.declared.kinds.Kind.{Kind}
use Rattle.term.specs.declared.kinds.Kind.TheVariants.{Variable, Abstraction, Application}
use Rattle.term.specs.Term.{Term}
use Rattle.term.specs.Table.{Table}
use Rattle.term.specs.Rows.{Row}
use Rattle.term.specs.Accepted.{most_nodes, Part, part, part_at}

-- The kind of node i where it may be the root of a part with parent p and level v, and none where it is not:
-- what stands below it, and where an application's argument begins, is left open.
abbrev pub RootIs : Table → ℕ → ℕ → ℕ → Option Kind → Type 0
RootIs T i p v None = (bs : List ℕ) (d : ℕ) → part_at d T bs i p v ≡ none
RootIs T i p v (Some Variable) = (i ≤ T.nodes) × Row T i 1 (T.left i) 0 p v
RootIs T i p v (Some Abstraction) = (i ≤ T.nodes) × Row T i 2 (suc i) 0 p v
RootIs T i p v (Some Application) = (i ≤ T.nodes) × Row T i 3 (suc i) (T.right i) p v

-- The binders around a node, the innermost first, where a scope holds them from the outermost on.
abbrev pub binders_in : List ℕ → ℕ → List ℕ
binders_in scope zero = []
binders_in scope (suc d) = get_or scope d 0 ∷ binders_in scope d

-- The first words of a scope stand in their order, as binders do of which each is inside those before it.
abbrev pub Rising : List ℕ → ℕ → Type 0
Rising scope depth = (x y : ℕ) → x < y → y < depth → get_or scope x 0 < get_or scope y 0

-- Each node before node i is at most one binder around it and at most one level.
pub record ScopeRoom (scope : List ℕ) (n depth i v : ℕ) : Type 0 where
  pub few_nodes : n ≤ most_nodes
  pub long : n ≤ length scope
  pub binders : depth < i
  pub levels : v < i
  pub before : (x : ℕ) → x < depth → get_or scope x 0 < i
  pub rising : Rising scope depth

-- A part is read that ends before node r, whatever the depth, if that is enough.
pub record PartEnds (last i r : ℕ) (read : ℕ → MathOption Part) : Type 0 where
  pub later : i < r
  pub inside : r ≤ suc last
  pub term : Term
  pub is : (d : ℕ) → suc last - i ≤ d → read d ≡ some (part term r)

-- The walk's answer: the node after the part whose root is node i, or none where there is no part.
abbrev pub PartAnswer : ℕ → ℕ → (ℕ → MathOption Part) → Option ℕ → Type 0
PartAnswer last i read None = (d : ℕ) → suc last - i ≤ d → read d ≡ none
PartAnswer last i read (Some r) = PartEnds last i r read

-- The number for it: the node, or 0 for none.
abbrev pub end_said : ℕ → Option ℕ
end_said zero = None
end_said (suc r) = Some (suc r)

-- It leaves the binders around as they were.
pub record PartWalked (T : Table) (before after : List ℕ) (depth i p v : ℕ) (r : Option ℕ) : Type 0 where
  pub answer : PartAnswer T.nodes i (λ d. part_at d T (binders_in before depth) i p v) r
  pub same : binders_in after depth ≡ binders_in before depth
