-- What an accepted table has, node by node. `accepted_facts` (proofs/Facts.antt) proves it of every accepted table.
use Rattle.std.specs.Prelude.{◌≡◌, ℕ, suc, ◌≤◌}
use Rattle.term.specs.Table.{Table, arity, variable, abstraction, application, nothing, kind_at, Place, body_of, function_of, argument_of, nowhere, place_at}

-- The nodes of a table are 1 to n.
pub record IsNode (T : Table) (i : ℕ) : Type 0 where
  pub from_one : 1 ≤ i
  pub to_last : i ≤ T.nodes

-- Node j is there, stands at this place and has this level.
pub record Stands (T : Table) (j : ℕ) (place : Place) (level : ℕ) : Type 0 where
  pub there : IsNode T j
  pub place_is : place_at T j ≡ place
  pub level_is : T.level j ≡ level

-- Node i stands in the body of the abstraction b: through so many arguments and under so many further abstractions.
pub data Below (T : Table) (b : ℕ) : ℕ → ℕ → ℕ → Type 0 where
  as_body : {i : ℕ} → place_at T i ≡ body_of b → Below T b i 0 0
  under_body : {i p a x : ℕ} → place_at T i ≡ body_of p → Below T b p a x → Below T b i a (suc x)
  under_function : {i p a x : ℕ} → place_at T i ≡ function_of p → Below T b p a x → Below T b i a x
  under_argument : {i p a x : ℕ} → place_at T i ≡ argument_of p → Below T b p a x → Below T b i (suc a) x

-- A variable's binder is an abstraction above it; between the two stand arity-many arguments and index-many abstractions.
pub record Bound (T : Table) (i : ℕ) : Type 0 where
  pub binder : kind_at T (T.left i) ≡ abstraction
  pub binder_level : T.level (T.left i) ≤ T.level i
  pub index : ℕ
  pub below : Below T (T.left i) i (arity T i) index

pub record Facts (T : Table) : Type 0 where
  pub only_nodes : (i : ℕ) → (kind_at T i ≡ nothing → ⊥) → IsNode T i
  pub body : (i : ℕ) → kind_at T i ≡ abstraction → Stands T (T.left i) (body_of i) (T.level i)
  pub function : (i : ℕ) → kind_at T i ≡ application → Stands T (T.left i) (function_of i) (T.level i)
  pub argument : (i : ℕ) → kind_at T i ≡ application → Stands T (T.right i) (argument_of i) (suc (T.level i))
  pub bound : (i : ℕ) → kind_at T i ≡ variable → Bound T i
  pub root : Stands T 1 nowhere 0
