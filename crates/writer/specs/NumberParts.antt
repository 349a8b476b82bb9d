-- The text of a table in the number dialect, node by node: how many binders are around each node, the node's part, and what putting it asks.
use Rattle.std.specs.Prelude.{◌≡◌, cond, List, [], ◌∷◌, ℕ, ◌+◌, ◌-◌, ◌≤◌, ◌<◌, length, get_or, eqb}
use Rattle.decimal.specs.Decimal.{decimal}
use Rattle.term.specs.Table.{Table}
use Rattle.term.specs.Accepted.{most_nodes}
use Rattle.text.specs.Bytes.{lambda}
use Rattle.text.specs.NumberGrammar.{at_sign}
use Rattle.writer.specs.Putting.{longest_text}

-- The depth of a node is how many binders are around it: as many as around its parent, and one more where that is an abstraction. D tells the depths.
abbrev pub depth_under : Table → (ℕ → ℕ) → ℕ → ℕ
depth_under T D i = cond (eqb (T.kind (T.parent i)) 2) (D (T.parent i) + 1) (D (T.parent i))

-- `\`, `@`, or how many binders stand between a variable and its own
abbrev pub node_part : Table → (ℕ → ℕ) → ℕ → List ℕ
node_part T D i = cond (eqb (T.kind i) 1) (decimal (D i - D (T.left i) - 1)) (cond (eqb (T.kind i) 2) (lambda ∷ []) (at_sign ∷ []))

-- depths that stand in a slice, each at its node's number
abbrev pub depth_in : List ℕ → ℕ → ℕ
depth_in ds i = get_or ds i 0

-- The parent's depth is there, and one more is a word.
pub record DepthRoom (T : Table) (i : ℕ) (ds : List ℕ) : Type 0 where
  pub parent_there : T.parent i ≤ most_nodes
  pub few : depth_in ds (T.parent i) ≤ most_nodes

-- The depths of a node and of its binder are there, the binder is around it, and the part ends within `longest_text`.
pub record NodeRoom (T : Table) (i : ℕ) (ds : List ℕ) (at : ℕ) : Type 0 where
  pub there : i ≤ most_nodes
  pub binder_there : T.kind i ≡ 1 → T.left i ≤ most_nodes
  pub binder_around : T.kind i ≡ 1 → depth_in ds (T.left i) < depth_in ds i
  pub short : at + length (node_part T (depth_in ds) i) ≤ longest_text
