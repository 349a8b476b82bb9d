-- What the mover promises: the words of the top entries go from one list's slice to a part of the other's, or the part has no room for them.
use Rattle.std.specs.Prelude.{◌≡◌, Option, Some, None, List, ◌∷◌, ◌++◌, ℕ, ◌+◌, ◌-◌, ◌≤◌, ◌<◌, length, take, drop, replicate}
use Rattle.term.specs.Table.{Table}
use Rattle.session.specs.Extent.{span_below}

-- the k words below index `top` of a slice, in the slice's order
abbrev pub words_below : List ℕ → ℕ → ℕ → List ℕ
words_below from top k = take k (drop (top - k) from)

-- the slice once they have gone: zeros in their place
abbrev pub without : List ℕ → ℕ → ℕ → List ℕ
without from top k = take (top - k) from ++ (replicate k 0 ++ drop top from)

-- They stand at the front of the part that they came to.
pub record WordsMoved (from : List ℕ) (top k : ℕ) (to from' to' : List ℕ) : Type 0 where
  pub left : from' ≡ without from top k
  pub came : to' ≡ words_below from top k ++ drop k to

-- The mover found k words, and they are moved; or the part is shorter than they are, and nothing is.
abbrev pub MoverIs : Table → List ℕ → ℕ → ℕ → List ℕ → Option ℕ → List ℕ → List ℕ → Type 0
MoverIs T from top owed to (Some k) from' to' =
    (k ≡ span_below T from top owed) × (k ≤ top) × (k ≤ length to) × WordsMoved from top k to from' to'
MoverIs T from top owed to None from' to' = (length to < span_below T from top owed) × (from' ≡ from) × (to' ≡ to)

-- The same with a word of its own above them: the entry of a variable and of the entries that went.
abbrev pub MakerIs : Table → List ℕ → ℕ → ℕ → ℕ → List ℕ → Option ℕ → List ℕ → List ℕ → Type 0
MakerIs T from top owed own to (Some k) from' to' =
    (k ≡ span_below T from top owed)
    × (k ≤ top)
    × (k < length to)
    × (from' ≡ without from top k)
    × (to' ≡ words_below from top k ++ (own ∷ drop (k + 1) to))
MakerIs T from top owed own to None from' to' = (length to ≤ span_below T from top owed) × (from' ≡ from) × (to' ≡ to)
