-- What putting bytes, names and parts of a table into a lent slice asks and promises.
use Rattle.std.specs.Prelude.{◌≡◌, Bool, List, [], ◌∷◌, ◌++◌, ℕ, suc, ◌+◌, ◌≤◌, length}
use Rattle.std.proofs.lemmas.List.Edits.{sets}
use Rattle.term.specs.Term.{Term, size}
use Rattle.term.specs.Table.{table_in}
use Rattle.term.specs.Rows.{RowsIn}
use Rattle.term.specs.Accepted.{Accepted}
use Rattle.text.specs.Bytes.{lambda, dot}
use Rattle.text.specs.Written.{node_name, tree_of, enclosed, tree_text}
use Rattle.text.specs.Dialects.{Dialect, text_in}

-- No term of 3,000 nodes has a longer text: each node takes at most 16 bytes (`text` Names, `text_short`, NumberGrammar, `numbers_short`).
abbrev pub longest_text : ℕ
longest_text = 48000

-- The bytes s stand from index `at` on, as far as there is room for them, and r is the index after them.
pub record Put (out : List ℕ) (at : ℕ) (s : List ℕ) (r : ℕ) (out' : List ℕ) : Type 0 where
  pub next : r ≡ at + length s
  pub wrote : out' ≡ sets out at s

-- `\`, a node's name and `.`
abbrev pub binder_text : ℕ → List ℕ
binder_text i = lambda ∷ (node_name i ++ (dot ∷ []))

-- A term stands in a table as the part whose root is node i, and bs are the binders around it.
pub record Stood (w : List ℕ) (n i : ℕ) (t : Term) (bs : List ℕ) : Type 0 where
  pub parent : ℕ
  pub level : ℕ
  pub rows : RowsIn (table_in w n) t bs i parent level
  pub last : i + size t ≤ suc n

-- its text
abbrev pub text_at : Term → List ℕ → ℕ → List ℕ
text_at t bs i = tree_text (tree_of t bs i)

-- The same, and its text, from index `at` on and in brackets or not, ends within `longest_text`.
pub record Puttable (w : List ℕ) (n i : ℕ) (b : Bool) (at : ℕ) (t : Term) (bs : List ℕ) : Type 0 where
  pub stood : Stood w n i t bs
  pub short : at + length (enclosed b (text_at t bs i)) ≤ longest_text

-- What the functions that put a part promise, from what they were lent at entry: the text of every term that stands there. (Only one does; the caller knows which.)
abbrev pub PartPut : List ℕ → ℕ → ℕ → Bool → ℕ → List ℕ → ℕ → List ℕ → Type 0
PartPut w n i b at out r out' = (t : Term) (bs : List ℕ) → Puttable w n i b at t bs → Put out at (enclosed b (text_at t bs i)) r out'

-- The text of the whole table in a dialect, from the first byte on.
abbrev pub TextPut : Dialect → List ℕ → ℕ → List ℕ → ℕ → List ℕ → Type 0
TextPut d w n out r out' = (A : Accepted w n) → Put out 0 (text_in d A.term) r out'
