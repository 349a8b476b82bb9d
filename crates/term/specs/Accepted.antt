-- Number 7 of document 01: which tables are accepted, in the paper's words and as a test.
use Rattle.std.specs.Prelude.{◌≡◌, Bool, false, ◌&&◌, cond, List, [], ◌∷◌, ℕ, zero, suc, ◌*◌, ◌≤◌, ◌<◌, length, get_or, take, leb, eqb}
use Rattle.std.proofs.Math.Option.{Option, none, some}
use Rattle.term.specs.Choice.{◌>>=◌}
use Rattle.term.specs.Term.{Term, var, lam, app, Closed}
use Rattle.term.specs.Table.{table_of, Table, table_in, Kind, variable, abstraction, application, nothing, kind_at}

-- "A term has n nodes, 1 to 3,000"
abbrev pub most_nodes : ℕ
most_nodes = 3000

-- Number 7 does not apply: n is neither 0 nor over 3,000, the slice has 5 × n words, and a closed term has this table.
pub record Accepted (w : List ℕ) (n : ℕ) : Type 0 where
  pub some_node : 1 ≤ n
  pub few_nodes : n ≤ most_nodes
  pub long : 5 * n ≤ length w
  pub term : Term
  pub closed : Closed term
  pub same : table_of term ≡ take (5 * n) w

-- The same as a test, which reads the only term that the table's words allow. A part of it, and the node after that part:
pub record Part : Type 0 where
  pub term : Term
  pub next : ℕ

abbrev pub part : Term → ℕ → Part
part t j = record { term = t; next = j }

-- how many of the binders stand before node b, the innermost first
abbrev pub binder_index : ℕ → List ℕ → Option ℕ
binder_index b [] = none
binder_index b (c ∷ bs) = cond (eqb b c) (some 0) (binder_index b bs >>= λ x. some (suc x))

-- The part whose root is node i, read by the kind of that node; `more` reads a part below it.
unfoldable pub part_by : Kind → Table → List ℕ → ℕ → ℕ → (List ℕ → ℕ → ℕ → ℕ → Option Part) → Option Part
part_by variable T bs i v more = cond (eqb (T.right i) 0) (binder_index (T.left i) bs >>= λ x. some (part (var x) (suc i))) none
part_by abstraction T bs i v more =
    cond (eqb (T.left i) (suc i) && eqb (T.right i) 0) (more (i ∷ bs) (suc i) i v >>= λ b. some (part (lam b.term) b.next)) none
part_by application T bs i v more =
    cond (eqb (T.left i) (suc i))
    (more bs (suc i) i v >>= λ f.
    cond (eqb (T.right i) f.next) (more bs f.next i (suc v) >>= λ a. some (part (app f.term a.term) a.next)) none)
    none
part_by nothing T bs i v more = none

-- The part whose root is node i, with parent p, level v and the binders bs around it; at most d deep.
unfoldable pub part_at : ℕ → Table → List ℕ → ℕ → ℕ → ℕ → Option Part
part_at zero T bs i p v = none
part_at (suc d) T bs i p v =
    cond (eqb (T.parent i) p && eqb (T.level i) v) (part_by (kind_at T i) T bs i v (λ cs j q u. part_at d T cs j q u)) none

-- the part is the whole of n nodes
abbrev pub is_whole : ℕ → Option Part → Bool
is_whole n none = false
is_whole n (some q) = eqb q.next (suc n)

-- A table of n nodes that lies in a slice of so many words is a term's.
abbrev pub is_table : ℕ → ℕ → Table → Bool
is_table words n T = leb 1 n && leb n most_nodes && leb (5 * n) words && is_whole n (part_at n T [] 1 0 0)

unfoldable pub accepted : List ℕ → ℕ → Bool
accepted w n = is_table (length w) n (table_in w n)

-- Document 02, change 8, "16 bits wide": each word of an accepted table is at most 3,000 (`small_words`, proofs/SmallWords.antt).
abbrev pub SmallWords : Type 0
SmallWords = (w : List ℕ) (n : ℕ) → Accepted w n → (k : ℕ) → k < 5 * n → get_or w k 0 ≤ most_nodes
