-- Document 02, change 11: how the closures lie in records of a lent slice of words, and what each step of Krivine's machine does to them.
use Rattle.std.specs.Prelude.{List, [], ◌∷◌, ℕ, zero, suc, ◌+◌, ◌-◌, ◌*◌, get_or, set}
use Rattle.std.proofs.lemmas.List.Edits.{sets}
use Rattle.term.specs.Table.{Table, Kind, variable, abstraction, application, nothing, kind_at}
use Rattle.kam.specs.Krivine.{index_at}

-- "Record r, from 1, is words 3r - 2 to 3r": which word of the slice, from 0, is field f (0 to 2) of the record after r others
abbrev pub word_index : ℕ → ℕ → ℕ
word_index r f = 3 * r + f

-- A field of record r, and 0 of record 0, which is none.
abbrev pub field_in : List ℕ → ℕ → ℕ → ℕ
field_in w zero f = 0
field_in w (suc r) f = get_or w (word_index r f) 0

-- "Closures are records in a lent slice of words: node, environment, next."
abbrev pub node_in : List ℕ → ℕ → ℕ
node_in w r = field_in w r 0

abbrev pub environment_in : List ℕ → ℕ → ℕ
environment_in w r = field_in w r 1

abbrev pub next_in : List ℕ → ℕ → ℕ
next_in w r = field_in w r 2

-- The record x below record r: "next is the record below it".
abbrev pub record_below : ℕ → List ℕ → ℕ → ℕ
record_below zero w r = r
record_below (suc x) w r = record_below x w (next_in w r)

-- The slice, how many records of it are taken, and the records on top of environment and stack, 0 for none: "zero ends the chain".
pub record Records : Type 0 where
  pub words : List ℕ
  pub taken : ℕ
  pub environment : ℕ
  pub stack : ℕ

-- At first no record is taken.
abbrev pub no_records : List ℕ → Records
no_records w = record { words = w; taken = 0; environment = 0; stack = 0 }

-- "Each application step takes one new record": it goes onto the stack with the argument i and the environment, and the stack's top below it.
abbrev pub pushed : ℕ → Records → Records
pushed i R = record {
  words = sets R.words (word_index R.taken 0) (i ∷ R.environment ∷ R.stack ∷ []);
  taken = suc R.taken;
  environment = R.environment;
  stack = suc R.taken;
}

-- The stack's top goes onto the environment, and next is "written anew when the record moves": the environment's top before the move.
abbrev pub moved : Records → Records
moved R = record {
  words = set R.words (word_index (R.stack - 1) 2) R.environment;
  taken = R.taken;
  environment = R.stack;
  stack = next_in R.words R.stack;
}

-- The environment of the closure below the top x becomes the environment; no word is written, and "none is given back".
abbrev pub fetched : ℕ → Records → Records
fetched x R = record {
  words = R.words;
  taken = R.taken;
  environment = environment_in R.words (record_below x R.words R.environment);
  stack = R.stack;
}

-- What a step from node i does to the records, by the kind of the node.
unfoldable pub laid_by : Kind → Table → ℕ → Records → Records
laid_by application T i R = pushed (T.right i) R
laid_by abstraction T i R = moved R
laid_by variable T i R = fetched (index_at T i) R
laid_by nothing T i R = R

abbrev pub laid : Table → ℕ → Records → Records
laid T i R = laid_by (kind_at T i) T i R

-- Where such a step leads, as the records have it: a variable takes the node of the record (`node_is`, proofs/Tied.antt, says that it is the machine's).
abbrev pub node_by : Kind → Table → ℕ → Records → ℕ
node_by application T i R = T.left i
node_by abstraction T i R = T.left i
node_by variable T i R = node_in R.words (record_below (index_at T i) R.words R.environment)
node_by nothing T i R = i
