-- Which states number 9 of document 01 asks for: entries of the table, and level-many of them in the log.
use Rattle.std.specs.Prelude.{◌≡◌, [], ◌∷◌}
use Rattle.term.specs.Table.{Table, arity, variable, kind_at}
use Rattle.term.specs.Facts.{IsNode}
use Rattle.machine.specs.Entries.{Entry, entry, Log, ε, ◌▸◌, how_many, bullet, held, Tape}
use Rattle.machine.specs.Machine.{State}

-- "An entry (document 003's logged position) is a variable's node number followed by as many entries as the variable's arity", down to the leaves.
abbrev mutual
  pub EntryIn : Table → Entry → Type 0
  EntryIn T (entry v es) = (kind_at T v ≡ variable) × (how_many es ≡ arity T v) × LogIn T es

  pub LogIn : Table → Log → Type 0
  LogIn T ε = Unit
  LogIn T (e ▸ L) = EntryIn T e × LogIn T L

-- "bullets and entries"
abbrev pub TapeIn : Table → Tape → Type 0
TapeIn T [] = Unit
TapeIn T (bullet ∷ t) = TapeIn T t
TapeIn T (held e ∷ t) = EntryIn T e × TapeIn T t

-- "The length of the log in entries equals the node's level."
pub record Good (T : Table) (s : State) : Type 0 where
  pub node_there : IsNode T s.node
  pub level_many : how_many s.log ≡ T.level s.node
  pub log_entries : LogIn T s.log
  pub tape_items : TapeIn T s.tape
