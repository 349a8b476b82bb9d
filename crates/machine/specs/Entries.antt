-- Document 01, "Entries, log and tape": the lists that the token carries, read from the top.
use Rattle.std.specs.Prelude.{List, [], ◌∷◌, ◌++◌, ℕ, zero, suc}

infixr 50 ◌▸◌
infixr 50 ◌onto◌
-- "An entry (document 003's logged position) is a variable's node number followed by as many entries as the variable's arity. A log is a list of entries."
mutual
  pub data Entry : Type 0 where
    entry : ℕ → Log → Entry

  pub data Log : Type 0 where
    ε : Log
    ◌▸◌ : Entry → Log → Log

-- "A tape is a list of entries and bullets"
pub data Item : Type 0 where
  bullet : Item
  held : Entry → Item

abbrev pub Tape : Type 0
Tape = List Item

-- how many entries
abbrev pub how_many : Log → ℕ
how_many ε = 0
how_many (e ▸ L) = suc (how_many L)

-- the top a entries of a log
abbrev pub topmost : ℕ → Log → Log
topmost zero L = ε
topmost (suc a) ε = ε
topmost (suc a) (e ▸ L) = e ▸ topmost a L

-- a log after its top a entries have left it
abbrev pub rest : ℕ → Log → Log
rest zero L = L
rest (suc a) ε = ε
rest (suc a) (e ▸ L) = rest a L

-- entries put onto a log in their order
abbrev pub ◌onto◌ : Log → Log → Log
ε onto L = L
(e ▸ M) onto L = e ▸ (M onto L)

-- The words of an entry, a log and a tape, from the top: "a bullet is the word 0".
abbrev mutual
  pub entry_words : Entry → List ℕ
  entry_words (entry v es) = v ∷ log_words es

  pub log_words : Log → List ℕ
  log_words ε = []
  log_words (e ▸ L) = entry_words e ++ log_words L

abbrev pub item_words : Item → List ℕ
item_words bullet = 0 ∷ []
item_words (held e) = entry_words e

abbrev pub tape_words : Tape → List ℕ
tape_words [] = []
tape_words (x ∷ t) = item_words x ++ tape_words t
