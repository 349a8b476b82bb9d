-- What the functions that read a text by the grammar answer: the phrase that stands at a place and its code, or that there is none.
use Rattle.std.specs.Prelude.{◌≡◌, List, [], ◌∷◌, ◌++◌, ℕ, ◌+◌, ◌*◌, ◌-◌, ◌≤◌, length, take, replicate, Some, None}
use Rattle.std.proofs.Math.Option.{Option, none, some}
use Rattle.std.proofs.lemmas.List.Edits.{sets}
use Rattle.term.specs.Choice.{◌>>=◌}
use Rattle.text.specs.Bytes.{dot, closing}
use Rattle.text.specs.Tokens.{Name, Token}
use Rattle.text.specs.Grammar.{Phrase, abstraction, atoms, Atoms, Atom, bracketed, Tree, variable, binder, apply, phrase_tree, atom_tree}
use Rattle.text.specs.Parsed.{Parsed, parsed}
use Rattle.text.specs.Parse.{after_mark, name_first, atoms_at, atom_at, phrase_from}
use Rattle.text.specs.Binding.{index_of}
use Rattle.text.specs.Reading.{most_bytes}
use Rattle.reader.specs.Scanning.{names_at}
use Rattle.reader.specs.Token.{tokens_from}
use Rattle.reader.specs.Types.{Got}

-- Atoms, and an atom, that the tokens begin with, as deep as they need, which is by their ranks (`phrase_from`, text specs/Parse.antt).
unfoldable pub atoms_from : List Token → Option (Parsed Atoms Token)
atoms_from ts = atoms_at (3 * length ts + 2) ts

unfoldable pub atom_from : List Token → Option (Parsed Atom Token)
atom_from ts = atom_at (3 * length ts + 1) ts

-- a term that is an abstraction, after its `\`; a term that is atoms; a term in brackets, after the opening one
abbrev pub abstraction_from : List Token → Option (Parsed Phrase Token)
abstraction_from ts =
    name_first ts >>= λ x. after_mark dot x.left >>= λ us. phrase_from us >>= λ p. some (parsed (abstraction x.value p.value) p.left)

abbrev pub application_from : List Token → Option (Parsed Phrase Token)
application_from ts = atom_from ts >>= λ a. atoms_from a.left >>= λ bs. some (parsed (atoms a.value bs.value) bs.left)

abbrev pub bracketed_from : List Token → Option (Parsed Atom Token)
bracketed_from ts = phrase_from ts >>= λ p. after_mark closing p.left >>= λ us. some (parsed (bracketed p.value) us)

-- The word of a variable: 3 plus how many binders stand between it and its own, and 0 where it has none.
abbrev pub variable_word : Option ℕ → ℕ
variable_word none = 0
variable_word (some k) = 3 + k

-- The code of a tree among the names around it: as a term's code, but for the words of names without a binder.
unfoldable pub tree_code : Tree → List Name → List ℕ
tree_code (variable x) around = variable_word (index_of x around) ∷ []
tree_code (binder x t) around = 1 ∷ tree_code t (x ∷ around)
tree_code (apply f a) around = 2 ∷ (tree_code f around ++ tree_code a around)

-- The code of what is read, among the names around it.
abbrev pub phrase_code : Phrase → List Name → List ℕ
phrase_code p names = tree_code (phrase_tree p) names

abbrev pub atom_code : Atom → List Name → List ℕ
atom_code a names = tree_code (atom_tree a) names

-- Where a function begins: a position in the text, a scope of so many names, and a word of the slice that the code goes to.
pub record Cursor : Type 0 where
  pub text : List ℕ
  pub at : ℕ
  pub scope : List ℕ
  pub depth : ℕ
  pub out : List ℕ
  pub node : ℕ

abbrev pub cursor : List ℕ → ℕ → List ℕ → ℕ → List ℕ → ℕ → Cursor
cursor text at scope depth out node = record { text = text; at = at; scope = scope; depth = depth; out = out; node = node }

-- the names that are bound where a function begins
abbrev pub names_around : Cursor → List Name
names_around w = names_at w.text (take w.depth w.scope) []

-- Each byte that is left may bind a name and give two words.
pub record CodeRoom (w : Cursor) : Type 0 where
  pub within : w.at ≤ length w.text
  pub names : w.depth + (length w.text - w.at) ≤ length w.scope
  pub words : w.node + 2 * (length w.text - w.at) ≤ length w.out
  pub short : length w.text ≤ most_bytes
  pub few : length w.scope ≤ most_bytes

-- Something was read up to p, and its code stands in front of word m, with room for `more` words to be put before it. The names around are as they were.
pub record ReadTo {A : Type 0} (from : List Token → Option (Parsed A Token)) (code : A → List Name → List ℕ) (w : Cursor) (p m more : ℕ) (scope' out' : List ℕ) : Type 0 where
  pub value : A
  pub is : from (tokens_from w.text w.at) ≡ some (parsed value (tokens_from w.text p))
  pub on : w.at ≤ p
  pub within : p ≤ length w.text
  pub room : m + more ≤ w.node + 2 * (p - w.at)
  pub next : m ≡ w.node + length (code value (names_around w))
  pub wrote : out' ≡ sets w.out w.node (code value (names_around w))
  pub kept : take w.depth scope' ≡ take w.depth w.scope

abbrev pub CodeAnswer : {A : Type 0} → (List Token → Option (Parsed A Token)) → (A → List Name → List ℕ) → Cursor → Got → List ℕ → List ℕ → Type 0
CodeAnswer from code w (Some (p, m)) scope' out' = ReadTo from code w p m 1 scope' out'
CodeAnswer from code w None scope' out' = from (tokens_from w.text w.at) ≡ none

-- What these functions promise of their answer r and of what they leave at exit, from what they were lent at entry: text, scope and slice, with a position in each.
abbrev pub ReadPromise : Type 1
ReadPromise = List ℕ → ℕ → List ℕ → ℕ → List ℕ → ℕ → Got → List ℕ → List ℕ → Type 0

-- `term` reads a term,
abbrev pub TermRead : ReadPromise
TermRead text at scope depth out node r scope' out' = CodeAnswer phrase_from phrase_code (cursor text at scope depth out node) r scope' out'

-- `abstraction` a term after its `\`,
abbrev pub AbstractionRead : ReadPromise
AbstractionRead text at scope depth out node r scope' out' = CodeAnswer abstraction_from phrase_code (cursor text at scope depth out node) r scope' out'

-- `application` a term that is atoms,
abbrev pub ApplicationRead : ReadPromise
ApplicationRead text at scope depth out node r scope' out' = CodeAnswer application_from phrase_code (cursor text at scope depth out node) r scope' out'

-- `atom` an atom,
abbrev pub AtomRead : ReadPromise
AtomRead text at scope depth out node r scope' out' = CodeAnswer atom_from atom_code (cursor text at scope depth out node) r scope' out'

-- and `brackets` a term in brackets, after the opening one.
abbrev pub BracketsRead : ReadPromise
BracketsRead text at scope depth out node r scope' out' = CodeAnswer bracketed_from atom_code (cursor text at scope depth out node) r scope' out'

-- What `marks` promises: where the words from `first` to `end` are ws, written over b, then `by` marks of applications stand in front of them.
abbrev pub Marked : ℕ → ℕ → ℕ → List ℕ → List ℕ → Type 0
Marked first end by out out' = (b ws : List ℕ) → out ≡ sets b first ws → end ≡ first + length ws → out' ≡ sets b first (replicate by 2 ++ ws)
