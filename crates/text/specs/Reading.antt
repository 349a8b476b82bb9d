-- What a call of the reader answers, and what it leaves in the table slice: numbers 1 to 6 of document 01 and the table.
use Rattle.std.specs.Prelude.{Bool, false, ◌||◌, List, [], ◌∷◌, ◌++◌, ℕ, ◌*◌, length, drop, ltb}
use Rattle.std.proofs.Math.Option.{Option, none, some}
use Rattle.term.specs.Choice.{Test, ◌⇒◌, first, ◌>>=◌, is_none}
use Rattle.term.specs.Term.{Term, size}
use Rattle.term.specs.Table.{table_of}
use Rattle.text.specs.Bytes.{class_of, is_foreign}
use Rattle.text.specs.Tokens.{tokens, any_bad_name}
use Rattle.text.specs.Grammar.{phrase_tree}
use Rattle.text.specs.Parse.{parse}
use Rattle.text.specs.Binding.{nameless}

-- the answer, and the table slice after the call
pub record Read : Type 0 where
  pub n : ℕ
  pub refusal : ℕ  -- 0 for none
  pub table : List ℕ

-- "Text is at most 3,000 bytes."
abbrev pub most_bytes : ℕ
most_bytes = 3000

abbrev pub any_foreign : List ℕ → Bool
any_foreign [] = false
any_foreign (b ∷ s) = is_foreign (class_of b) || any_foreign s

-- the term without names that a text means
unfoldable pub meant : List ℕ → Option Term
meant text = parse (tokens text) >>= λ p. nameless (phrase_tree p) []

-- "table slice under 5 × n words"
abbrev pub too_short : Option Term → List ℕ → Bool
too_short none table = false
too_short (some t) table = ltb (length table) (5 * size t)

-- the three numbers that look at bytes and names alone
abbrev pub spelling_tests : List ℕ → List (Test ℕ)
spelling_tests text = (ltb most_bytes (length text) ⇒ 1) ∷ (any_foreign text ⇒ 2) ∷ (any_bad_name (tokens text) ⇒ 3) ∷ []

-- "The nine numbers, in order of test": the reader's.
unfoldable pub reader_number : List ℕ → List ℕ → Option ℕ
reader_number text table =
    first (
    spelling_tests text
    ++ ((is_none (parse (tokens text)) ⇒ 4)
    ∷ (is_none (meant text) ⇒ 5)
    ∷ (too_short (meant text) table ⇒ 6)
    ∷ [])
    )

-- "A refused reader answers n as 0", and no lent word differs.
abbrev pub refused : ℕ → List ℕ → Read
refused k table = record { n = 0; refusal = k; table = table }

-- "The reader answers n." Words after the first 5 × n keep their values.
abbrev pub laid_out : Term → List ℕ → Read
laid_out t table = record { n = size t; refusal = 0; table = table_of t ++ drop (5 * size t) table }

-- The last case does not come: a text that means no term has a number.
abbrev pub answer : Option ℕ → Option Term → List ℕ → Read
answer (some k) o table = refused k table
answer none (some t) table = laid_out t table
answer none none table = refused 5 table

unfoldable pub read_of : List ℕ → List ℕ → Read
read_of text table = answer (reader_number text table) (meant text) table
