-- The next token of a text, from a position on: what the functions that look for it answer.
use Rattle.std.specs.Prelude.{◌≡◌, List, ℕ, ◌≤◌, ◌<◌, length, drop, Option, Some, None}
use Rattle.std.proofs.Math.Option.{none, some}
use Rattle.text.specs.Tokens.{Token, tokens}
use Rattle.text.specs.Parsed.{parsed}
use Rattle.text.specs.Parse.{after_mark, name_first}
use Rattle.reader.specs.Scanning.{name_at}

-- the tokens from a position on
abbrev pub tokens_from : List ℕ → ℕ → List Token
tokens_from text at = tokens (drop at text)

-- The next token is a given sign, with where the text goes on, or not; a name, with where it stands and ends, or none.
pub record MarkTo (b : ℕ) (text : List ℕ) (at p : ℕ) : Type 0 where
  pub is : after_mark b (tokens_from text at) ≡ some (tokens_from text p)
  pub on : at < p
  pub within : p ≤ length text

abbrev pub AfterIs : ℕ → List ℕ → ℕ → Option ℕ → Type 0
AfterIs b text at (Some p) = MarkTo b text at p
AfterIs b text at None = after_mark b (tokens_from text at) ≡ none

pub record NameTo (text : List ℕ) (at x p : ℕ) : Type 0 where
  pub is : name_first (tokens_from text at) ≡ some (parsed (name_at text x) (tokens_from text p))
  pub on : at < p
  pub within : p ≤ length text
  pub stands : x ≤ length text

abbrev pub FirstIs : List ℕ → ℕ → Option (ℕ × ℕ) → Type 0
FirstIs text at (Some (x, p)) = NameTo text at x p
FirstIs text at None = name_first (tokens_from text at) ≡ none
