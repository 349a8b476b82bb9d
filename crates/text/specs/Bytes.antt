-- Document 01, "The text of a term": the classes of its bytes.
use Rattle.std.specs.Prelude.{Bool, true, false, ◌&&◌, ◌||◌, [], ◌∷◌, ℕ, leb, eqb}
use Rattle.std.proofs.Math.Option.{get_or}
use Rattle.term.specs.Choice.{◌⇒◌, first}

pub data Class : Type 0 where
  letter digit blank sign foreign : Class

-- the four signs
abbrev pub lambda : ℕ
lambda = 92

abbrev pub dot : ℕ
dot = 46

abbrev pub opening : ℕ
opening = 40

abbrev pub closing : ℕ
closing = 41

abbrev pub space : ℕ
space = 32

-- A foreign byte is one that number 2 refuses: "a byte that is no letter a to z, digit, `\`, `.`, round bracket, space or line feed".
unfoldable pub class_of : ℕ → Class
class_of b =
    get_or
    (first (
    (leb 97 b && leb b 122 ⇒ letter)
    ∷ (leb 48 b && leb b 57 ⇒ digit)
    ∷ (eqb b space || eqb b 10 ⇒ blank)
    ∷ (eqb b lambda || eqb b dot || eqb b opening || eqb b closing ⇒ sign)
    ∷ []
    ))
    foreign

abbrev pub is_foreign : Class → Bool
is_foreign foreign = true
is_foreign letter = false
is_foreign digit = false
is_foreign blank = false
is_foreign sign = false

abbrev pub is_digit : Class → Bool
is_digit digit = true
is_digit letter = false
is_digit blank = false
is_digit sign = false
is_digit foreign = false

-- a byte of a name
abbrev pub in_name : Class → Bool
in_name letter = true
in_name digit = true
in_name blank = false
in_name sign = false
in_name foreign = false
