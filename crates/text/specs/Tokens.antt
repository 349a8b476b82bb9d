-- Document 01, "The text of a term": names as longest runs, and the tokens of a text.
use Rattle.std.specs.Prelude.{◌≡◌, Bool, true, false, ◌||◌, List, [], ◌∷◌, ◌++◌, ℕ, ◌≤◌, length, ltb}
use Rattle.text.specs.Bytes.{Class, letter, digit, blank, sign, foreign, class_of, is_digit, in_name}

-- the bytes of a name
abbrev pub Name : Type 0
Name = List ℕ

pub data Token : Type 0 where
  mark : ℕ → Token  -- a sign, by its byte
  name : Name → Token

-- A text in pieces: tokens, and the bytes that stand before, between and after them.
pub data Piece : Type 0 where
  gap : ℕ → Piece
  token : Token → Piece

-- One more byte of a name in front: it goes into the name that begins right after it, so that a name is "a longest run".
abbrev pub into_name : ℕ → List Piece → List Piece
into_name b [] = token (name (b ∷ [])) ∷ []
into_name b (gap c ∷ ps) = token (name (b ∷ [])) ∷ gap c ∷ ps
into_name b (token (mark c) ∷ ps) = token (name (b ∷ [])) ∷ token (mark c) ∷ ps
into_name b (token (name x) ∷ ps) = token (name (b ∷ x)) ∷ ps

-- One more byte in front, by its class. (Number 2 has refused a text with a foreign byte before its tokens matter.)
abbrev pub put_byte : Class → ℕ → List Piece → List Piece
put_byte letter b ps = into_name b ps
put_byte digit b ps = into_name b ps
put_byte blank b ps = gap b ∷ ps
put_byte sign b ps = token (mark b) ∷ ps
put_byte foreign b ps = gap b ∷ ps

unfoldable pub pieces : List ℕ → List Piece
pieces [] = []
pieces (b ∷ s) = put_byte (class_of b) b (pieces s)

-- "Space (32) and line feed (10) may stand before, between and after these."
abbrev pub tokens_of : List Piece → List Token
tokens_of [] = []
tokens_of (gap b ∷ ps) = tokens_of ps
tokens_of (token t ∷ ps) = t ∷ tokens_of ps

abbrev pub tokens : List ℕ → List Token
tokens text = tokens_of (pieces text)

-- Number 3: "a name over 8 bytes, or starting with a digit".
abbrev pub starts_with_digit : Name → Bool
starts_with_digit [] = false
starts_with_digit (b ∷ x) = is_digit (class_of b)

abbrev pub is_bad_name : Name → Bool
is_bad_name x = ltb 8 (length x) || starts_with_digit x

abbrev pub any_bad_name : List Token → Bool
any_bad_name [] = false
any_bad_name (mark b ∷ ts) = any_bad_name ts
any_bad_name (name x ∷ ts) = is_bad_name x || any_bad_name ts

-- The same in words, for the theorem `pieces_exactly` (proofs/Tokens.antt): pieces spelled out give the text,
abbrev pub piece_bytes : Piece → List ℕ
piece_bytes (gap b) = b ∷ []
piece_bytes (token (mark b)) = b ∷ []
piece_bytes (token (name x)) = x

abbrev pub spelled : List Piece → List ℕ
spelled [] = []
spelled (p ∷ ps) = piece_bytes p ++ spelled ps

-- each piece is what its bytes say: a name is one or more bytes of names, a mark is a sign, a gap is neither,
abbrev pub AllInName : Name → Type 0
AllInName [] = Unit
AllInName (b ∷ x) = (in_name (class_of b) ≡ true) × AllInName x

abbrev pub IsGap : Class → Type 0
IsGap letter = ⊥
IsGap digit = ⊥
IsGap blank = Unit
IsGap sign = ⊥
IsGap foreign = Unit

abbrev pub IsPiece : Piece → Type 0
IsPiece (gap b) = IsGap (class_of b)
IsPiece (token (mark b)) = class_of b ≡ sign
IsPiece (token (name x)) = (1 ≤ length x) × AllInName x

-- and two names are never neighbours.
abbrev pub NotName : List Piece → Type 0
NotName [] = Unit
NotName (gap b ∷ ps) = Unit
NotName (token (mark b) ∷ ps) = Unit
NotName (token (name x) ∷ ps) = ⊥

abbrev pub Apart : Piece → List Piece → Type 0
Apart (gap b) ps = Unit
Apart (token (mark b)) ps = Unit
Apart (token (name x)) ps = NotName ps

abbrev pub ArePieces : List Piece → Type 0
ArePieces [] = Unit
ArePieces (p ∷ ps) = IsPiece p × Apart p ps × ArePieces ps
