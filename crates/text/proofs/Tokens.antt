-- The pieces of a text are the only ones that spell it, and what the tokens of a text are by its first byte or its first name.
use mathlib.Core.Path.{◌≡◌, refl, sym, ap, ◌∙◌, subst, subst⁻¹}
use mathlib.Core.Logic.{◌↔◌}
use mathlib.Core.Bool.{true, false}
use mathlib.Core.List.{List, [], ◌∷◌, ◌++◌}
use Prim.Native.Nat.{ℕ, ◌≤◌}
use native.Mathlib.Omega.{arith}
use lib.ListN.{length}
use Rattle.text.specs.Bytes.{Class, letter, digit, blank, sign, foreign, class_of, in_name}
use Rattle.text.specs.Tokens.{Name, mark, name, Piece, gap, token, into_name, put_byte, pieces, tokens_of, tokens, spelled, AllInName, IsGap, NotName, ArePieces}

-- One more byte in front spells one more byte,
into_name_spells : (b : ℕ) (ps : List Piece) → spelled (into_name b ps) ≡ b ∷ spelled ps
into_name_spells b [] = refl
into_name_spells b (gap c ∷ ps) = refl
into_name_spells b (token (mark c) ∷ ps) = refl
into_name_spells b (token (name x) ∷ ps) = refl

put_byte_spells : (c : Class) (b : ℕ) (ps : List Piece) → spelled (put_byte c b ps) ≡ b ∷ spelled ps
put_byte_spells letter b ps = into_name_spells b ps
put_byte_spells digit b ps = into_name_spells b ps
put_byte_spells blank b ps = refl
put_byte_spells sign b ps = refl
put_byte_spells foreign b ps = refl

pub pieces_spell : (s : List ℕ) → spelled (pieces s) ≡ s
unfolding pieces
pieces_spell [] = refl
pieces_spell (b ∷ s) = put_byte_spells (class_of b) b (pieces s) ∙ ap {B = List ℕ} (λ r. b ∷ r) (pieces_spell s)

-- and leaves pieces that are what their bytes say.
into_name_are : (b : ℕ) (ps : List Piece) → in_name (class_of b) ≡ true → ArePieces ps → ArePieces (into_name b ps)
into_name_are b [] h are = ((omega arith, (h, tt)), tt, tt)
into_name_are b (gap c ∷ ps) h are = ((omega arith, (h, tt)), tt, are)
into_name_are b (token (mark c) ∷ ps) h are = ((omega arith, (h, tt)), tt, are)
into_name_are b (token (name x) ∷ ps) h are = ((omega arith, (h, are.0.1)), are.1, are.2)

put_byte_are : (c : Class) (b : ℕ) (ps : List Piece) → class_of b ≡ c → ArePieces ps → ArePieces (put_byte c b ps)
put_byte_are letter b ps e are = into_name_are b ps (ap in_name e) are
put_byte_are digit b ps e are = into_name_are b ps (ap in_name e) are
put_byte_are blank b ps e are = (subst⁻¹ IsGap e tt, tt, are)
put_byte_are sign b ps e are = (e, tt, are)
put_byte_are foreign b ps e are = (subst⁻¹ IsGap e tt, tt, are)

pub pieces_are : (s : List ℕ) → ArePieces (pieces s)
unfolding pieces
pieces_are [] = tt
pieces_are (b ∷ s) = put_byte_are (class_of b) b (pieces s) refl (pieces_are s)

-- A gap, a sign, and a name in front of a text, where the text does not go on with the name.
put_byte_gap : (c : Class) (b : ℕ) (ps : List Piece) → IsGap c → put_byte c b ps ≡ gap b ∷ ps
put_byte_gap letter b ps g = absurd g
put_byte_gap digit b ps g = absurd g
put_byte_gap blank b ps g = refl
put_byte_gap sign b ps g = absurd g
put_byte_gap foreign b ps g = refl

pieces_gap : (b : ℕ) (s : List ℕ) → IsGap (class_of b) → pieces (b ∷ s) ≡ gap b ∷ pieces s
unfolding pieces
pieces_gap b s g = put_byte_gap (class_of b) b (pieces s) g

pieces_mark : (b : ℕ) (s : List ℕ) → class_of b ≡ sign → pieces (b ∷ s) ≡ token (mark b) ∷ pieces s
unfolding pieces
pieces_mark b s e = ap (λ (c : Class). put_byte c b (pieces s)) e

put_byte_name : (c : Class) (b : ℕ) (ps : List Piece) → in_name c ≡ true → put_byte c b ps ≡ into_name b ps
put_byte_name letter b ps h = refl
put_byte_name digit b ps h = refl
put_byte_name blank b ps h = cc
put_byte_name sign b ps h = cc
put_byte_name foreign b ps h = cc

into_name_apart : (b : ℕ) (ps : List Piece) → NotName ps → into_name b ps ≡ token (name (b ∷ [])) ∷ ps
into_name_apart b [] n = refl
into_name_apart b (gap c ∷ ps) n = refl
into_name_apart b (token (mark c) ∷ ps) n = refl
into_name_apart b (token (name x) ∷ ps) n = absurd n

pieces_name : (x : Name) (s : List ℕ) → 1 ≤ length x → AllInName x → NotName (pieces s) → pieces (x ++ s) ≡ token (name x) ∷ pieces s
unfolding pieces
pieces_name [] s l h n = absurd (omega arith)
pieces_name (b ∷ []) s l h n = put_byte_name (class_of b) b (pieces s) h.0 ∙ into_name_apart b (pieces s) n
pieces_name (b ∷ c ∷ x) s l h n =
    put_byte_name (class_of b) b (pieces (c ∷ x ++ s)) h.0 ∙ ap (into_name b) (pieces_name (c ∷ x) s (omega arith) h.1 n)

-- Pieces that are what their bytes say are the pieces of what they spell.
pieces_only : (ps : List Piece) → ArePieces ps → pieces (spelled ps) ≡ ps
unfolding pieces
pieces_only [] are = refl
pieces_only (gap b ∷ ps) are = pieces_gap b (spelled ps) are.0 ∙ ap {B = List Piece} (λ r. gap b ∷ r) (pieces_only ps are.2)
pieces_only (token (mark b) ∷ ps) are =
    pieces_mark b (spelled ps) are.0 ∙ ap {B = List Piece} (λ r. token (mark b) ∷ r) (pieces_only ps are.2)
pieces_only (token (name x) ∷ ps) are =
    let ih : pieces (spelled ps) ≡ ps = pieces_only ps are.2 in
    pieces_name x (spelled ps) are.0.0 are.0.1 (subst⁻¹ NotName ih are.1) ∙ ap {B = List Piece} (λ r. token (name x) ∷ r) ih

pub pieces_exactly : (s : List ℕ) (ps : List Piece) → (pieces s ≡ ps) ↔ ((spelled ps ≡ s) × ArePieces ps)
pieces_exactly s ps = (
  λ e. (subst (λ (qs : List Piece). spelled qs ≡ s) e (pieces_spell s), subst ArePieces e (pieces_are s)),
  λ h. ap pieces (sym h.0) ∙ pieces_only ps h.1,
)

-- A text that does not begin with a byte of a name: a name in front of it ends there.
abbrev pub NameEnds : List ℕ → Type 0
NameEnds [] = Unit
NameEnds (b ∷ s) = in_name (class_of b) ≡ false

put_byte_ends : (c : Class) (b : ℕ) (ps : List Piece) → in_name c ≡ false → NotName (put_byte c b ps)
put_byte_ends letter b ps h = let z : ◌≡◌ {A = ℕ} 0 1 = cc in absurd (omega arith)
put_byte_ends digit b ps h = let z : ◌≡◌ {A = ℕ} 0 1 = cc in absurd (omega arith)
put_byte_ends blank b ps h = tt
put_byte_ends sign b ps h = tt
put_byte_ends foreign b ps h = tt

ends_apart : (s : List ℕ) → NameEnds s → NotName (pieces s)
unfolding pieces
ends_apart [] h = tt
ends_apart (b ∷ s) h = put_byte_ends (class_of b) b (pieces s) h

-- The tokens of a text, by what stands first in it.
pub tokens_nil : tokens [] ≡ []
unfolding pieces
tokens_nil = refl

pub tokens_blank : (b : ℕ) (s : List ℕ) → class_of b ≡ blank → tokens (b ∷ s) ≡ tokens s
tokens_blank b s e = ap tokens_of (pieces_gap b s (subst⁻¹ IsGap e tt))

pub tokens_mark : (b : ℕ) (s : List ℕ) → class_of b ≡ sign → tokens (b ∷ s) ≡ mark b ∷ tokens s
tokens_mark b s e = ap tokens_of (pieces_mark b s e)

pub tokens_name : (x s : List ℕ) → 1 ≤ length x → AllInName x → NameEnds s → tokens (x ++ s) ≡ name x ∷ tokens s
tokens_name x s l h e = ap tokens_of (pieces_name x s l h (ends_apart s e))
