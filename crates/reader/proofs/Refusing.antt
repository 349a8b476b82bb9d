-- The numbers 2 and 3 of a text, byte by byte: whether some byte is foreign, and whether some name is bad.
use mathlib.Core.Path.{◌≡◌, refl, ap, ◌∙◌}
use mathlib.Core.Bool.{not, ◌||◌, cond}
use mathlib.Core.List.{List, [], ◌∷◌}
use Prim.Native.Nat.{ℕ}
use Rattle.std.specs.List.{list_any, slice_split, onto_first}
use Rattle.text.specs.Bytes.{Class, letter, digit, blank, sign, foreign, class_of, is_foreign, in_name}
use Rattle.text.specs.Tokens.{Name, mark, name, Piece, gap, token, into_name, put_byte, pieces, tokens_of, tokens, is_bad_name, any_bad_name}
use Rattle.text.specs.Reading.{any_foreign}

pub foreign_any : (s : List ℕ) → list_any (λ b. is_foreign (class_of b)) s ≡ any_foreign s
foreign_any [] = refl
foreign_any (b ∷ s) = ap (λ t. is_foreign (class_of b) || t) (foreign_any s)

-- The name that pieces begin with, and what follows it.
abbrev front : List Piece → Name
front [] = []
front (gap c ∷ ps) = []
front (token (mark c) ∷ ps) = []
front (token (name x) ∷ ps) = x

abbrev behind : List Piece → List Piece
behind [] = []
behind (gap c ∷ ps) = gap c ∷ ps
behind (token (mark c) ∷ ps) = token (mark c) ∷ ps
behind (token (name x) ∷ ps) = ps

-- Where a text is cut at each byte in no name, its first part is the name that its pieces begin with, and the others are bad where what follows is.
record Cut (parts : List Name) (ps : List Piece) : Type 0 where
  others : List Name
  is : parts ≡ front ps ∷ others
  bad : list_any is_bad_name others ≡ any_bad_name (tokens_of (behind ps))

cut_bad : (parts : List Name) (ps : List Piece) → Cut parts ps → list_any is_bad_name parts ≡ any_bad_name (tokens_of ps)
cut_bad parts [] c = ap (list_any is_bad_name) c.is ∙ c.bad
cut_bad parts (gap d ∷ ps) c = ap (list_any is_bad_name) c.is ∙ c.bad
cut_bad parts (token (mark d) ∷ ps) c = ap (list_any is_bad_name) c.is ∙ c.bad
cut_bad parts (token (name x) ∷ ps) c = ap (list_any is_bad_name) c.is ∙ ap (λ t. is_bad_name x || t) c.bad

cut_into : (b : ℕ) (parts : List Name) (ps : List Piece) → Cut parts ps → Cut (onto_first b parts) (into_name b ps)
cut_into b parts [] c = record { others = c.others; is = ap (onto_first b) c.is; bad = c.bad }
cut_into b parts (gap d ∷ ps) c = record { others = c.others; is = ap (onto_first b) c.is; bad = c.bad }
cut_into b parts (token (mark d) ∷ ps) c = record { others = c.others; is = ap (onto_first b) c.is; bad = c.bad }
cut_into b parts (token (name x) ∷ ps) c = record { others = c.others; is = ap (onto_first b) c.is; bad = c.bad }

cut_put : (k : Class) (b : ℕ) (parts : List Name) (ps : List Piece) → Cut parts ps → Cut (cond (not (in_name k)) ([] ∷ parts) (onto_first b parts)) (put_byte k b ps)
cut_put letter b parts ps c = cut_into b parts ps c
cut_put digit b parts ps c = cut_into b parts ps c
cut_put blank b parts ps c = record { others = parts; is = refl; bad = cut_bad parts ps c }
cut_put sign b parts ps c = record { others = parts; is = refl; bad = cut_bad parts ps c }
cut_put foreign b parts ps c = record { others = parts; is = refl; bad = cut_bad parts ps c }

cut : (s : List ℕ) → Cut (slice_split (λ b. not (in_name (class_of b))) s) (pieces s)
unfolding pieces
cut [] = record { others = []; is = refl; bad = refl }
cut (b ∷ s) = cut_put (class_of b) b (slice_split (λ c. not (in_name (class_of c))) s) (pieces s) (cut s)

-- Some part is bad exactly where some name is.
pub bad_part : (s : List ℕ) → list_any is_bad_name (slice_split (λ b. not (in_name (class_of b))) s) ≡ any_bad_name (tokens s)
bad_part s = cut_bad (slice_split (λ b. not (in_name (class_of b))) s) (pieces s) (cut s)
