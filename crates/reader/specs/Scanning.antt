-- A text by positions: how far a name and a gap reach, and the names that stand at the positions of a scope.
use Rattle.std.specs.Prelude.{Bool, true, false, cond, List, [], ◌∷◌, ℕ, suc, take, drop}
use Rattle.text.specs.Bytes.{Class, letter, digit, blank, sign, foreign, class_of, in_name}
use Rattle.text.specs.Tokens.{Name}

-- neither a byte of a name nor a sign
abbrev pub in_gap : Class → Bool
in_gap letter = false
in_gap digit = false
in_gap blank = true
in_gap sign = false
in_gap foreign = true

-- how many bytes of such classes the text begins with
unfoldable pub run_of : (Class → Bool) → List ℕ → ℕ
run_of is [] = 0
run_of is (b ∷ s) = cond (is (class_of b)) (suc (run_of is s)) 0

-- how many of a name
abbrev pub name_run : List ℕ → ℕ
name_run s = run_of in_name s

-- how many stand before its first token
abbrev pub gap_run : List ℕ → ℕ
gap_run s = run_of in_gap s

-- the name that stands at a position
abbrev pub name_at : List ℕ → ℕ → Name
name_at text a = take (name_run (drop a text)) (drop a text)

-- the names that stand at the positions of a scope, whose last is the innermost; innermost first
unfoldable pub names_at : List ℕ → List ℕ → List Name → List Name
names_at text [] around = around
names_at text (a ∷ scope) around = names_at text scope (name_at text a ∷ around)
