-- How far a name and a gap reach, what the tokens of a text are from there, and the names of a scope that has one binder more.
use mathlib.Core.Path.{◌≡◌, refl, sym, ap, ◌∙◌}
use mathlib.Core.Logic.{◌⊎◌, inl, inr}
use mathlib.Core.Bool.{Bool, true, false, cond}
use mathlib.Core.List.{List, [], ◌∷◌, ◌++◌}
use Prim.Native.Nat.{ℕ, suc, ◌≤◌}
use native.Mathlib.Omega.{arith}
use lib.ListN.{length, take, drop, take-append-drop, length-take}
use Rattle.text.specs.Bytes.{Class, letter, digit, blank, sign, foreign, class_of, in_name}
use Rattle.text.specs.Tokens.{Name, name, Piece, put_byte, pieces, tokens_of, tokens, AllInName}
use Rattle.reader.specs.Scanning.{in_gap, run_of, name_run, gap_run, name_at, names_at}
use Rattle.text.proofs.Tokens.{NameEnds, tokens_nil, tokens_name}
use Rattle.reader.proofs.Runs.{run_fits, run_first, run_done}

-- A run is within its text.
pub gap_fits : (s : List ℕ) → gap_run s ≤ length s
gap_fits s = run_fits in_gap s

pub name_fits : (s : List ℕ) → name_run s ≤ length s
name_fits s = run_fits in_name s

-- A gap has no tokens, and none follows it.
tokens_put_gap : (c : Class) (b : ℕ) (ps : List Piece) → in_gap c ≡ true → tokens_of (put_byte c b ps) ≡ tokens_of ps
tokens_put_gap letter b ps h = let z : ◌≡◌ {A = ℕ} 0 1 = cc in absurd (omega arith)
tokens_put_gap digit b ps h = let z : ◌≡◌ {A = ℕ} 0 1 = cc in absurd (omega arith)
tokens_put_gap blank b ps h = refl
tokens_put_gap sign b ps h = let z : ◌≡◌ {A = ℕ} 0 1 = cc in absurd (omega arith)
tokens_put_gap foreign b ps h = refl

pub skip_tokens : (s : List ℕ) → tokens (drop (gap_run s) s) ≡ tokens s
unfolding run_of pieces
skip_tokens [] = refl
skip_tokens (b ∷ s) = by_test (in_gap (class_of b)) (tokens_put_gap (class_of b) b (pieces s)) (skip_tokens s)
  where
    by_test : (t : Bool) → (t ≡ true → tokens (b ∷ s) ≡ tokens s) → tokens (drop (gap_run s) s) ≡ tokens s
        → tokens (drop (cond t (suc (gap_run s)) 0) (b ∷ s)) ≡ tokens (b ∷ s)
    by_test true gap ih = ih ∙ sym (gap refl)
    by_test false gap ih = refl

pub no_gap : (s : List ℕ) → gap_run (drop (gap_run s) s) ≡ 0
no_gap s = run_done in_gap s

-- A run of bytes of names is a whole name, and its text begins with the token of it.
name_all : (s : List ℕ) → AllInName (take (name_run s) s)
unfolding run_of
name_all [] = tt
name_all (b ∷ s) = by_test (in_name (class_of b)) refl (name_all s)
  where
    by_test : (t : Bool) → in_name (class_of b) ≡ t → AllInName (take (name_run s) s) → AllInName (take (cond t (suc (name_run s)) 0) (b ∷ s))
    by_test true e ih = (e, ih)
    by_test false e ih = tt

pub no_name_ends : (s : List ℕ) → name_run s ≡ 0 → NameEnds s
no_name_ends [] h = tt
no_name_ends (b ∷ s) h = by_test (in_name (class_of b)) refl
  where
    by_test : (t : Bool) → in_name (class_of b) ≡ t → t ≡ false
    by_test true e = absurd (omega (arith, run_first in_name b s e))
    by_test false e = refl

pub name_length : (s : List ℕ) → length (take (name_run s) s) ≡ name_run s
name_length s = length-take (name_run s) s ∙ omega (arith, name_fits s)

pub name_tokens : (s : List ℕ) → 1 ≤ name_run s → tokens s ≡ name (take (name_run s) s) ∷ tokens (drop (name_run s) s)
name_tokens s h =
    let l : 1 ≤ length (take (name_run s) s) = omega (arith, name_length s) in
    let ends : NameEnds (drop (name_run s) s) = no_name_ends (drop (name_run s) s) (run_done in_name s) in
    ap tokens (sym (take-append-drop (name_run s) s)) ∙ tokens_name (take (name_run s) s) (drop (name_run s) s) l (name_all s) ends

-- What a text begins with where no gap does: nothing, a name or a sign.
pub name_starts : (b : ℕ) (s : List ℕ) → in_name (class_of b) ≡ true → 1 ≤ name_run (b ∷ s)
name_starts b s h = omega (arith, run_first in_name b s h)

pub sign_starts : (b : ℕ) (s : List ℕ) → gap_run (b ∷ s) ≡ 0 → in_name (class_of b) ≡ false → class_of b ≡ sign
unfolding run_of
sign_starts b s = by_class (class_of b)
  where
    by_class : (c : Class) → cond (in_gap c) (suc (gap_run s)) 0 ≡ 0 → in_name c ≡ false → c ≡ sign
    by_class letter g h = cc
    by_class digit g h = cc
    by_class blank g h = absurd (omega arith)
    by_class sign g h = refl
    by_class foreign g h = absurd (omega arith)

abbrev pub FirstToken : List ℕ → Type 0
FirstToken [] = tokens [] ≡ []
FirstToken (b ∷ s) = ((in_name (class_of b) ≡ true) × (1 ≤ name_run (b ∷ s))) ⊎ ((in_name (class_of b) ≡ false) × (class_of b ≡ sign))

pub first_token : (s : List ℕ) → gap_run s ≡ 0 → FirstToken s
first_token [] g = tokens_nil
first_token (b ∷ s) g = by_test (in_name (class_of b)) refl
  where
    by_test : (t : Bool) → in_name (class_of b) ≡ t → FirstToken (b ∷ s)
    by_test true e = inl (e, name_starts b s e)
    by_test false e = inr (e, sign_starts b s g e)

-- One binder more, which is the innermost.
pub names_at_snoc : (text : List ℕ) (scope : List ℕ) (a : ℕ) (around : List Name)
    → names_at text (scope ++ (a ∷ [])) around ≡ name_at text a ∷ names_at text scope around
unfolding names_at
names_at_snoc text [] a around = refl
names_at_snoc text (x ∷ scope) a around = names_at_snoc text scope a (name_at text x ∷ around)
