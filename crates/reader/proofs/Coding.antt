-- The code of applied atoms: a mark for each application, and then the atoms' codes in a row. The names around a place.
use mathlib.Core.Path.{◌≡◌, sym, ap, ◌∙◌}
use mathlib.Core.List.{List, [], ◌∷◌, ◌++◌, append-nil, append_assoc}
use Prim.Native.Nat.{ℕ, suc, ◌+◌, ◌<◌}
use native.Mathlib.Numerals.{add-one}
use native.Mathlib.Omega.{arith}
use lib.ListN.{length, take, set, replicate}
use lib.Seq.{take-take, take-set-le, take-suc-set}
use Rattle.text.specs.Tokens.{Name}
use Rattle.text.specs.Grammar.{Tree, apply, Atoms, no_more, ◌and◌, atom_tree, applied}
use Rattle.reader.specs.Scanning.{name_at, names_at}
use Rattle.reader.specs.Grammar.{tree_code, atom_code, Cursor, cursor, names_around}
use Rattle.reader.proofs.Scanning.{names_at_snoc}
use Rattle.reader.proofs.Moved.{slide}

-- The code of atoms after the first, in a row.
abbrev pub atoms_code : Atoms → List Name → List ℕ
atoms_code no_more names = []
atoms_code (b and bs) names = atom_code b names ++ atoms_code bs names

-- how many there are
abbrev pub atom_count : Atoms → ℕ
atom_count no_more = 0
atom_count (b and bs) = suc (atom_count bs)

pub applied_code : (bs : Atoms) (t : Tree) (names : List Name)
    → tree_code (applied bs t) names ≡ replicate (atom_count bs) 2 ++ (tree_code t names ++ atoms_code bs names)
unfolding tree_code
applied_code no_more t names = sym (append-nil (tree_code t names))
applied_code (b and bs) t names =
    applied_code bs (apply t (atom_tree b)) names
    ∙ slide (atom_count bs) 2 ((tree_code t names ++ atom_code b names) ++ atoms_code bs names)
    ∙ ap (λ (l : List ℕ). 2 ∷ (replicate (atom_count bs) 2 ++ l)) (append_assoc (tree_code t names) (atom_code b names) (atoms_code bs names))

-- the names around a place further on, where the scope up to its depth is kept
pub around_kept : (w : Cursor) (p m : ℕ) (scope₁ out₁ : List ℕ) → take w.depth scope₁ ≡ take w.depth w.scope
    → names_around (cursor w.text p scope₁ w.depth out₁ m) ≡ names_around w
around_kept w p m scope₁ out₁ e = ap (λ (l : List ℕ). names_at w.text l []) e

-- the body of an abstraction: its place, the room there and the names around it
abbrev pub body : Cursor → ℕ → ℕ → Cursor
body w x q = cursor w.text q (set w.scope w.depth x) (w.depth + 1) (set w.out w.node 1) (w.node + 1)

pub around_body : (w : Cursor) (x q : ℕ) → w.depth < length w.scope → names_around (body w x q) ≡ name_at w.text x ∷ names_around w
around_body w x q h =
    rw (add-one w.depth, take-suc-set w.scope w.depth x h) (names_at_snoc w.text (take w.depth w.scope) x [])

pub body_kept : (w : Cursor) (x : ℕ) (scope' : List ℕ) → take (w.depth + 1) scope' ≡ take (w.depth + 1) (set w.scope w.depth x)
    → take w.depth scope' ≡ take w.depth w.scope
body_kept w x scope' e =
    let d = w.depth in
    sym (take-take d (d + 1) scope' (omega arith)) ∙ ap (take d) e
    ∙ take-take d (d + 1) (set w.scope d x) (omega arith) ∙ take-set-le d w.scope d x (omega arith)
