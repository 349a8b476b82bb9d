-- The names that the writer gives: they pass numbers 2 and 3, each means its own binder, and a term's text means the term.
use mathlib.Core.Path.{◌≡◌, refl}
use mathlib.Core.Bool.{Bool, true, false}
use mathlib.Core.Option.{some}
use mathlib.Core.List.{List, [], ◌∷◌}
use Prim.Native.Nat.{ℕ, zero, suc, ◌+◌, ◌*◌, ◌≤◌, ◌<◌}
use native.Mathlib.Omega.{arith}
use lib.ListN.{length, get_or, length-append}
use borrow.Author.Tests.{le-leb, lt-leb}
use Rattle.decimal.specs.Decimal.{decimal, AllDigits}
use Rattle.decimal.proofs.Decimal.{decimal_is, decimal_apart, decimal_few}
use Rattle.term.specs.Term.{Term, var, lam, app, size, ClosedUnder, Closed}
use Rattle.term.specs.Accepted.{most_nodes}
use Rattle.term.proofs.Scope.{Falling, falling_higher, binder_before}
use Rattle.text.specs.Bytes.{digit, dot, closing, space, class_of}
use Rattle.text.specs.Tokens.{Name, name, AllInName}
use Rattle.text.specs.Grammar.{Tree, variable, binder, apply}
use Rattle.text.specs.Binding.{nameless, Innermost, Form}
use Rattle.text.specs.Exactly.{GoodNames}
use Rattle.text.specs.Written.{node_name, tree_of, named_tree, function_needs, argument_needs, enclosed, tree_text, text_of}
use Rattle.text.specs.ReadBack.{TextMeans}
use Rattle.text.proofs.Binding.{nameless_exactly, nameless_closed}
use Rattle.text.proofs.Size.{nodes, size_nodes}
use Rattle.text.proofs.Written.{Names, IsName, text_derives}

-- A digit is a byte of a name.
pub digit_class : (b : ℕ) → 48 ≤ b → b ≤ 57 → class_of b ≡ digit
unfolding class_of
digit_class b l u = rw (lt-leb 97 b (omega arith), le-leb 48 b l, le-leb b 57 u)

digits_in_name : (s : List ℕ) → AllDigits s → AllInName s
digits_in_name [] h = tt
digits_in_name (b ∷ s) h = (rw (digit_class b h.0 h.1), digits_in_name s h.2)

node_name_lem : (i : ℕ) → IsName (node_name i)
unfolding class_of
node_name_lem i = (omega arith, (refl, digits_in_name (decimal i) (decimal_is i).digits))

pub tree_names : (t : Term) (bs : List ℕ) (i : ℕ) → Names IsName (tree_of t bs i)
unfolding tree_of
tree_names (var x) bs i = node_name_lem (get_or bs x 0)
tree_names (lam b) bs i = (node_name_lem i, tree_names b (i ∷ bs) (suc i))
tree_names (app f a) bs i = (tree_names f bs (suc i), tree_names a bs (suc i + size f))

-- Number 3 lets a name pass whose node is one of a table's: it has at most 5 bytes, and v is no digit.
abbrev pub GoodName : Name → Type 0
GoodName x = GoodNames (name x ∷ [])

name_good : (i : ℕ) → i ≤ most_nodes → GoodName (node_name i)
unfolding class_of
name_good i h = let few = decimal_few 3 i (omega arith) in (omega arith, refl, tt)

names_good : (t : Term) (bs : List ℕ) (i : ℕ) → Falling i bs → ClosedUnder (length bs) t → i + size t ≤ suc most_nodes
    → Names GoodName (tree_of t bs i)
unfolding tree_of
names_good (var x) bs i f c h = let b = binder_before i bs x f c in name_good (get_or bs x 0) (omega arith)
names_good (lam b) bs i f c h = (name_good i (omega arith), names_good b (i ∷ bs) (suc i) (omega arith, f) c (omega arith))
names_good (app g a) bs i f c h = (
  names_good g bs (suc i) (falling_higher i (suc i) bs (omega arith) f) c.0 (omega arith),
  names_good a bs (suc i + size g) (falling_higher i (suc i + size g) bs (omega arith) f) c.1 (omega arith),
)

-- Each name means its own binder: those within it have others.
names_of : List ℕ → List Name
names_of [] = []
names_of (b ∷ bs) = node_name b ∷ names_of bs

name_apart : (i j : ℕ) → node_name i ≡ node_name j → i ≡ j
name_apart i j e = decimal_apart i j (cc)

own_binder : (m : ℕ) (bs : List ℕ) (x : ℕ) → Falling m bs → x < length bs → Innermost (node_name (get_or bs x 0)) (names_of bs) x
unfolding names_of
own_binder m [] x f h = absurd (omega arith)
own_binder m (b ∷ bs) zero f h = refl
own_binder m (b ∷ bs) (suc x) f h =
    let l : x < length bs = omega arith in
    let i = binder_before b bs x f.1 l in
    (λ e. let q = name_apart (get_or bs x 0) b e in omega arith, own_binder b bs x f.1 l)

tree_form : (t : Term) (bs : List ℕ) (i : ℕ) → Falling i bs → ClosedUnder (length bs) t → Form (tree_of t bs i) (names_of bs) t
unfolding tree_of names_of
tree_form (var x) bs i f c = own_binder i bs x f c
tree_form (lam b) bs i f c = tree_form b (i ∷ bs) (suc i) (omega arith, f) c
tree_form (app g a) bs i f c = (
  tree_form g bs (suc i) (falling_higher i (suc i) bs (omega arith) f) c.0,
  tree_form a bs (suc i + size g) (falling_higher i (suc i + size g) bs (omega arith) f) c.1,
)

term_form : (t : Term) → Closed t → Form (named_tree t) [] t
unfolding names_of
term_form t closed = tree_form t [] 1 tt closed

term_nameless : (t : Term) → Closed t → nameless (named_tree t) [] ≡ some t
term_nameless t closed = (nameless_exactly (named_tree t) [] t).1 (term_form t closed)

-- The text of a closed term means the term.
pub text_means : TextMeans
unfolding text_of
text_means t closed = record {
  tree = named_tree t;
  derives = text_derives (named_tree t) (tree_names t [] 1);
  closed = (nameless_closed (named_tree t) [] t (term_nameless t closed)).0;
  form = term_form t closed;
}

pub term_names : (t : Term) → Closed t → size t ≤ most_nodes → Names GoodName (named_tree t)
term_names t closed few = names_good t [] 1 tt closed (omega arith)

-- A node takes at most 16 bytes: its name has 8 at most.
enclosed_long : (b : Bool) (s : List ℕ) → length (enclosed b s) ≤ 2 + length s
enclosed_long true s = let e = length-append s (closing ∷ []) in omega arith
enclosed_long false s = omega arith

tree_short : (t : Tree) → Names GoodName t → length (tree_text t) ≤ 16 * nodes t
unfolding tree_text
tree_short (variable x) g = omega (arith, g.0)
tree_short (binder x t) g = let e = length-append x (dot ∷ tree_text t) in omega (arith, g.0.0, tree_short t g.1)
tree_short (apply f a) g =
    let fs = enclosed (function_needs f) (tree_text f) in
    let gs = enclosed (argument_needs a) (tree_text a) in
    omega (
      arith,
      length-append fs (space ∷ gs),
      enclosed_long (function_needs f) (tree_text f),
      enclosed_long (argument_needs a) (tree_text a),
      tree_short f g.0,
      tree_short a g.1,
    )

pub text_short : (t : Term) → Closed t → size t ≤ most_nodes → length (text_of t) ≤ 16 * size t
unfolding text_of
text_short t closed few = omega (arith, size_nodes (named_tree t) [] t (term_nameless t closed), tree_short (named_tree t) (term_names t closed few))
