-- Numbers 1 to 3 do not apply to a text that was written, if it is short enough.
use mathlib.Core.Path.{◌≡◌, refl, subst⁻¹}
use mathlib.Core.Bool.{Bool, true, false}
use mathlib.Core.List.{List, [], ◌∷◌, ◌++◌}
use Prim.Native.Nat.{ℕ, ◌≤◌}
use lib.ListN.{length}
use Rattle.term.specs.Term.{Term, size, Closed}
use Rattle.term.specs.Accepted.{most_nodes}
use Rattle.text.specs.Bytes.{Class, letter, digit, blank, sign, foreign, dot, closing, space, class_of, is_foreign, in_name}
use Rattle.text.specs.Tokens.{Name, Token, mark, name, AllInName}
use Rattle.text.specs.Grammar.{Tree, variable, binder, apply}
use Rattle.text.specs.Reading.{most_bytes, any_foreign}
use Rattle.text.specs.Exactly.{GoodNames, WellSpelled}
use Rattle.text.specs.Written.{named_tree, function_needs, argument_needs, enclosed, tree_text, text_of}
use Rattle.text.proofs.Exactly.{neither, none_foreign}
use Rattle.text.proofs.Written.{enclosed_tokens, tree_tokens, Names, IsName, text_tokens}
use Rattle.text.proofs.Names.{GoodName, tree_names, term_names}

-- No byte of a text is foreign,
clean_append : (s r : List ℕ) → any_foreign s ≡ false → any_foreign r ≡ false → any_foreign (s ++ r) ≡ false
clean_append [] r h i = i
clean_append (b ∷ s) r h i = let k = neither (is_foreign (class_of b)) (any_foreign s) h in rw k.0 (clean_append s r k.1 i)

name_class : (c : Class) → in_name c ≡ true → is_foreign c ≡ false
name_class letter h = refl
name_class digit h = refl
name_class blank h = refl
name_class sign h = refl
name_class foreign h = cc

name_clean : (x : Name) → AllInName x → any_foreign x ≡ false
name_clean [] h = refl
name_clean (b ∷ x) h = rw (name_class (class_of b) h.0) (name_clean x h.1)

enclosed_clean : (b : Bool) (s : List ℕ) → any_foreign s ≡ false → any_foreign (enclosed b s) ≡ false
unfolding class_of
enclosed_clean true s h = clean_append s (closing ∷ []) h refl
enclosed_clean false s h = h

tree_clean : (t : Tree) → Names IsName t → any_foreign (tree_text t) ≡ false
unfolding tree_text class_of
tree_clean (variable x) g = name_clean x g.1
tree_clean (binder x t) g = clean_append x (dot ∷ tree_text t) (name_clean x g.0.1) (tree_clean t g.1)
tree_clean (apply f a) g =
    clean_append (enclosed (function_needs f) (tree_text f)) (space ∷ enclosed (argument_needs a) (tree_text a))
    (enclosed_clean (function_needs f) (tree_text f) (tree_clean f g.0))
    (enclosed_clean (argument_needs a) (tree_text a) (tree_clean a g.1))

-- and its names are those of the tree.
good_append : (ts us : List Token) → GoodNames ts → GoodNames us → GoodNames (ts ++ us)
good_append [] us h i = i
good_append (mark b ∷ ts) us h i = good_append ts us h i
good_append (name x ∷ ts) us h i = (h.0, h.1, good_append ts us h.2 i)

enclosed_good : (b : Bool) (ts : List Token) → GoodNames ts → GoodNames (enclosed_tokens b ts)
enclosed_good true ts h = good_append ts (mark closing ∷ []) h tt
enclosed_good false ts h = h

tree_good : (t : Tree) → Names GoodName t → GoodNames (tree_tokens t)
unfolding tree_tokens
tree_good (variable x) g = g
tree_good (binder x t) g = (g.0.0, g.0.1, tree_good t g.1)
tree_good (apply f a) g =
    good_append (enclosed_tokens (function_needs f) (tree_tokens f)) (enclosed_tokens (argument_needs a) (tree_tokens a))
    (enclosed_good (function_needs f) (tree_tokens f) (tree_good f g.0))
    (enclosed_good (argument_needs a) (tree_tokens a) (tree_good a g.1))

pub text_spelled : (t : Term) → Closed t → size t ≤ most_nodes → length (text_of t) ≤ most_bytes → WellSpelled (text_of t)
unfolding text_of
text_spelled t closed few short = record {
  few_bytes = short;
  no_foreign = (none_foreign (tree_text (named_tree t))).0 (tree_clean (named_tree t) (tree_names t [] 1));
  good_names = subst⁻¹ GoodNames (text_tokens (named_tree t) (tree_names t [] 1)) (tree_good (named_tree t) (term_names t closed few));
}
