-- The innermost binder of a name: its place among the names of a scope, from the last on.
use mathlib.Core.Path.{◌≡◌, refl, sym, ap, ◌∙◌}
use mathlib.Core.Bool.{Bool, true, false, not, cond}
use mathlib.Core.Option.{Option, none, some}
use mathlib.Core.List.{List, [], ◌∷◌, ◌++◌, map, reverse, reverse-cons, append-nil, append_assoc}
use Prim.Native.Nat.compare
use Prim.Native.Nat.{ℕ, suc, ◌+◌}
use native.Mathlib.Omega.{arith}
use lib.ListN.{length}
use lib.Dec.{ltb}
use borrow.Author.Tests.{lt-ltb}
use Rattle.std.specs.Prelude as Std
use Rattle.std.specs.List.{position, position_or_len}
use Rattle.std.proofs.lemmas.List.{map-append}
use Rattle.term.specs.Choice.{◌>>=◌}
use Rattle.text.specs.Tokens.{Name}
use Rattle.text.specs.Binding.{same_name, index_of}
use Rattle.reader.specs.Scanning.{name_at, names_at}
use Rattle.reader.specs.Grammar.{variable_word}

names_mapped : (text scope : List ℕ) (around : List Name) → names_at text scope around ≡ map (name_at text) (reverse scope) ++ around
unfolding names_at
names_mapped text [] around = refl
names_mapped text (a ∷ scope) around = names_mapped text scope (name_at text a ∷ around) ∙ sym (simp (reverse-cons, map-append, append_assoc))

abbrev as_index : Std.Option ℕ → Option ℕ
as_index Std.None = none
as_index (Std.Some k) = some k

index_position : (x : Name) (text scope : List ℕ) → index_of x (map (name_at text) scope) ≡ as_index (position (λ b. same_name x (name_at text b)) scope)
unfolding index_of
index_position x text [] = refl
index_position x text (y ∷ ys) =
    by_test (same_name x (name_at text y)) (position_or_len (λ b. same_name x (name_at text b)) ys) (index_of x (map (name_at text) ys)) (index_position x text ys)
  where
    by_less : (t : Bool) (n : ℕ) → (as_index (cond t (Std.Some n) Std.None) >>= λ k. some (suc k)) ≡ as_index (cond t (Std.Some (suc n)) Std.None)
    by_less true n = refl
    by_less false n = refl

    by_test : (t : Bool) (n : ℕ) (o : Option ℕ) → o ≡ as_index (cond (ltb n (length ys)) (Std.Some n) Std.None)
        → cond t (some 0) (o >>= λ k. some (suc k))
        ≡ as_index (cond (ltb (cond (not t) (1 + n) 0) (suc (length ys))) (Std.Some (cond (not t) (1 + n) 0)) Std.None)
    by_test true n o e = rw (lt-ltb 0 (suc (length ys)) (omega arith))
    by_test false n o e =
        let s : 1 + n ≡ suc n = omega arith in
        rw (s, compare.suc-suc, e) (by_less (ltb n (length ys)) n)

-- the word of a binder so far out
abbrev pub word_found : Std.Option ℕ → ℕ
word_found Std.None = 0
word_found (Std.Some k) = 3 + k

pub binder_word : (x : Name) (text scope : List ℕ) (r : Std.Option ℕ) → r ≡ position (λ b. same_name x (name_at text b)) (reverse scope)
    → word_found r ≡ variable_word (index_of x (names_at text scope []))
binder_word x text scope r e =
    ap word_found e ∙ by_found (position (λ b. same_name x (name_at text b)) (reverse scope))
    ∙ ap variable_word (sym (index_position x text (reverse scope)) ∙ ap (index_of x) (sym (names_mapped text scope [] ∙ append-nil (map (name_at text) (reverse scope)))))
  where
    by_found : (o : Std.Option ℕ) → word_found o ≡ variable_word (as_index o)
    by_found Std.None = refl
    by_found (Std.Some k) = refl
