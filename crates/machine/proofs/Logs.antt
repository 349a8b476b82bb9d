-- Laws of a log's top, rest and onto: what they make together, how many entries and words they hold, and that these are the table's.
use mathlib.Core.Path.{◌≡◌, refl, sym, ap, ◌∙◌}
use mathlib.Core.List.{◌++◌, append_assoc}
use Prim.Native.Nat.{ℕ, zero, suc, ◌+◌, ◌-◌, ◌≤◌}
use native.Mathlib.Nat.{zero-add, suc-add, sub-zero, zero-sub, suc-sub-suc, le_of_suc-le-suc, not-suc-le-zero}
use lib.ListN.{length, length-append}
use Rattle.term.specs.Table.{Table}
use Rattle.machine.specs.Entries.{Log, ε, ◌▸◌, how_many, topmost, rest, ◌onto◌, entry_words, log_words}
use Rattle.machine.specs.Good.{LogIn}

pub topmost_rest : (a : ℕ) (L : Log) → topmost a L onto rest a L ≡ L
topmost_rest zero L = refl
topmost_rest (suc a) ε = refl
topmost_rest (suc a) (e ▸ L) = ap (λ M. e ▸ M) (topmost_rest a L)

pub topmost_onto : (M L : Log) → topmost (how_many M) (M onto L) ≡ M
topmost_onto ε L = refl
topmost_onto (e ▸ M) L = ap (λ N. e ▸ N) (topmost_onto M L)

pub rest_onto : (M L : Log) → rest (how_many M) (M onto L) ≡ L
rest_onto ε L = refl
rest_onto (e ▸ M) L = rest_onto M L

pub onto_none : (M : Log) → M onto ε ≡ M
onto_none ε = refl
onto_none (e ▸ M) = ap (λ N. e ▸ N) (onto_none M)

-- how many
pub how_many_onto : (M L : Log) → how_many (M onto L) ≡ how_many M + how_many L
how_many_onto ε L = sym (zero-add (how_many L))
how_many_onto (e ▸ M) L = ap suc (how_many_onto M L) ∙ sym (suc-add (how_many M) (how_many L))

pub how_many_rest : (a : ℕ) (L : Log) → how_many (rest a L) ≡ how_many L - a
how_many_rest zero L = sym (sub-zero (how_many L))
how_many_rest (suc a) ε = sym (zero-sub (suc a))
how_many_rest (suc a) (e ▸ L) = how_many_rest a L ∙ sym (suc-sub-suc (how_many L) a)

pub how_many_topmost : (a : ℕ) (L : Log) → a ≤ how_many L → how_many (topmost a L) ≡ a
how_many_topmost zero L h = refl
how_many_topmost (suc a) ε h = absurd (not-suc-le-zero h)
how_many_topmost (suc a) (e ▸ L) h = ap suc (how_many_topmost a L (le_of_suc-le-suc h))

-- of the table
pub topmost_in : (T : Table) (a : ℕ) (L : Log) → LogIn T L → LogIn T (topmost a L)
topmost_in T zero L h = tt
topmost_in T (suc a) ε h = tt
topmost_in T (suc a) (e ▸ L) h = (h.0, topmost_in T a L h.1)

pub rest_in : (T : Table) (a : ℕ) (L : Log) → LogIn T L → LogIn T (rest a L)
rest_in T zero L h = h
rest_in T (suc a) ε h = tt
rest_in T (suc a) (e ▸ L) h = rest_in T a L h.1

pub onto_in : (T : Table) (M L : Log) → LogIn T M → LogIn T L → LogIn T (M onto L)
onto_in T ε L g h = h
onto_in T (e ▸ M) L g h = (g.0, onto_in T M L g.1 h)

-- in words
pub words_onto : (M L : Log) → log_words (M onto L) ≡ log_words M ++ log_words L
words_onto ε L = refl
words_onto (e ▸ M) L = ap (λ ws. entry_words e ++ ws) (words_onto M L) ∙ sym (append_assoc (entry_words e) (log_words M) (log_words L))

-- The words of a log are those of its top a entries and of the rest.
pub words_split : (a : ℕ) (L : Log) → length (log_words L) ≡ length (log_words (topmost a L)) + length (log_words (rest a L))
words_split a L = ap (λ M. length (log_words M)) (sym (topmost_rest a L)) ∙ ap length (words_onto (topmost a L) (rest a L)) ∙ length-append (log_words (topmost a L)) (log_words (rest a L))
