-- What is read out of a slice is of the table, and laid down again it makes the same slice.
use mathlib.Core.Path.{◌≡◌, refl, sym, ap, ap₂, ◌∙◌, subst}
use mathlib.Core.Bool.{Bool, true, false, cond, and-eq-true_iff}
use mathlib.Core.Option.{Option, none, some}
use mathlib.Core.List.{List, [], ◌∷◌, ◌++◌, reverse, append_assoc, append-nil}
use Prim.Native.Nat.{ℕ, zero, suc, ◌-◌, ◌≤◌}
use native.Mathlib.Nat.{not-suc-le-zero, le_of_suc-le-suc}
use native.Mathlib.Omega.{arith}
use lib.ListN.{length, take, drop, replicate, length-reverse, take-append-drop, length-drop}
use lib.Seq.{length-take-le}
use lib.Dec.{eqb}
use borrow.Author.Tests.{eqb-true}
use Rattle.term.specs.Choice.{◌>>=◌}
use Rattle.term.specs.Table.{Table, arity, variable, kind_at}
use Rattle.machine.specs.Entries.{entry, Log, ε, ◌▸◌, how_many, topmost, rest, bullet, held, Tape, entry_words, log_words, tape_words}
use Rattle.machine.specs.Good.{LogIn, TapeIn}
use Rattle.machine.specs.Slice.{slice, makes_entry, put_on_log, read_log, held_on, put_on_tape, read_tape, all_zero}
use Rattle.machine.proofs.Logs.{topmost_rest, how_many_topmost, topmost_in, rest_in, words_onto}
use Rattle.machine.proofs.Tests.{entry_made}
use Rattle.machine.proofs.Load.{reverse_apart}

-- A list of any kind that a word was put on, and one that words were read onto from the low end.
abbrev PutIf : {A : Type 0} → (A → Type 0) → (A → List ℕ) → ℕ → A → Option A → Type 0
PutIf In words v a none = Unit
PutIf In words v a (some b) = In b × (words b ≡ v ∷ words a)

abbrev ReadIf : {A : Type 0} → (A → Type 0) → (A → List ℕ) → List ℕ → A → Option A → Type 0
ReadIf In words ws a none = Unit
ReadIf In words ws a (some b) = In b × (reverse (words b) ≡ reverse (words a) ++ ws)

module _ {A : Type 0} (In : A → Type 0) (words : A → List ℕ) (put : ℕ → A → Option A) (read : List ℕ → A → Option A)
    (read_none : (a : A) → read [] a ≡ some a) (read_more : (v : ℕ) (ws : List ℕ) (a : A) → read (v ∷ ws) a ≡ (put v a >>= λ b. read ws b))
    (put_one : (v : ℕ) (a : A) → In a → PutIf In words v a (put v a)) where
  widen : (v : ℕ) (ws : List ℕ) (a b : A) (o : Option A) → words b ≡ v ∷ words a → ReadIf In words ws b o → ReadIf In words (v ∷ ws) a o
  widen v ws a b none e h = tt
  widen v ws a b (some c) e h = (h.0, h.1 ∙ ap (λ q. reverse q ++ ws) e ∙ reverse_apart (v ∷ []) (words a) ws)

  read_all : (ws : List ℕ) (a : A) → In a → ReadIf In words ws a (read ws a)
  read_all [] a h = subst (ReadIf In words [] a) (sym (read_none a)) (h, sym (append-nil (reverse (words a))))
  read_all (v ∷ ws) a h = subst (ReadIf In words (v ∷ ws) a) (sym (read_more v ws a)) (more (λ b g. read_all ws b g) (put v a) (put_one v a h))
    where
      more : ((b : A) → In b → ReadIf In words ws b (read ws b)) → (o : Option A) → PutIf In words v a o → ReadIf In words (v ∷ ws) a (o >>= λ b. read ws b)
      more f none p = tt
      more f (some b) p = widen v ws a b (read ws b) p.1 (f b p.0)

module _ (T : Table) where
  -- a log
  put_log : (v : ℕ) (L : Log) (b : Bool) → (b ≡ true → (kind_at T v ≡ variable) × (arity T v ≤ how_many L)) → LogIn T L
      → PutIf (LogIn T) log_words v L (cond b (some (entry v (topmost (arity T v) L) ▸ rest (arity T v) L)) none)
  put_log v L false h g = tt
  put_log v L true h g = (
    (((h refl).0, how_many_topmost (arity T v) L (h refl).1, topmost_in T (arity T v) L g), rest_in T (arity T v) L g),
    ap (λ q. v ∷ q) (sym (words_onto (topmost (arity T v) L) (rest (arity T v) L)) ∙ ap log_words (topmost_rest (arity T v) L)),
  )

  pub log_valid : (ws : List ℕ) (L : Log) → read_log T ws ε ≡ some L → LogIn T L × (reverse (log_words L) ≡ ws)
  unfolding read_log put_on_log
  log_valid ws L e = subst (ReadIf (LogIn T) log_words ws ε) e
      (read_all (LogIn T) log_words (put_on_log T) (read_log T) (λ M. refl) (λ v vs M. refl)
      (λ v M g. put_log v M (makes_entry T v (how_many M)) (entry_made T v (how_many M)) g) ws ε tt)

  -- a tape
  held_in : (t : Tape) → TapeIn T t → LogIn T (held_on t)
  held_in [] h = tt
  held_in (bullet ∷ t) h = tt
  held_in (held e ∷ t) h = (h.0, held_in t h.1)

  under_in : (a : ℕ) (t : Tape) → TapeIn T t → TapeIn T (drop a t)
  under_in zero t h = h
  under_in (suc a) [] h = tt
  under_in (suc a) (bullet ∷ t) h = under_in a t h
  under_in (suc a) (held e ∷ t) h = under_in a t h.1

  words_under : (a : ℕ) (t : Tape) → a ≤ how_many (held_on t) → log_words (topmost a (held_on t)) ++ tape_words (drop a t) ≡ tape_words t
  words_under zero t h = refl
  words_under (suc a) [] h = absurd (not-suc-le-zero h)
  words_under (suc a) (bullet ∷ t) h = absurd (not-suc-le-zero h)
  words_under (suc a) (held e ∷ t) h =
      append_assoc (entry_words e) (log_words (topmost a (held_on t))) (tape_words (drop a t)) ∙ ap (λ q. entry_words e ++ q) (words_under a t (le_of_suc-le-suc h))

  put_held : (v : ℕ) (t : Tape) (b : Bool) → (b ≡ true → (kind_at T v ≡ variable) × (arity T v ≤ how_many (held_on t))) → TapeIn T t
      → PutIf (TapeIn T) tape_words v t (cond b (some (held (entry v (topmost (arity T v) (held_on t))) ∷ drop (arity T v) t)) none)
  put_held v t false h g = tt
  put_held v t true h g = (
    (((h refl).0, how_many_topmost (arity T v) (held_on t) (h refl).1, topmost_in T (arity T v) (held_on t) (held_in t g)), under_in (arity T v) t g),
    ap (λ q. v ∷ q) (words_under (arity T v) t (h refl).1),
  )

  put_tape : (v : ℕ) (t : Tape) → TapeIn T t → PutIf (TapeIn T) tape_words v t (put_on_tape T v t)
  unfolding put_on_tape
  put_tape zero t g = (g, refl)
  put_tape (suc v) t g = put_held (suc v) t (makes_entry T (suc v) (how_many (held_on t))) (entry_made T (suc v) (how_many (held_on t))) g

  pub tape_valid : (ws : List ℕ) (t : Tape) → read_tape T ws [] ≡ some t → TapeIn T t × (reverse (tape_words t) ≡ ws)
  unfolding read_tape
  tape_valid ws t e = subst (ReadIf (TapeIn T) tape_words ws []) e
      (read_all (TapeIn T) tape_words (put_on_tape T) (read_tape T) (λ u. refl) (λ v vs u. refl) put_tape ws [] tt)

-- the slice around the words
zeros_only : (xs : List ℕ) → all_zero xs ≡ true → xs ≡ replicate (length xs) 0
unfolding all_zero
zeros_only [] h = refl
zeros_only (x ∷ xs) h =
    let both = (and-eq-true_iff (eqb x 0) (all_zero xs)).0 h in
    ap₂ (λ y ys. y ∷ ys) (eqb-true x 0 both.0) (zeros_only xs both.1)

pub laid : (ws s : List ℕ) (l : ℕ) → l ≤ length s → reverse ws ≡ take l s → all_zero (drop l s) ≡ true → slice (length s) ws ≡ s
unfolding slice
laid ws s l h e z =
    ap₂ (λ q k. q ++ replicate k 0) e above
    ∙ ap (λ q. take l s ++ q) (sym (zeros_only (drop l s) z))
    ∙ take-append-drop l s
  where
    above : length s - length ws ≡ length (drop l s)
    above =
        let front : length ws ≡ l = sym (length-reverse ws) ∙ ap length e ∙ length-take-le l s h in
        let back : length (drop l s) ≡ length s - l = length-drop l s in
        omega arith
