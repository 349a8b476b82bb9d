-- What lies in a slice is read back.
use mathlib.Core.Path.{◌≡◌, refl, sym, ap, ◌∙◌}
use mathlib.Core.Bool.{true}
use mathlib.Core.Option.{Option, some, some-injective}
use mathlib.Core.List.{List, [], ◌∷◌, ◌++◌, reverse, reverse-append, append_assoc, append-nil}
use Prim.Native.Nat.{ℕ, zero, suc, ◌-◌, ◌≤◌}
use native.Mathlib.Nat.{not-suc-le-zero}
use native.Mathlib.Omega.{arith}
use lib.ListN.{length, take, drop, replicate, length-append, length-reverse, length-replicate}
use lib.Seq.{take_at, drop_at}
use lib.Dec.{leb}
use borrow.Author.Tests.{le-leb}
use Rattle.term.specs.Choice.{◌>>=◌}
use Rattle.term.specs.Table.{Table, arity, variable, kind_at}
use Rattle.term.specs.Facts.{Facts}
use Rattle.machine.specs.Entries.{Entry, entry, Log, ε, ◌▸◌, how_many, ◌onto◌, bullet, held, Tape, entry_words, log_words, tape_words}
use Rattle.machine.specs.Good.{EntryIn, LogIn, TapeIn}
use Rattle.machine.specs.Slice.{slice, put_on_log, read_log, held_on, put_on_tape, read_tape, all_zero}
use Rattle.machine.proofs.Logs.{topmost_onto, rest_onto, onto_none, how_many_onto}
use Rattle.machine.proofs.Nodes.{is_node}

-- The words above, once reversed, come after those below.
pub reverse_apart : (above below ys : List ℕ) → reverse (above ++ below) ++ ys ≡ reverse below ++ (reverse above ++ ys)
reverse_apart above below ys = ap (λ q. q ++ ys) (reverse-append above below) ∙ append_assoc (reverse below) (reverse above) ys

-- Where the words above lie, and what they are there.
pub words_above : (above below ys : List ℕ) → take (length above) (drop (length below) (reverse (above ++ below) ++ ys)) ≡ reverse above
words_above above below ys =
    ap (λ q. take (length above) (drop (length below) q)) (reverse_apart above below ys)
    ∙ ap (take (length above)) (drop_at (reverse below) _ (length below) (length-reverse below))
    ∙ take_at (reverse above) _ (length above) (length-reverse above)

-- A log's entries put one after the other onto a list of any kind, the top one last.
abbrev put_all : {A : Type 0} → (Entry → A → A) → Log → A → A
put_all put ε a = a
put_all put (e ▸ M) a = put e (put_all put M a)

-- A reader that makes an entry of a variable's word and the entries on top reads whole entries back.
module _ (T : Table) {A : Type 0} (put : Entry → A → A) (read : List ℕ → A → Option A)
    (makes : (v : ℕ) (es : Log) (ys : List ℕ) (a : A) → kind_at T v ≡ variable → how_many es ≡ arity T v → read (v ∷ ys) (put_all put es a) ≡ read ys (put (entry v es) a)) where
  mutual
    read_entry : (e : Entry) (ys : List ℕ) (a : A) → EntryIn T e → read (reverse (entry_words e) ++ ys) a ≡ read ys (put e a)
    read_entry (entry v es) ys a h =
        ap (λ q. read q a) (reverse_apart (v ∷ []) (log_words es) ys)
        ∙ read_entries es (v ∷ ys) a h.2
        ∙ makes v es ys a h.0 h.1

    read_entries : (M : Log) (ys : List ℕ) (a : A) → LogIn T M → read (reverse (log_words M) ++ ys) a ≡ read ys (put_all put M a)
    read_entries ε ys a h = refl
    read_entries (e ▸ M) ys a h =
        ap (λ q. read q a) (reverse_apart (entry_words e) (log_words M) ys)
        ∙ read_entries M (reverse (entry_words e) ++ ys) a h.1
        ∙ read_entry e ys (put_all put M a) h.0

-- what lies under the entries leaves them enough
enough : (M L : Log) → leb (how_many M) (how_many (M onto L)) ≡ true
enough M L = le-leb (how_many M) (how_many (M onto L)) (omega (arith, how_many_onto M L))

-- a log
all_onto : (M L : Log) → put_all (λ e N. e ▸ N) M L ≡ M onto L
all_onto ε L = refl
all_onto (e ▸ M) L = ap (λ N. e ▸ N) (all_onto M L)

module _ (T : Table) where
  log_takes : (v : ℕ) (es L : Log) → kind_at T v ≡ variable → how_many es ≡ arity T v → put_on_log T v (es onto L) ≡ some (entry v es ▸ L)
  unfolding put_on_log
  log_takes v es L k m = simp (k, ← m, enough, topmost_onto, rest_onto)

  log_makes : (v : ℕ) (es : Log) (ys : List ℕ) (L : Log) → kind_at T v ≡ variable → how_many es ≡ arity T v
      → read_log T (v ∷ ys) (put_all (λ e N. e ▸ N) es L) ≡ read_log T ys (entry v es ▸ L)
  unfolding read_log
  log_makes v es ys L k m = ap (λ M. read_log T (v ∷ ys) M) (all_onto es L) ∙ ap (λ o. o >>= λ M. read_log T ys M) (log_takes v es L k m)

  pub log_read : (L : Log) → LogIn T L → read_log T (reverse (log_words L)) ε ≡ some L
  unfolding read_log
  log_read L h =
      ap (λ q. read_log T q ε) (sym (append-nil (reverse (log_words L))))
      ∙ read_entries T (λ e N. e ▸ N) (read_log T) log_makes L [] ε h
      ∙ ap some (all_onto L ε ∙ onto_none L)

  pub same_log : (L M : Log) → LogIn T L → LogIn T M → log_words L ≡ log_words M → L ≡ M
  same_log L M g h e = some-injective L M (sym (log_read L g) ∙ ap (λ q. read_log T (reverse q) ε) e ∙ log_read M h)

-- a tape
held_all : (es : Log) (t : Tape) → held_on (put_all (λ e u. held e ∷ u) es t) ≡ es onto held_on t
held_all ε t = refl
held_all (e ▸ es) t = ap (λ M. e ▸ M) (held_all es t)

under_all : (es : Log) (t : Tape) → drop (how_many es) (put_all (λ e u. held e ∷ u) es t) ≡ t
under_all ε t = refl
under_all (e ▸ es) t = under_all es t

module _ (T : Table) (F : Facts T) where
  -- "a bullet is the word 0", and no variable is.
  tape_takes : (v : ℕ) (es : Log) (t : Tape) → kind_at T v ≡ variable → how_many es ≡ arity T v → put_on_tape T v (put_all (λ e u. held e ∷ u) es t) ≡ some (held (entry v es) ∷ t)
  unfolding put_on_tape
  tape_takes zero es t k m = absurd (not-suc-le-zero (is_node T F 0 variable k tt).from_one)
  tape_takes (suc v) es t k m = simp (k, ← m, held_all, enough, topmost_onto, under_all)

  tape_makes : (v : ℕ) (es : Log) (ys : List ℕ) (t : Tape) → kind_at T v ≡ variable → how_many es ≡ arity T v
      → read_tape T (v ∷ ys) (put_all (λ e u. held e ∷ u) es t) ≡ read_tape T ys (held (entry v es) ∷ t)
  unfolding read_tape
  tape_makes v es ys t k m = ap (λ o. o >>= λ u. read_tape T ys u) (tape_takes v es t k m)

  read_items : (t : Tape) (ys : List ℕ) (u : Tape) → TapeIn T t → read_tape T (reverse (tape_words t) ++ ys) u ≡ read_tape T ys (t ++ u)
  unfolding read_tape put_on_tape
  read_items [] ys u h = refl
  read_items (bullet ∷ t) ys u h =
      ap (λ q. read_tape T q u) (reverse_apart (0 ∷ []) (tape_words t) ys)
      ∙ read_items t (0 ∷ ys) u h
  read_items (held e ∷ t) ys u h =
      ap (λ q. read_tape T q u) (reverse_apart (entry_words e) (tape_words t) ys)
      ∙ read_items t (reverse (entry_words e) ++ ys) u h.1
      ∙ read_entry T (λ e u. held e ∷ u) (read_tape T) tape_makes e ys (t ++ u) h.0

  pub tape_read : (t : Tape) → TapeIn T t → read_tape T (reverse (tape_words t)) [] ≡ some t
  unfolding read_tape
  tape_read t h = ap (λ q. read_tape T q []) (sym (append-nil (reverse (tape_words t)))) ∙ read_items t [] [] h ∙ ap some (append-nil t)

  pub same_tape : (t u : Tape) → TapeIn T t → TapeIn T u → tape_words t ≡ tape_words u → t ≡ u
  same_tape t u g h e = some-injective t u (sym (tape_read t g) ∙ ap (λ q. read_tape T (reverse q) []) e ∙ tape_read u h)

-- the slice around the words
zeros_clean : (n : ℕ) → all_zero (replicate n 0) ≡ true
unfolding all_zero
zeros_clean zero = refl
zeros_clean (suc n) = zeros_clean n

module _ (room : ℕ) (ws : List ℕ) where
  pub slice_length : length ws ≤ room → length (slice room ws) ≡ room
  unfolding slice
  slice_length h = simp (length-append, length-reverse, length-replicate) (omega arith)

  pub slice_front : take (length ws) (slice room ws) ≡ reverse ws
  unfolding slice
  slice_front = take_at (reverse ws) _ (length ws) (length-reverse ws)

  pub slice_clean : all_zero (drop (length ws) (slice room ws)) ≡ true
  unfolding slice
  slice_clean = ap all_zero (drop_at (reverse ws) _ (length ws) (length-reverse ws)) ∙ zeros_clean (room - length ws)
