-- The count of a slice's words is the count of what is read out of them, and number 9 goes by the counts.
use mathlib.Core.Path.{◌≡◌, refl, sym, ap, ◌∙◌}
use mathlib.Core.Bool.{Bool, true, false, ◌&&◌, not, cond, and-false}
use mathlib.Core.Option.{Option, none, some, map}
use mathlib.Core.List.{List, [], ◌∷◌}
use Prim.Native.Nat.{ℕ, zero, suc, ◌+◌, ◌-◌, ◌≤◌, ◌<◌}
use native.Mathlib.Nat.{sub-zero, suc-sub-suc, le_of_suc-le-suc, not-suc-le-zero}
use native.Mathlib.Numerals.{add-one}
use lib.ListN.{length, take, drop}
use lib.Dec.{eqb, eqb-suc-zero}
use borrow.Author.Tests.{le-leb, lt-leb}
use Rattle.term.specs.Choice.{◌>>=◌, is_none, choose, if_some}
use Rattle.term.specs.Table.{Table, arity}
use Rattle.machine.specs.Entries.{entry, Log, ε, ◌▸◌, how_many, topmost, rest, bullet, held, Tape}
use Rattle.machine.specs.Machine.{state}
use Rattle.machine.specs.Slice.{makes_entry, put_on_log, read_log, held_on, put_on_tape, read_tape, all_zero}
use Rattle.machine.proofs.Logs.{how_many_rest}
use Rattle.machine.proofs.Tests.{entry_made}
use Rattle.calls.specs.Session.{Session}
use Rattle.calls.specs.Held.{well_formed, state_in}
use Rattle.session.specs.Counting.{count_entry, count_word, have_words, have_log, have_tape}

-- counted at each word, counted at the end
counted_on : {A : Type 0} (count : A → ℕ) (o : Option A) (f : A → Option A) (g : ℕ → Option ℕ)
    → ((a : A) → g (count a) ≡ map count (f a)) → (map count o >>= g) ≡ map count (o >>= f)
counted_on count none f g h = refl
counted_on count (some a) f g h = h a

-- the entries on top of a tape
abbrev held_many : Tape → ℕ
held_many t = how_many (held_on t)

held_under : (a : ℕ) (t : Tape) → a ≤ held_many t → held_many (drop a t) ≡ held_many t - a
held_under zero t h = sym (sub-zero (held_many t))
held_under (suc a) [] h = absurd (not-suc-le-zero h)
held_under (suc a) (bullet ∷ t) h = absurd (not-suc-le-zero h)
held_under (suc a) (held e ∷ t) h = held_under a t (le_of_suc-le-suc h) ∙ sym (suc-sub-suc (held_many t) a)

module _ (T : Table) where
  -- a log
  put_counted : (v : ℕ) (L : Log) → count_word false T v (how_many L) ≡ map how_many (put_on_log T v L)
  unfolding count_word count_entry put_on_log
  put_counted v L = by_test (makes_entry T v (how_many L))
    where
      by_test : (b : Bool) → cond b (some (how_many L - arity T v + 1)) none ≡ map how_many (cond b (some (entry v (topmost (arity T v) L) ▸ rest (arity T v) L)) none)
      by_test true = ap some (add-one (how_many L - arity T v) ∙ ap suc (sym (how_many_rest (arity T v) L)))
      by_test false = refl

  pub log_counted : (ws : List ℕ) (L : Log) → have_log T ws (how_many L) ≡ map how_many (read_log T ws L)
  unfolding have_words read_log
  log_counted [] L = refl
  log_counted (v ∷ ws) L =
      ap (λ o. o >>= λ k. have_log T ws k) (put_counted v L)
      ∙ counted_on how_many (put_on_log T v L) (λ M. read_log T ws M) (λ k. have_log T ws k) (λ M. log_counted ws M)

  -- a tape
  item_counted : (v : ℕ) (t : Tape) → count_word true T v (held_many t) ≡ map (λ u. held_many u) (put_on_tape T v t)
  unfolding count_word count_entry put_on_tape
  item_counted zero t = refl
  item_counted (suc v) t = rw (eqb-suc-zero v) (by_test (makes_entry T (suc v) (held_many t)) (λ e. (entry_made T (suc v) (held_many t) e).1))
    where
      by_test : (b : Bool) → (b ≡ true → arity T (suc v) ≤ held_many t)
          → cond b (some (held_many t - arity T (suc v) + 1)) none
          ≡ map (λ u. held_many u) (cond b (some (held (entry (suc v) (topmost (arity T (suc v)) (held_on t))) ∷ drop (arity T (suc v)) t)) none)
      by_test true h = ap some (add-one (held_many t - arity T (suc v)) ∙ ap suc (sym (held_under (arity T (suc v)) t (h refl))))
      by_test false h = refl

  pub tape_counted : (ws : List ℕ) (t : Tape) → have_tape T ws (how_many (held_on t)) ≡ map (λ u. how_many (held_on u)) (read_tape T ws t)
  unfolding have_words read_tape
  tape_counted [] t = refl
  tape_counted (v ∷ ws) t =
      ap (λ o. o >>= λ k. have_tape T ws k) (item_counted v t)
      ∙ counted_on (λ u. held_many u) (put_on_tape T v t) (λ u. read_tape T ws u) (λ k. have_tape T ws k) (λ u. tape_counted ws u)

-- Number 9 by the counts: the log's is the node's level, and the tape has one.
abbrev pub log_counts : Table → Session → List ℕ → Bool
log_counts T se ls = if_some (have_log T (take se.log_length ls) 0) (λ k. eqb k (T.level se.node)) (λ _. false)

abbrev pub tape_counts : Table → Session → List ℕ → Bool
tape_counts T se ts = not (is_none (have_tape T (take se.tape_length ts) 0))

there_if : {A : Type 0} (b : Bool) (o : Option A) {c : Bool} → not (is_none o) ≡ c → not (is_none (choose b (λ _. o) (λ _. none))) ≡ (b && c)
there_if true o e = e
there_if false o e = refl

module _ (T : Table) (se : Session) (ls ts : List ℕ) where
  read_there : (o : Option Log) (q : Option Tape)
      → not (is_none (o >>= λ L. q >>= λ t. cond (eqb (how_many L) (T.level se.node)) (some (state se.node se.dir L t)) none))
      ≡ (if_some (map how_many o) (λ k. eqb k (T.level se.node)) (λ _. false) && not (is_none (map (λ u. held_many u) q)))
  read_there none q = refl
  read_there (some L) none = sym (and-false (eqb (how_many L) (T.level se.node)))
  read_there (some L) (some t) = by_level (eqb (how_many L) (T.level se.node))
    where
      by_level : (c : Bool) → not (is_none (cond c (some (state se.node se.dir L t)) none)) ≡ (c && true)
      by_level true = refl
      by_level false = refl

  -- whether the session and its slices hold a state
  pub state_counted : not (is_none (state_in T se ls ts)) ≡ (well_formed T se ls ts && (log_counts T se ls && tape_counts T se ts))
  unfolding state_in
  state_counted =
      there_if (well_formed T se ls ts) _
      (read_there (read_log T (take se.log_length ls) ε) (read_tape T (take se.tape_length ts) [])
      ∙ sym (rw (log_counted T (take se.log_length ls) ε, tape_counted T (take se.tape_length ts) [])))

  -- each test that fails leaves none
  pub no_node : se.node < 1 → false ≡ not (is_none (state_in T se ls ts))
  unfolding well_formed
  no_node h = sym (state_counted ∙ simp (lt-leb 1 se.node h))

  pub past_nodes : T.nodes < se.node → false ≡ not (is_none (state_in T se ls ts))
  unfolding well_formed
  past_nodes h = sym (state_counted ∙ simp (lt-leb se.node T.nodes h, and-false))

  pub log_over : length ls < se.log_length → false ≡ not (is_none (state_in T se ls ts))
  unfolding well_formed
  log_over h = sym (state_counted ∙ simp (lt-leb se.log_length (length ls) h, and-false))

  pub tape_over : length ts < se.tape_length → false ≡ not (is_none (state_in T se ls ts))
  unfolding well_formed
  tape_over h = sym (state_counted ∙ simp (lt-leb se.tape_length (length ts) h, and-false))

  pub log_dirty : all_zero (drop se.log_length ls) ≡ false → false ≡ not (is_none (state_in T se ls ts))
  unfolding well_formed
  log_dirty h = sym (state_counted ∙ simp (h, and-false))

  pub tape_dirty : all_zero (drop se.tape_length ts) ≡ false → false ≡ not (is_none (state_in T se ls ts))
  unfolding well_formed
  tape_dirty h = sym (state_counted ∙ simp (h, and-false))

  pub turns_over : se.position < se.turns → false ≡ not (is_none (state_in T se ls ts))
  unfolding well_formed
  turns_over h = sym (state_counted ∙ simp (lt-leb se.turns se.position h, and-false))

  pub log_miscounted : log_counts T se ls ≡ false → false ≡ not (is_none (state_in T se ls ts))
  log_miscounted h = sym (state_counted ∙ simp (h, and-false))

  -- where they all hold, the tape's count decides
  pub tape_decides : 1 ≤ se.node → se.node ≤ T.nodes → se.log_length ≤ length ls → se.tape_length ≤ length ts
      → all_zero (drop se.log_length ls) ≡ true → all_zero (drop se.tape_length ts) ≡ true → se.turns ≤ se.position → log_counts T se ls ≡ true
      → tape_counts T se ts ≡ not (is_none (state_in T se ls ts))
  unfolding well_formed
  tape_decides a b c d e f g h =
      sym (state_counted
      ∙ simp (
        le-leb 1 se.node a,
        le-leb se.node T.nodes b,
        le-leb se.log_length (length ls) c,
        le-leb se.tape_length (length ts) d,
        e,
        f,
        le-leb se.turns se.position g,
        h,
      ))
