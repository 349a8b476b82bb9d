-- The span of whole entries is their length in words.
use mathlib.Core.Path.{◌≡◌, refl, sym, ap, ap₂, ◌∙◌}
use mathlib.Core.List.{List, [], ◌∷◌, ◌++◌, append_assoc}
use Prim.Native.Nat.{ℕ, suc, ◌+◌, ◌≤◌}
use native.Mathlib.Nat.{zero-add, suc-add, add_assoc, add_comm, add-zero}
use lib.ListN.{length, length-append}
use Rattle.term.specs.Table.{Table}
use Rattle.machine.specs.Entries.{Entry, entry, Log, ε, ◌▸◌, how_many, topmost, rest, entry_words, log_words}
use Rattle.machine.specs.Good.{EntryIn, LogIn}
use Rattle.machine.specs.Span.{span}
use Rattle.machine.proofs.Logs.{topmost_rest, how_many_topmost, topmost_in, words_onto}

module _ (T : Table) where
  pub span_none : (ws : List ℕ) → span T ws 0 ≡ 0
  unfolding span
  span_none [] = refl
  span_none (v ∷ ws) = refl

  mutual
    unfolding span

    pub span_entry : (e : Entry) (k : ℕ) (ws : List ℕ) → EntryIn T e → span T (entry_words e ++ ws) (suc k) ≡ length (entry_words e) + span T ws k
    span_entry (entry v es) k ws h =
        ap (λ m. suc (span T (log_words es ++ ws) m)) (ap (λ a. k + a) (sym h.1) ∙ add_comm k (how_many es))
        ∙ ap suc (span_log es k ws h.2)
        ∙ sym (suc-add (length (log_words es)) (span T ws k))

    pub span_log : (M : Log) (k : ℕ) (ws : List ℕ) → LogIn T M → span T (log_words M ++ ws) (how_many M + k) ≡ length (log_words M) + span T ws k
    span_log ε k ws h = ap (λ m. span T ws m) (zero-add k) ∙ sym (zero-add (span T ws k))
    span_log (e ▸ M) k ws h =
        ap₂ (λ m q. span T q m) (suc-add (how_many M) k) (append_assoc (entry_words e) (log_words M) ws)
        ∙ span_entry e (how_many M + k) (log_words M ++ ws) h.0
        ∙ ap (λ m. length (entry_words e) + m) (span_log M k ws h.1)
        ∙ sym (add_assoc (length (entry_words e)) (length (log_words M)) (span T ws k))
        ∙ ap (λ m. m + span T ws k) (sym (length-append (entry_words e) (log_words M)))

  -- the entry on top, of a log or of a tape
  pub span_one : (e : Entry) (ws : List ℕ) → EntryIn T e → span T (entry_words e ++ ws) 1 ≡ length (entry_words e)
  span_one e ws h = span_entry e 0 ws h ∙ ap (λ m. length (entry_words e) + m) (span_none ws) ∙ add-zero (length (entry_words e))

  -- the top a entries of a log
  pub span_topmost : (a : ℕ) (L : Log) → LogIn T L → a ≤ how_many L → span T (log_words L) a ≡ length (log_words (topmost a L))
  span_topmost a L h l =
      ap₂ (λ m q. span T q m) (sym (add-zero (how_many (topmost a L)) ∙ how_many_topmost a L l)) (ap log_words (sym (topmost_rest a L)) ∙ words_onto (topmost a L) (rest a L))
      ∙ span_log (topmost a L) 0 (log_words (rest a L)) (topmost_in T a L h)
      ∙ ap (λ m. length (log_words (topmost a L)) + m) (span_none (log_words (rest a L)))
      ∙ add-zero (length (log_words (topmost a L)))
