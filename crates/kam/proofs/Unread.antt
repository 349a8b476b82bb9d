-- A run goes by the length of the slice and not by the words in it.
use mathlib.Core.Path.{◌≡◌, refl, sym, ap, ap₂, ◌∙◌, subst}
use mathlib.Core.Bool.{◌&&◌, not}
use mathlib.Core.Option.{Option, none, some}
use mathlib.Core.List.{List, [], ◌∷◌}
use Prim.Native.Nat.{ℕ, zero, suc, ◌-◌, ◌*◌}
use lib.ListN.{length, length-set}
use lib.Seq.{length-sets}
use lib.Dec.{ltb, eqb}
use Rattle.term.specs.Choice.{◌⇒◌, first, ◌>>=◌, if_some}
use Rattle.term.specs.Table.{Table, table_in, Kind, variable, abstraction, application, nothing, kind_at}
use Rattle.term.specs.Accepted.{accepted}
use Rattle.kam.specs.Krivine.{State, start_state, step}
use Rattle.kam.specs.Records.{word_index, Records, no_records, laid_by, laid}
use Rattle.kam.specs.Runs.{Halt, spent, answer, full, refused, Ran, moment, is_answer, is_application, halt_before, ended, longer, run_from, most_words, run_number, run_by, run_of}
use Rattle.kam.specs.Lies.{Unread}

abbrev Same : Ran → Ran → Type 0
Same r s = (r.node ≡ s.node) × (r.steps ≡ s.steps) × (r.halt ≡ s.halt)

-- As many records are taken, and the slices are as long.
record Alike (R Q : Records) : Type 0 where
  taken : R.taken ≡ Q.taken
  long : length R.words ≡ length Q.words

alike_by : (k : Kind) (T : Table) (i : ℕ) (R Q : Records) → Alike R Q → Alike (laid_by k T i R) (laid_by k T i Q)
unfolding laid_by
alike_by application T i R Q a = record {
  taken = ap suc a.taken;
  long = length-sets R.words (word_index R.taken 0) (T.right i ∷ R.environment ∷ R.stack ∷ []) ∙ a.long
      ∙ sym (length-sets Q.words (word_index Q.taken 0) (T.right i ∷ Q.environment ∷ Q.stack ∷ []));
}
alike_by abstraction T i R Q a = record {
  taken = a.taken;
  long = length-set R.words (word_index (R.stack - 1) 2) R.environment ∙ a.long ∙ sym (length-set Q.words (word_index (Q.stack - 1) 2) Q.environment);
}
alike_by variable T i R Q a = record { taken = a.taken; long = a.long }
alike_by nothing T i R Q a = a

module _ (T : Table) where
  same_tests : (c : ℕ) (s : State) (R Q : Records) → Alike R Q → halt_before T c (moment s R) ≡ halt_before T c (moment s Q)
  unfolding halt_before
  same_tests c s R Q a =
      ap₂ (λ l t. first ((eqb c 0 ⇒ spent) ∷ (is_answer T s ⇒ answer) ∷ (is_application (kind_at T s.node) && ltb l (3 * suc t) ⇒ full) ∷ [])) a.long a.taken

  -- one pass, by the tests and the step
  pass : Option Halt → Option State → ℕ → State → Records → Ran
  pass o u c s R = if_some o (λ h. ended (moment s R) h) (λ _. if_some (u >>= λ x. some (moment x (laid T s.node R))) (λ v. longer (run_from T c v)) (λ _. ended (moment s R) (refused 7)))

  same_pass : (o : Option Halt) (u : Option State) (c : ℕ) (s : State) (R Q : Records) → Alike R Q
      → ((x : State) (P N : Records) → Alike P N → Same (run_from T c (moment x P)) (run_from T c (moment x N))) → Same (pass o u c s R) (pass o u c s Q)
  unfolding pass
  same_pass (some h) u c s R Q a rest = (refl, refl, refl)
  same_pass none none c s R Q a rest = (refl, refl, refl)
  same_pass none (some x) c s R Q a rest =
      let r = rest x (laid T s.node R) (laid T s.node Q) (alike_by (kind_at T s.node) T s.node R Q a) in
      (r.0, ap suc r.1, r.2)

  same_run : (c : ℕ) (s : State) (R Q : Records) → Alike R Q → Same (run_from T c (moment s R)) (run_from T c (moment s Q))
  unfolding run_from pass
  same_run zero s R Q a = (refl, refl, refl)
  same_run (suc c) s R Q a =
      subst (λ o. Same (pass (halt_before T (suc c) (moment s R)) (step T s) c s R) (pass o (step T s) c s Q)) (same_tests (suc c) s R Q a)
      (same_pass (halt_before T (suc c) (moment s R)) (step T s) c s R Q a (λ x P N b. same_run c x P N b))

same_by : (o : Option ℕ) (w : List ℕ) (n : ℕ) (lent other : List ℕ) (count : ℕ) → length lent ≡ length other → Same (run_by o w n lent count) (run_by o w n other count)
same_by (some k) w n lent other count l = (refl, refl, refl)
same_by none w n lent other count l = same_run (table_in w n) count start_state (no_records lent) (no_records other) record { taken = refl; long = l }

same_number : (w : List ℕ) (n : ℕ) (lent other : List ℕ) → length lent ≡ length other → run_number w n lent ≡ run_number w n other
unfolding run_number
same_number w n lent other l = ap (λ k. first ((not (accepted w n) ⇒ 7) ∷ (ltb most_words k ⇒ 16) ∷ [])) l

pub unread : Unread
unfolding run_of
unread w n lent other count l =
    subst (λ o. Same (run_by (run_number w n lent) w n lent count) (run_by o w n other count)) (same_number w n lent other l) (same_by (run_number w n lent) w n lent other count l)
