-- Number 9 as a test: it finds exactly the state that a session and its slices hold, and there is only one.
use mathlib.Core.Path.{◌≡◌, refl, sym, ap, ap₂, ◌∙◌, subst}
use mathlib.Core.Logic.{◌↔◌}
use mathlib.Core.Bool.{Bool, true, false, cond, and-eq-true_iff, false≢true}
use mathlib.Core.Option.{Option, none, some, some-injective, none-ne-some}
use mathlib.Core.List.{List, [], reverse}
use Prim.Native.Nat.{ℕ, ◌≤◌}
use lib.ListN.{length, take, drop, length-reverse}
use lib.Seq.{length-take-le}
use lib.Dec.{eqb}
use borrow.Author.Tests.{leb-true, eqb-true, le-leb, eq-eqb}
use Rattle.term.specs.Choice.{◌>>=◌, is_none, choose}
use Rattle.term.specs.Table.{Table}
use Rattle.term.specs.Facts.{IsNode, Facts}
use Rattle.machine.specs.Entries.{Log, ε, how_many, Tape, log_words, tape_words}
use Rattle.machine.specs.Machine.{State, state}
use Rattle.machine.specs.Good.{LogIn, TapeIn}
use Rattle.machine.specs.Slice.{slice, read_log, read_tape, all_zero}
use Rattle.machine.proofs.Load.{log_read, tape_read, slice_front, slice_clean}
use Rattle.machine.proofs.Read.{log_valid, tape_valid, laid}
use Rattle.calls.specs.Session.{Session}
use Rattle.calls.specs.Held.{Holds, few_turns, well_formed, state_in}

-- words at the low end of a slice s
module _ (ws s : List ℕ) (k : ℕ) where
  words_many : k ≤ length s → reverse ws ≡ take k s → k ≡ length ws
  words_many h e = sym (length-take-le k s h) ∙ ap length (sym e) ∙ length-reverse ws

  module _ (many : k ≡ length ws) (lies : s ≡ slice (length s) ws) where
    words_below : take k s ≡ reverse ws
    words_below = ap₂ (λ m xs. take m xs) many lies ∙ slice_front (length s) ws

    zeros_above : all_zero (drop k s) ≡ true
    zeros_above = ap₂ (λ m xs. all_zero (drop m xs)) many lies ∙ slice_clean (length s) ws

-- what it tests of the turns
turns_exactly : (se : Session) → (few_turns se ≡ true) ↔ (se.turns ≤ se.position)
turns_exactly se = (leb-true se.turns se.position, le-leb se.turns se.position)

-- what `well_formed` tests
record Formed (T : Table) (se : Session) (ls ts : List ℕ) : Type 0 where
  node_there : IsNode T se.node
  log_fits : se.log_length ≤ length ls
  tape_fits : se.tape_length ≤ length ts
  log_clean : all_zero (drop se.log_length ls) ≡ true
  tape_clean : all_zero (drop se.tape_length ts) ≡ true
  turns_fit : se.turns ≤ se.position

-- what is to be shown of the state found, if one is
abbrev HoldsIf : Table → Session → List ℕ → List ℕ → Option State → Type 0
HoldsIf T se ls ts none = Unit
HoldsIf T se ls ts (some s) = Holds T se ls ts s

module _ (T : Table) (se : Session) (ls ts : List ℕ) where
  formed : well_formed T se ls ts ≡ true → Formed T se ls ts
  unfolding well_formed
  formed h =
      let tests = simp and-eq-true_iff at h in
      record {
        node_there = record { from_one = leb-true 1 se.node tests.0.0.0.0.0.0; to_last = leb-true se.node T.nodes tests.0.0.0.0.0.1 };
        log_fits = leb-true se.log_length (length ls) tests.0.0.0.0.1;
        tape_fits = leb-true se.tape_length (length ts) tests.0.0.0.1;
        log_clean = tests.0.0.1;
        tape_clean = tests.0.1;
        turns_fit = (turns_exactly se).0 tests.1;
      }

  -- the state found, by what `well_formed` and the two readings came out as
  found_by : (b : Bool) → (b ≡ true → Formed T se ls ts)
      → (o : Option Log) → ((L : Log) → o ≡ some L → LogIn T L × (reverse (log_words L) ≡ take se.log_length ls))
      → (q : Option Tape) → ((t : Tape) → q ≡ some t → TapeIn T t × (reverse (tape_words t) ≡ take se.tape_length ts))
      → HoldsIf T se ls ts (choose b (λ _. o >>= λ L. q >>= λ t. cond (eqb (how_many L) (T.level se.node)) (some (state se.node se.dir L t)) none) (λ _. none))
  found_by false f o l q m = tt
  found_by true f none l q m = tt
  found_by true f (some L) l none m = tt
  found_by true f (some L) l (some t) m = by_level (eqb (how_many L) (T.level se.node)) (eqb-true (how_many L) (T.level se.node))
    where
      by_level : (c : Bool) → (c ≡ true → how_many L ≡ T.level se.node) → HoldsIf T se ls ts (cond c (some (state se.node se.dir L t)) none)
      by_level false e = tt
      by_level true e = record {
        node_is = refl;
        dir_is = refl;
        good = record { node_there = (f refl).node_there; level_many = e refl; log_entries = (l L refl).0; tape_items = (m t refl).0 };
        log_fits = (f refl).log_fits;
        tape_fits = (f refl).tape_fits;
        log_length_is = words_many (log_words L) ls se.log_length (f refl).log_fits (l L refl).1;
        tape_length_is = words_many (tape_words t) ts se.tape_length (f refl).tape_fits (m t refl).1;
        log_lies = sym (laid (log_words L) ls se.log_length (f refl).log_fits (l L refl).1 (f refl).log_clean);
        tape_lies = sym (laid (tape_words t) ts se.tape_length (f refl).tape_fits (m t refl).1 (f refl).tape_clean);
        turns_fit = (f refl).turns_fit;
      }

  found_holds : (s : State) → state_in T se ls ts ≡ some s → Holds T se ls ts s
  unfolding state_in
  found_holds s e = subst (HoldsIf T se ls ts) e
      (found_by (well_formed T se ls ts) formed
      (read_log T (take se.log_length ls) ε) (log_valid T (take se.log_length ls))
      (read_tape T (take se.tape_length ts) []) (tape_valid T (take se.tape_length ts)))

  module _ (F : Facts T) (s : State) (h : Holds T se ls ts s) where
    well_formed_lem : well_formed T se ls ts ≡ true
    unfolding well_formed
    well_formed_lem =
        rw (
          h.node_is,
          le-leb 1 s.node h.good.node_there.from_one,
          le-leb s.node T.nodes h.good.node_there.to_last,
          le-leb se.log_length (length ls) h.log_fits,
          le-leb se.tape_length (length ts) h.tape_fits,
          zeros_above (log_words s.log) ls se.log_length h.log_length_is h.log_lies,
          zeros_above (tape_words s.tape) ts se.tape_length h.tape_length_is h.tape_lies,
          (turns_exactly se).1 h.turns_fit,
        )

    holds_found : state_in T se ls ts ≡ some s
    unfolding state_in
    holds_found =
        rw (
          well_formed_lem,
          words_below (log_words s.log) ls se.log_length h.log_length_is h.log_lies,
          log_read T s.log h.good.log_entries,
          words_below (tape_words s.tape) ts se.tape_length h.tape_length_is h.tape_lies,
          tape_read T F s.tape h.good.tape_items,
          h.node_is,
          h.dir_is,
          eq-eqb (how_many s.log) (T.level s.node) h.good.level_many,
        )

pub held_exactly : (T : Table) → Facts T → (se : Session) (ls ts : List ℕ) (s : State) → (state_in T se ls ts ≡ some s) ↔ Holds T se ls ts s
held_exactly T F se ls ts s = (found_holds T se ls ts s, holds_found T se ls ts F s)

-- only one state lies there
pub held_once : (T : Table) → Facts T → (se : Session) (ls ts : List ℕ) (s u : State) → Holds T se ls ts s → Holds T se ls ts u → s ≡ u
held_once T F se ls ts s u h k = some-injective s u (sym (holds_found T se ls ts F s h) ∙ holds_found T se ls ts F u k)

none_is : {A : Type 0} (o : Option A) → (is_none o ≡ true) ↔ ((a : A) → o ≡ some a → ⊥)
none_is none = (λ _ a e. none-ne-some a e, λ _. refl)
none_is (some a) = (λ e. absurd (false≢true e), λ h. absurd (h a refl))

-- Number 9 applies where no state lies there.
pub number_nine : (T : Table) → Facts T → (se : Session) (ls ts : List ℕ) → (is_none (state_in T se ls ts) ≡ true) ↔ ((s : State) → Holds T se ls ts s → ⊥)
number_nine T F se ls ts = (
  λ e s h. (none_is (state_in T se ls ts)).0 e s ((held_exactly T F se ls ts s).1 h),
  λ h. (none_is (state_in T se ls ts)).1 (λ s e. h s ((held_exactly T F se ls ts s).0 e)),
)
