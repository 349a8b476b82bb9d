-- Log and tape in the slices that a session stands on, and where a step leads: if its lists lie in the slices, the token stands there, and the step carried the words by which the log grew or shrank.
use mathlib.Core.Path.{◌≡◌, refl, ap, ◌∙◌, subst}
use mathlib.Core.Option.{some}
use mathlib.Core.List.{List}
use Prim.Native.Nat.{ℕ, ◌+◌, ◌-◌, ◌≤◌}
use native.Mathlib.Omega.{arith}
use lib.ListN.{length}
use Rattle.term.specs.Table.{table_in}
use Rattle.term.proofs.Facts.{accepted_facts}
use Rattle.machine.specs.Entries.{Log, Tape, log_words, tape_words}
use Rattle.machine.specs.Machine.{State, state, step}
use Rattle.machine.specs.Slice.{slice}
use Rattle.machine.proofs.Reverse.{keeps_good}
use Rattle.machine.proofs.Carried.{carried_change}
use Rattle.calls.specs.Stops.{Room, room}
use Rattle.calls.proofs.Stops.{Fits}
use Rattle.calls.proofs.Entering.{enters_fits}
use Rattle.session.specs.Types.{dir_meant}
use Rattle.session.specs.Steps.{TokenAt, StepIs}
use Rattle.session.specs.declared.Dir.{Dir}
use Rattle.session.specs.declared.Session as Declared
use Rattle.session.specs.declared.rules.Arrival as Arrived
use Rattle.std.specs.Prelude.{Ok}
use Rattle.session.proofs.Slices.{Lies, lies_in}

module _ {w : List ℕ} {n : ℕ} {se : Declared.Session} {ls ts : List ℕ} {s : State} (h : TokenAt w n se ls ts s) where
  pub log_there : (L : Log) → s.log ≡ L → Lies ls se.log_len (log_words L)
  log_there L e = record {
    fits = h.enters.holds.log_fits;
    many = h.enters.holds.log_length_is ∙ ap (λ M. length (log_words M)) e;
    words = h.enters.holds.log_lies ∙ ap (λ M. slice (length ls) (log_words M)) e;
  }

  pub tape_there : (t : Tape) → s.tape ≡ t → Lies ts se.tape_len (tape_words t)
  tape_there t e = record {
    fits = h.enters.holds.tape_fits;
    many = h.enters.holds.tape_length_is ∙ ap (λ u. length (tape_words u)) e;
    words = h.enters.holds.tape_lies ∙ ap (λ u. slice (length ts) (tape_words u)) e;
  }

  -- the state fits slices as long as these
  pub fits_within : {r : Room} → room ls ts ≡ r → Fits r s
  fits_within e = subst (λ r. Fits r s) e (enters_fits _ s h.enters)

-- where a step leads
abbrev pub arrival : ℕ → Dir → ℕ → ℕ → ℕ → Arrived.Arrival
arrival j d l m k = record { node = j; dir = d; log_len = l; tape_len = m; carried = k }

pub arrives : {w : List ℕ} {n : ℕ} {se : Declared.Session} {ls ts : List ℕ} {s : State} → TokenAt w n se ls ts s
    → (j : ℕ) (d : Dir) (L : Log) (t : Tape) → step (table_in w n) s ≡ some (state j (dir_meant d) L t)
    → (l m : ℕ) → l ≡ length (log_words L) → m ≡ length (tape_words t) → l ≤ length ls → m ≤ length ts
    → (k : ℕ) → k ≡ (l - se.log_len) + (se.log_len - l)
    → (ls' ts' : List ℕ) → ls' ≡ slice (length ls) (log_words L) → ts' ≡ slice (length ts) (tape_words t)
    → StepIs w n se ls ts s (Ok (arrival j d l m k)) ls' ts'
arrives {w} {n} {se} {ls} {ts} {s} h j d L t e l m l_is m_is l_fits m_fits k k_is ls' ts' log_lies tape_lies =
    let log_in = lies_in (length ls) (log_words L) ls' (omega arith) log_lies in
    let tape_in = lies_in (length ts) (tape_words t) ts' (omega arith) tape_lies in
    let log_short : length ls ≤ 16384 = h.enters.short_log in
    let tape_short : length ts ≤ 16384 = h.enters.short_tape in
    let long : se.log_len ≡ length (log_words s.log) = h.enters.holds.log_length_is in (
      state j (dir_meant d) L t,
      e,
      record {
        enters = record {
          accepted_table = h.enters.accepted_table;
          short_log = omega (arith, log_in.0);
          short_tape = omega (arith, tape_in.0);
          holds = record {
            node_is = refl;
            dir_is = refl;
            good = keeps_good (table_in w n) (accepted_facts w n h.enters.accepted_table) s (state j (dir_meant d) L t) h.enters.holds.good e;
            log_fits = omega (arith, log_in.0);
            tape_fits = omega (arith, tape_in.0);
            log_length_is = l_is;
            tape_length_is = m_is;
            log_lies = log_in.1;
            tape_lies = tape_in.1;
            turns_fit = h.enters.holds.turns_fit;
          };
        };
      },
      omega (arith, carried_change (table_in w n) s (state j (dir_meant d) L t) e),
    )
