-- Rules 1, 2, 5 and 7 on the slices: a bullet's word, 0, lies above the top before it comes and after it has gone.
use mathlib.Core.Path.{◌≡◌, sym, ap, ◌∙◌}
use mathlib.Core.Option.{some}
use mathlib.Core.List.{List, ◌∷◌}
use Prim.Native.Nat.{ℕ, suc, ◌+◌, ◌-◌, ◌≤◌, ◌<◌}
use native.Mathlib.Omega.{arith}
use lib.ListN.{length}
use Rattle.term.specs.Table.{table_in}
use Rattle.machine.specs.Entries.{bullet, Tape, tape_words}
use Rattle.machine.specs.Machine.{State, state, step}
use Rattle.machine.specs.Slice.{slice}
use Rattle.session.specs.Types.{dir_meant}
use Rattle.session.specs.Steps.{TokenAt, StepIs}
use Rattle.session.specs.declared.Dir.{Dir}
use Rattle.session.specs.declared.Session as Declared
use Rattle.std.specs.Prelude.{Ok}
use Rattle.session.proofs.Slices.{zero_above}
use Rattle.session.proofs.Arrivals.{arrival, arrives}

module _ {w : List ℕ} {n : ℕ} {se : Declared.Session} {ls ts : List ℕ} {s : State} (h : TokenAt w n se ls ts s) (j : ℕ) (d : Dir) where
  module _ (e : step (table_in w n) s ≡ some (state j (dir_meant d) s.log (bullet ∷ s.tape))) where
    pub bullet_comes : se.tape_len < length ts → StepIs w n se ls ts s (Ok (arrival j d se.log_len (se.tape_len + 1) 0)) ls ts
    bullet_comes r =
        let many : se.tape_len ≡ length (tape_words s.tape) = h.enters.holds.tape_length_is in
        arrives h j d s.log (bullet ∷ s.tape) e se.log_len (se.tape_len + 1) h.enters.holds.log_length_is (omega arith) h.enters.holds.log_fits (omega arith)
        0 (omega arith) ls ts h.enters.holds.log_lies (h.enters.holds.tape_lies ∙ sym (zero_above (length ts) (tape_words s.tape) (omega arith)))

  pub bullet_goes : (t : Tape) → s.tape ≡ bullet ∷ t → step (table_in w n) s ≡ some (state j (dir_meant d) s.log t)
      → StepIs w n se ls ts s (Ok (arrival j d se.log_len (se.tape_len - 1) 0)) ls ts
  bullet_goes t on_top e =
      let many : se.tape_len ≡ suc (length (tape_words t)) = h.enters.holds.tape_length_is ∙ ap (λ u. length (tape_words u)) on_top in
      let fits : se.tape_len ≤ length ts = h.enters.holds.tape_fits in
      arrives h j d s.log t e se.log_len (se.tape_len - 1) h.enters.holds.log_length_is (omega arith) h.enters.holds.log_fits (omega arith)
      0 (omega arith) ls ts h.enters.holds.log_lies
      (h.enters.holds.tape_lies ∙ ap (λ u. slice (length ts) (tape_words u)) on_top ∙ zero_above (length ts) (tape_words t) (omega arith))
