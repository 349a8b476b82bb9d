-- The law behind `yildreuz_look`: a look made with `made_with`, told, is the look from the session that the numbers stand for.
use mathlib.Core.Path.{◌≡◌, refl, sym, ap, ◌∙◌}
use mathlib.Core.List.{List}
use Prim.Native.Nat.{ℕ, zero, suc}
use native.Mathlib.Omega.{arith}
use borrow.Author.Tests.{lt-ltb}
use Rattle.calls.specs.Session.{Session, Given}
use Rattle.calls.specs.Looks.{Look, look_of}
use Rattle.calls.proofs.Looks.{look_refused}
use Rattle.face.specs.declared.HostSession.{HostSession}
use Rattle.face.specs.declared.HostLook.{HostLook}
use Rattle.face.specs.Told.{no_session_number, look_told, look_called}
use Rattle.face.proofs.Codes.{toward}
use Rattle.yildreuz.specs.Given.{made_with}
use Rattle.yildreuz.proofs.Given.{nowhere}

module _ (w : List ℕ) (n : ℕ) (s : HostSession) (ls ts : List ℕ) (c : ℕ) where
  abbrev given : Session → Given
  given se = record { table = w; n = n; session = se; log = ls; tape = ts }

  by_direction : (d : ℕ) → look_called w n (toward s d) ls ts c ≡ look_told (look_of (given (made_with (toward s d))) c)
  unfolding look_called
  by_direction zero = refl
  by_direction (suc zero) = refl
  by_direction (suc (suc k)) =
      let g : Given = given (made_with (toward s (suc (suc k)))) in
      let nowhere_0 : g.session.node ≡ 0 = rw (lt-ltb 1 (suc (suc k)) (omega arith)) in
      sym (ap (λ l. look_told l) (look_refused g c (no_session_number w n ls ts) (nowhere g nowhere_0)))

  -- as the code goes about it
  pub foretold_so : {r : HostLook × List ℕ × List ℕ} {l : Look} {se : Session} → r ≡ look_told l → l ≡ look_of (given se) c → se ≡ made_with s → r ≡ look_called w n s ls ts c
  foretold_so p q e = p ∙ ap (λ x. look_told x) (q ∙ ap (λ z. look_of (given z) c) e) ∙ sym (by_direction s.direction)
