-- No two answers of the writer look alike in its promise.
use mathlib.Core.Path.{◌≡◌, sym, ap}
use mathlib.Core.List.{List}
use Prim.Native.Nat.{ℕ}
use Rattle.std.specs.Prelude.{Result, Ok, Err}
use Rattle.term.specs.declared.refusal.Refusal.{Refusal}
use Rattle.term.proofs.Refusals.{refusal_once, refusal_some}
use Rattle.writer.specs.Types.{write_meant}

pub write_meant_injective : (r s : Result ℕ Refusal) (a b : List ℕ) → write_meant r a ≡ write_meant s b → (r ≡ s) × (a ≡ b)
write_meant_injective (Ok l) (Ok m) a b e = (ap Ok (ap (λ x. x.len) e), ap (λ x. x.text) e)
write_meant_injective (Err j) (Err k) a b e = (ap Err (refusal_once j k (ap (λ x. x.refusal) e)), ap (λ x. x.text) e)
write_meant_injective (Ok l) (Err k) a b e = absurd (refusal_some k (sym (ap (λ x. x.refusal) e)))
write_meant_injective (Err k) (Ok l) a b e = absurd (refusal_some k (ap (λ x. x.refusal) e))
