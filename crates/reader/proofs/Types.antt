-- No two answers of the reader look alike in its promise.
use mathlib.Core.Path.{◌≡◌, sym, ap}
use mathlib.Core.List.{List}
use Prim.Native.Nat.{ℕ}
use Rattle.std.specs.Prelude.{Result, Ok, Err}
use Rattle.text.specs.Reading.{Read}
use Rattle.term.specs.declared.refusal.Refusal.{Refusal}
use Rattle.term.proofs.Refusals.{refusal_once, refusal_some}
use Rattle.reader.specs.Types.{read_meant}

pub read_meant_injective : (r s : Result ℕ Refusal) (a b : List ℕ) → read_meant r a ≡ read_meant s b → (r ≡ s) × (a ≡ b)
read_meant_injective (Ok m) (Ok n) a b e = (ap (λ (x : Read). Ok x.n) e, ap (λ (x : Read). x.table) e)
read_meant_injective (Ok m) (Err s) a b e = absurd (refusal_some s (sym (ap (λ (x : Read). x.refusal) e)))
read_meant_injective (Err r) (Ok n) a b e = absurd (refusal_some r (ap (λ (x : Read). x.refusal) e))
read_meant_injective (Err r) (Err s) a b e = (ap (λ (x : Refusal). Err x) (refusal_once r s (ap (λ (x : Read). x.refusal) e)), ap (λ (x : Read). x.table) e)
