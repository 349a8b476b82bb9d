-- A refusal's number tells which it is, and is never 0.
use mathlib.Core.Path.{◌≡◌, refl, sym, ap, ◌∙◌}
use Prim.Native.Nat.{ℕ, zero, suc}
use native.Mathlib.Omega.{arith}
use Rattle.term.specs.Refusal.{refusal_number}
use Rattle.term.specs.declared.refusal.Refusal.{Refusal}
use Rattle.term.specs.declared.refusal.Refusal.TheVariants.{TextTooLong, ForeignByte, BadName, NotATerm, FreeName, TableTooShort, NotATable, SliceTooLong, NotAState, NothingOnTop, NoRoom, NoSuchNode, NotInNumbers, FreeNumber, Elsewhere, RecordsTooLong}

-- the refusal of a number, counted down by the cases before it
refusal_at : ℕ → Refusal
refusal_at zero = TextTooLong
refusal_at (suc zero) = TextTooLong
refusal_at (suc (suc zero)) = ForeignByte
refusal_at (suc (suc (suc zero))) = BadName
refusal_at (suc (suc (suc (suc zero)))) = NotATerm
refusal_at (suc (suc (suc (suc (suc zero))))) = FreeName
refusal_at (suc (suc (suc (suc (suc (suc zero)))))) = TableTooShort
refusal_at (suc (suc (suc (suc (suc (suc (suc zero))))))) = NotATable
refusal_at (suc (suc (suc (suc (suc (suc (suc (suc k)))))))) = later_at k
  where
    later_at : ℕ → Refusal
    later_at zero = SliceTooLong
    later_at (suc zero) = NotAState
    later_at (suc (suc zero)) = NothingOnTop
    later_at (suc (suc (suc zero))) = NoRoom
    later_at (suc (suc (suc (suc zero)))) = NoSuchNode
    later_at (suc (suc (suc (suc (suc zero))))) = NotInNumbers
    later_at (suc (suc (suc (suc (suc (suc zero)))))) = FreeNumber
    later_at (suc (suc (suc (suc (suc (suc (suc zero))))))) = Elsewhere
    later_at (suc (suc (suc (suc (suc (suc (suc (suc k)))))))) = RecordsTooLong

at_number : (r : Refusal) → refusal_at (refusal_number r) ≡ r
unfolding refusal_at
at_number TextTooLong = refl
at_number ForeignByte = refl
at_number BadName = refl
at_number NotATerm = refl
at_number FreeName = refl
at_number TableTooShort = refl
at_number NotATable = refl
at_number SliceTooLong = refl
at_number NotAState = refl
at_number NothingOnTop = refl
at_number NoRoom = refl
at_number NoSuchNode = refl
at_number NotInNumbers = refl
at_number FreeNumber = refl
at_number Elsewhere = refl
at_number RecordsTooLong = refl

pub refusal_once : (r s : Refusal) → refusal_number r ≡ refusal_number s → r ≡ s
refusal_once r s e = sym (at_number r) ∙ ap refusal_at e ∙ at_number s

pub refusal_some : (r : Refusal) → refusal_number r ≡ 0 → ⊥
refusal_some TextTooLong e = omega (arith, e)
refusal_some ForeignByte e = omega (arith, e)
refusal_some BadName e = omega (arith, e)
refusal_some NotATerm e = omega (arith, e)
refusal_some FreeName e = omega (arith, e)
refusal_some TableTooShort e = omega (arith, e)
refusal_some NotATable e = omega (arith, e)
refusal_some SliceTooLong e = omega (arith, e)
refusal_some NotAState e = omega (arith, e)
refusal_some NothingOnTop e = omega (arith, e)
refusal_some NoRoom e = omega (arith, e)
refusal_some NoSuchNode e = omega (arith, e)
refusal_some NotInNumbers e = omega (arith, e)
refusal_some FreeNumber e = omega (arith, e)
refusal_some Elsewhere e = omega (arith, e)
refusal_some RecordsTooLong e = omega (arith, e)
