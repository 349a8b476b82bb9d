-- The published machine is its own reverse: each transition, turned, leads back.
use mathlib.Core.Path.{◌≡◌, ap}
use Rattle.machine.specs.Machine.{turned}
use Rattle.machine.proofs.Reverse.{turned_twice}
use Rattle.published.specs.Figure.{State, state, Transition, →•1, →•2, →var, →bt2, →•3, →•4, →arg, →bt1}

-- The same state with its direction turned.
abbrev pub turn : State → State
turn P = state P.term P.context P.log P.tape (turned P.dir)

pub turn_twice : (P : State) → turn (turn P) ≡ P
turn_twice P = ap (λ d. state P.term P.context P.log P.tape d) (turned_twice P.dir)

-- •1 and •3, •2 and •4, var and bt2, arg and bt1 undo each other.
pub turned_back : {P Q : State} → Transition P Q → Transition (turn Q) (turn P)
turned_back (→•1 C) = →•3 C
turned_back (→•2 C) = →•4 C
turned_back (→var C D) = →bt2 C D
turned_back (→bt2 C D) = →var C D
turned_back (→•3 C) = →•1 C
turned_back (→•4 C) = →•2 C
turned_back (→arg C) = →bt1 C
turned_back (→bt1 C) = →arg C
