-- Terms without names, and which are closed: a variable is the number of binders between it and its own, 0 for the innermost.
use Rattle.std.specs.Prelude.{Bool, ◌&&◌, ℕ, suc, ◌+◌, ◌<◌, ltb}

pub data Term : Type 0 where
  var : ℕ → Term
  lam : Term → Term
  app : Term → Term → Term

-- how many nodes
abbrev pub size : Term → ℕ
size (var x) = 1
size (lam b) = suc (size b)
size (app f a) = suc (size f + size a)

-- each variable has its binder in the term, or among the d binders around it
abbrev pub ClosedUnder : ℕ → Term → Type 0
ClosedUnder d (var x) = x < d
ClosedUnder d (lam b) = ClosedUnder (suc d) b
ClosedUnder d (app f a) = ClosedUnder d f × ClosedUnder d a

abbrev pub Closed : Term → Type 0
Closed t = ClosedUnder 0 t

-- The same as a test (`closed_exactly`, proofs/Closed.antt): each number is below how many binders are around it.
abbrev pub is_closed_under : ℕ → Term → Bool
is_closed_under d (var x) = ltb x d
is_closed_under d (lam b) = is_closed_under (suc d) b
is_closed_under d (app f a) = is_closed_under d f && is_closed_under d a
