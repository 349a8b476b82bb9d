-- Logs: the parts of a published log, and the log of the plain machine that stands for one: its length, its parts, and two put together.
use mathlib.Core.Path.{◌≡◌, refl, ap}
use mathlib.Core.Option.{Option, none, some, map}
use Prim.Native.Nat.{ℕ, zero, suc, ◌+◌, ◌≤◌}
use native.Mathlib.Omega.{arith}
use native.Mathlib.Nat.{not-suc-le-zero, le_of_suc-le-suc}
use Rattle.term.specs.Term.{Term}
use Rattle.machine.specs.Entries as Plain
use Rattle.machine.specs.Entries.{◌▸◌, topmost, rest, ◌onto◌}
use Rattle.published.specs.Figure.{LoggedPosition, Log, ε, ◌·◌, together, ◌··◌}
use Rattle.published.specs.Represents.{LogIs}

pub together_is : (n m : ℕ) → together n m ≡ n + m
together_is zero m = omega arith
together_is (suc n) m = omega (arith, together_is n m)

-- A log of some length, and one in two parts: the top n logged positions, and the others under them.
abbrev pub SomeLog : Type 0
SomeLog = (m : ℕ) × Log m

abbrev pub some_log : {m : ℕ} → Log m → SomeLog
some_log {m} L = (m, L)

pub record Parts (n : ℕ) : Type 0 where
  pub upper : Log n
  pub others : ℕ
  pub lower : Log others

abbrev pub parts : {n m : ℕ} → Log n → Log m → Parts n
parts {m = m} K L = record { upper = K; others = m; lower = L }

abbrev pub joined : {n : ℕ} → Parts n → SomeLog
joined p = some_log (p.upper ·· p.lower)

-- one logged position more
abbrev added : {n : ℕ} → LoggedPosition → Parts n → Parts (suc n)
added l p = parts (l · p.upper) p.lower

-- The parts of a log, if it has so many logged positions, as a function,
abbrev pub parts_of : (n : ℕ) {m : ℕ} → Log m → Option (Parts n)
parts_of zero L = some (parts ε L)
parts_of (suc n) ε = none
parts_of (suc n) (l · L) = map (added l) (parts_of n L)

-- which finds parts put together again;
pub parts_are : {n m : ℕ} (K : Log n) (L : Log m) → parts_of n (K ·· L) ≡ some (parts K L)
parts_are ε L = refl
parts_are (l · K) L = ap (map (added l)) (parts_are K L)

-- and a log that has so many is its parts put together.
pub cut : (n : ℕ) {m : ℕ} (L : Log m) → n ≤ m → (p : Parts n) × (some_log L ≡ joined p)
cut zero L h = (parts ε L, refl)
cut (suc n) ε h = absurd (not-suc-le-zero h)
cut (suc n) (l · L) h = let c = cut n L (le_of_suc-le-suc h) in (added l c.0, ap (λ q. some_log (l · q.1)) c.1)

module _ (t : Term) where
  pub same_many : (M : Plain.Log) {n : ℕ} (L : Log n) → LogIs t M L → Plain.how_many M ≡ n
  same_many Plain.ε ε h = refl
  same_many Plain.ε (l · L) h = absurd h
  same_many (e ▸ M) ε h = absurd h
  same_many (e ▸ M) (l · L) h = ap suc (same_many M L h.1)

  pub same_topmost : {n m : ℕ} (K : Log n) (L : Log m) (M : Plain.Log) → LogIs t M (K ·· L) → LogIs t (topmost n M) K
  same_topmost ε L M h = tt
  same_topmost (l · K) L Plain.ε h = absurd h
  same_topmost (l · K) L (e ▸ M) h = (h.0, same_topmost K L M h.1)

  pub same_rest : {n m : ℕ} (K : Log n) (L : Log m) (M : Plain.Log) → LogIs t M (K ·· L) → LogIs t (rest n M) L
  same_rest ε L M h = h
  same_rest (l · K) L Plain.ε h = absurd h
  same_rest (l · K) L (e ▸ M) h = same_rest K L M h.1

  pub same_onto : (M N : Plain.Log) {n m : ℕ} (K : Log n) (L : Log m) → LogIs t M K → LogIs t N L → LogIs t (M onto N) (K ·· L)
  same_onto Plain.ε N ε L g h = h
  same_onto Plain.ε N (l · K) L g h = absurd g
  same_onto (e ▸ M) N ε L g h = absurd g
  same_onto (e ▸ M) N (l · K) L g h = (g.0, same_onto M N K L g.1 h)
