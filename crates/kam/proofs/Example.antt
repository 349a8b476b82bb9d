-- Document 02's machine worked out by hand: on two terms where each step leads, and every word of the records; and some runs.
use mathlib.Core.Path.{◌≡◌, refl}
use mathlib.Core.Option.{Option, none, some}
use mathlib.Core.List.{List, [], ◌∷◌}
use Prim.Native.Nat.{ℕ, zero, suc}
use Rattle.term.specs.Choice.{◌>>=◌}
use Rattle.term.specs.Term.{var, lam, app}
use Rattle.term.specs.Table.{column_of, table_of, Table, table_in, kind_of}
use Rattle.term.specs.Accepted.{part_by, part_at, accepted}
use Rattle.kam.specs.Krivine.{abstractions_up, step_by}
use Rattle.kam.specs.Records.{laid_by}
use Rattle.kam.specs.Runs.{Halt, spent, answer, full, refused, Ran, Moment, moment_after, halt_before, run_from, run_number, run_of}

-- `(\x.\y.x)(\a.a)(\b.b)`
abbrev first_of_two : List ℕ
first_of_two = table_of (app (app (lam (lam (var 1))) (lam (var 0))) (lam (var 0)))

-- `(\x.x x)(\y.y)`
abbrev twice : List ℕ
twice = table_of (app (lam (app (var 0) (var 0))) (lam (var 0)))

-- `\x.x`
abbrev identity : List ℕ
identity = table_of (lam (var 0))

-- node, the records on top of environment and stack, how many are taken, and the words
pub record Shown : Type 0 where
  node : ℕ
  environment : ℕ
  stack : ℕ
  taken : ℕ
  words : List ℕ

abbrev shown : ℕ → ℕ → ℕ → ℕ → List ℕ → Shown
shown i e s k w = record { node = i; environment = e; stack = s; taken = k; words = w }

abbrev show : Option Moment → Option Shown
show o = o >>= λ m. some (shown m.state.node m.records.environment m.records.stack m.records.taken m.records.words)

-- the moments after the first steps, from 0 on
abbrev moments : Table → List ℕ → ℕ → ℕ → List (Option Shown)
moments T w zero q = []
moments T w (suc k) q = show (moment_after T w q) ∷ moments T w k (suc q)

abbrev ran : ℕ → ℕ → Halt → List ℕ → Ran
ran i k h w = record { node = i; steps = k; halt = h; records = w }

pub by_hand : (moments (table_in first_of_two 9) (99 ∷ 99 ∷ 99 ∷ 99 ∷ 99 ∷ 99 ∷ 99 ∷ []) 7 0
    ≡ some (shown 1 0 0 0 (99 ∷ 99 ∷ 99 ∷ 99 ∷ 99 ∷ 99 ∷ 99 ∷ []))
    ∷ some (shown 2 0 1 1 (8 ∷ 0 ∷ 0 ∷ 99 ∷ 99 ∷ 99 ∷ 99 ∷ []))
    ∷ some (shown 3 0 2 2 (8 ∷ 0 ∷ 0 ∷ 6 ∷ 0 ∷ 1 ∷ 99 ∷ []))
    ∷ some (shown 4 2 1 2 (8 ∷ 0 ∷ 0 ∷ 6 ∷ 0 ∷ 0 ∷ 99 ∷ []))
    ∷ some (shown 5 1 0 2 (8 ∷ 0 ∷ 2 ∷ 6 ∷ 0 ∷ 0 ∷ 99 ∷ []))
    ∷ some (shown 6 0 0 2 (8 ∷ 0 ∷ 2 ∷ 6 ∷ 0 ∷ 0 ∷ 99 ∷ []))
    ∷ none
    ∷ [])
    × (moments (table_in twice 7) (99 ∷ 99 ∷ 99 ∷ 99 ∷ 99 ∷ 99 ∷ []) 9 0
    ≡ some (shown 1 0 0 0 (99 ∷ 99 ∷ 99 ∷ 99 ∷ 99 ∷ 99 ∷ []))
    ∷ some (shown 2 0 1 1 (6 ∷ 0 ∷ 0 ∷ 99 ∷ 99 ∷ 99 ∷ []))
    ∷ some (shown 3 1 0 1 (6 ∷ 0 ∷ 0 ∷ 99 ∷ 99 ∷ 99 ∷ []))
    ∷ some (shown 4 1 2 2 (6 ∷ 0 ∷ 0 ∷ 5 ∷ 1 ∷ 0 ∷ []))
    ∷ some (shown 6 0 2 2 (6 ∷ 0 ∷ 0 ∷ 5 ∷ 1 ∷ 0 ∷ []))
    ∷ some (shown 7 2 0 2 (6 ∷ 0 ∷ 0 ∷ 5 ∷ 1 ∷ 0 ∷ []))
    ∷ some (shown 5 1 0 2 (6 ∷ 0 ∷ 0 ∷ 5 ∷ 1 ∷ 0 ∷ []))
    ∷ some (shown 6 0 0 2 (6 ∷ 0 ∷ 0 ∷ 5 ∷ 1 ∷ 0 ∷ []))
    ∷ none
    ∷ [])
    × (run_of twice 7 (99 ∷ 99 ∷ 99 ∷ 99 ∷ 99 ∷ 99 ∷ []) 100 ≡ ran 6 7 answer (6 ∷ 0 ∷ 0 ∷ 5 ∷ 1 ∷ 0 ∷ []))
    × (run_of twice 7 (99 ∷ 99 ∷ 99 ∷ 99 ∷ 99 ∷ 99 ∷ []) 7 ≡ ran 6 7 spent (6 ∷ 0 ∷ 0 ∷ 5 ∷ 1 ∷ 0 ∷ []))
    × (run_of twice 7 (99 ∷ 99 ∷ 99 ∷ 99 ∷ 99 ∷ []) 100 ≡ ran 3 2 full (6 ∷ 0 ∷ 0 ∷ 99 ∷ 99 ∷ []))
    × (run_of twice 7 (99 ∷ 99 ∷ 99 ∷ 99 ∷ 99 ∷ []) 2 ≡ ran 3 2 spent (6 ∷ 0 ∷ 0 ∷ 99 ∷ 99 ∷ []))
    × (run_of twice 7 (99 ∷ 99 ∷ []) 0 ≡ ran 1 0 spent (99 ∷ 99 ∷ []))
    × (run_of twice 7 (99 ∷ 99 ∷ []) 100 ≡ ran 1 0 full (99 ∷ 99 ∷ []))
    × (run_of identity 2 [] 100 ≡ ran 1 0 answer [])
    × (run_of identity 2 [] 0 ≡ ran 1 0 spent [])
    × (run_of identity 0 (99 ∷ []) 100 ≡ ran 0 0 (refused 7) (99 ∷ []))
unfolding table_of column_of table_in kind_of accepted part_at part_by abstractions_up step_by laid_by moment_after halt_before run_from run_number run_of
by_hand = (refl, refl, refl, refl, refl, refl, refl, refl, refl, refl, refl)
