-- A word above n is no entry, whatever stands after the first 5 × n words of the table's slice.
use mathlib.Core.Path.{◌≡◌}
use mathlib.Core.Option.{none}
use mathlib.Core.List.{List}
use Prim.Native.Nat.{ℕ, zero, suc, ◌<◌}
use native.Mathlib.Nat.{not-suc-le-zero}
use Rattle.term.specs.Table.{Table, table_in, nothing, kind_at}
use Rattle.term.proofs.Table.{kind_beyond}
use Rattle.machine.specs.Entries.{Log, Tape}
use Rattle.machine.specs.Slice.{put_on_log, put_on_tape}

module _ (T : Table) where
  log_refuses : (v : ℕ) (L : Log) → kind_at T v ≡ nothing → put_on_log T v L ≡ none
  unfolding put_on_log
  log_refuses v L k = simp k

  tape_refuses : (v : ℕ) (t : Tape) → kind_at T (suc v) ≡ nothing → put_on_tape T (suc v) t ≡ none
  unfolding put_on_tape
  tape_refuses v t k = simp k

pub log_beyond : (w : List ℕ) (n v : ℕ) → n < v → (L : Log) → put_on_log (table_in w n) v L ≡ none
log_beyond w n v h L = log_refuses (table_in w n) v L (kind_beyond w n v h)

pub tape_beyond : (w : List ℕ) (n v : ℕ) → n < v → (t : Tape) → put_on_tape (table_in w n) v t ≡ none
tape_beyond w n zero h t = absurd (not-suc-le-zero h)
tape_beyond w n (suc v) h t = tape_refuses (table_in w n) v t (kind_beyond w n (suc v) h)
