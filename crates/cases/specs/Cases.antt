-- T1 to T12 of document 01, "Case list", with the example's arities, states and turns, as one list. `cases_hold` (proofs/Cases.antt) computes it.
use Rattle.std.proofs.Math.Option.{Option, none, some}
use Rattle.std.specs.Prelude.{ℕ, zero, suc, List, [], ◌∷◌, ◌++◌, replicate}
use Rattle.term.specs.Table.{Table, table_in, arity}
use Rattle.text.specs.Reading.{Read, read_of}
use Rattle.machine.specs.Entries.{Entry, entry, Log, ε, ◌▸◌, bullet, held, Tape}
use Rattle.machine.specs.Machine.{Dir, down, up, State, state, start_state, after}
use Rattle.machine.specs.Turns.{turns_after}
use Rattle.calls.specs.Session.{Session, spent, jam, start, log_full, tape_full, answer, Outcome, Opening, Given}
use Rattle.calls.specs.Calls.{open_of, forward_of, back_of, go_to_of}

-- what a case results in: a reading, a variable's arity, a call's outcome with both slices, the plain machine's state, or its turns
pub data Result : Type 0 where
  reading : Read → Result
  arity_of : ℕ → Result
  call : Outcome → Result
  stood : Option State → Result
  turned_to : ℕ → Result

-- ---- the texts

-- (\x.x x)(\y.y)
unfoldable pub example_text : List ℕ
example_text = 40 ∷ 92 ∷ 120 ∷ 46 ∷ 120 ∷ 32 ∷ 120 ∷ 41 ∷ 40 ∷ 92 ∷ 121 ∷ 46 ∷ 121 ∷ 41 ∷ []

-- \x.x
unfoldable pub identity_text : List ℕ
identity_text = 92 ∷ 120 ∷ 46 ∷ 120 ∷ []

-- x
unfoldable pub open_text : List ℕ
open_text = 120 ∷ []

-- ---- the calls: on slices of so many words, which hold 9s before open

-- the example as T1 reads it: document 01's table in the columns kind, left, right, parent and level, and a word after it. Document 02, change 8: "T1 lists the columns from now on."
unfoldable pub example : Read
example = record {
  n = 7;
  refusal = 0;
  table =
      3 ∷ 2 ∷ 3 ∷ 1 ∷ 1 ∷ 2 ∷ 1
      ∷ 2 ∷ 3 ∷ 4 ∷ 2 ∷ 2 ∷ 7 ∷ 6
      ∷ 6 ∷ 0 ∷ 5 ∷ 0 ∷ 0 ∷ 0 ∷ 0
      ∷ 0 ∷ 1 ∷ 2 ∷ 3 ∷ 3 ∷ 1 ∷ 6
      ∷ 0 ∷ 0 ∷ 0 ∷ 0 ∷ 1 ∷ 1 ∷ 1
      ∷ 9 ∷ [];
}

unfoldable pub example_table : Table
example_table = table_in example.table example.n

unfoldable pub identity : Read
unfolding identity_text
identity = read_of identity_text (replicate 10 9)

unfoldable pub fresh : Read → ℕ → ℕ → Given
fresh r l t =
    let o : Opening = open_of r.table r.n (replicate l 9) (replicate t 9) in
    record { table = r.table; n = r.n; session = o.session; log = o.log; tape = o.tape }

unfoldable pub afterwards : Read → Outcome → Given
afterwards r o = record { table = r.table; n = r.n; session = o.session; log = o.log; tape = o.tape }

-- the session of T9
unfoldable pub stranded : Read → Given
stranded r = record {
  table = r.table;
  n = r.n;
  session = record { node = 2; dir = down; position = 0; log_length = 0; tape_length = 1; turns = 0 };
  log = 0 ∷ 0 ∷ [];
  tape = 7 ∷ 0 ∷ [];
}

-- the plain machine's states p, p + 1, .., so many of them
unfoldable pub states : ℕ → Table → ℕ → List Result
states zero T p = []
states (suc k) T p = stood (after T p) ∷ states k T (suc p)

-- and its turns there
unfoldable pub turns : ℕ → Table → ℕ → List Result
turns zero T p = []
turns (suc k) T p = turned_to (turns_after T start_state p) ∷ turns k T (suc p)

-- T1 to T12, the others on the example as T1 reads it
unfoldable pub cases : Read → List Result
cases e =
    reading (read_of example_text (replicate 36 9))  -- T1
    ∷ arity_of (arity example_table 4)
    ∷ arity_of (arity example_table 5)
    ∷ arity_of (arity example_table 7)
    ∷ call (forward_of (fresh e 2 2) 100)  -- T2
    ∷ call (forward_of (fresh e 2 1) 100)  -- T3
    ∷ call (forward_of (fresh e 1 2) 100)  -- T4
    ∷ call (forward_of (fresh e 2 2) 12)  -- T5
    ∷ call (forward_of (fresh e 2 2) 0)  -- T6
    ∷ call (back_of (fresh e 2 2) 1)  -- T7
    ∷ call (go_to_of (afterwards e (forward_of (fresh e 2 2) 12)) 4)  -- T8
    ∷ call (forward_of (stranded e) 1)  -- T9
    ∷ call (forward_of (fresh identity 2 2) 100)  -- T10
    ∷ reading (read_of [] (replicate 5 9))  -- T11
    ∷ reading (read_of open_text (replicate 5 9))  -- T12
    ∷ states 14 example_table 0
    ++ turns 13 example_table 0

-- ---- what document 01 says of each

unfoldable pub session_made : ℕ → Dir → ℕ → ℕ → ℕ → ℕ → Session
session_made i d p l t k = record { node = i; dir = d; position = p; log_length = l; tape_length = t; turns = k }

-- an entry of a variable of arity 0
unfoldable pub leaf : ℕ → Entry
leaf v = entry v ε

unfoldable pub stood_at : ℕ → Dir → Log → Tape → Result
stood_at i d L t = stood (some (state i d L t))

unfoldable pub results : List Result
results =
    -- T1 the table above, and a word after it kept
    reading example
    -- "Its variables 4, 5, 7 have arities 0, 1, 0."
    ∷ arity_of 0
    ∷ arity_of 1
    ∷ arity_of 0
    -- T2 forward 100 with slices of 2 and 2: 12 steps, answer 6. Document 02, change 2: "T2's peak becomes 6: two positions, n = 7, X = 3."
    -- Change 6: step by step it carries 0, 0, 0, 0, 1, 0, 0, 1, 0, 1, 1 and 2 words, by rules 6, 8, 6, 3 and 6 where it is not 0. T8 takes the last eight back.
    -- Change 9: of the twelve steps eight change direction, the fourth the first of them.
    ∷ call (record { session = session_made 6 down 12 2 0 8; steps = 12; stop = answer 6; peak = 6; carried = 6; log = 7 ∷ 5 ∷ []; tape = 0 ∷ 0 ∷ [] })
    -- T3 tape of 1: 3 steps, tape full
    ∷ call (record { session = session_made 4 down 3 0 1 0; steps = 3; stop = tape_full; peak = 1; carried = 0; log = 0 ∷ 0 ∷ []; tape = 0 ∷ [] })
    -- T4 log of 1, tape of 2: 11, log full
    ∷ call (record { session = session_made 2 up 11 0 2 7; steps = 11; stop = log_full; peak = 6; carried = 4; log = 0 ∷ []; tape = 7 ∷ 5 ∷ [] })
    -- T5 forward 12: 12, spent
    ∷ call (record { session = session_made 6 down 12 2 0 8; steps = 12; stop = spent; peak = 6; carried = 6; log = 7 ∷ 5 ∷ []; tape = 0 ∷ 0 ∷ [] })
    -- T6 forward 0: 0, spent
    ∷ call (record { session = session_made 1 down 0 0 0 0; steps = 0; stop = spent; peak = 0; carried = 0; log = 0 ∷ 0 ∷ []; tape = 0 ∷ 0 ∷ [] })
    -- T7 back 1 when fresh: 0, start
    ∷ call (record { session = session_made 1 down 0 0 0 0; steps = 0; stop = start; peak = 0; carried = 0; log = 0 ∷ 0 ∷ []; tape = 0 ∷ 0 ∷ [] })
    -- T8 from 12 go to 4: node 2, up, tape [4,0]
    ∷ call (record { session = session_made 2 up 4 0 2 1; steps = 8; stop = spent; peak = 6; carried = 6; log = 0 ∷ 0 ∷ []; tape = 0 ∷ 4 ∷ [] })
    -- T9 node 2, down, tape [7], forward 1: jam
    ∷ call (record { session = session_made 2 down 0 0 1 0; steps = 0; stop = jam; peak = 3; carried = 0; log = 0 ∷ 0 ∷ []; tape = 7 ∷ 0 ∷ [] })
    -- T10 `\x.x`: answer 1 in 0 steps
    ∷ call (record { session = session_made 1 down 0 0 0 0; steps = 0; stop = answer 1; peak = 0; carried = 0; log = 0 ∷ 0 ∷ []; tape = 0 ∷ 0 ∷ [] })
    -- T11 empty text: 4
    ∷ reading (record { n = 0; refusal = 4; table = 9 ∷ 9 ∷ 9 ∷ 9 ∷ 9 ∷ [] })
    -- T12 `x`: 5
    ∷ reading (record { n = 0; refusal = 5; table = 9 ∷ 9 ∷ 9 ∷ 9 ∷ 9 ∷ [] })
    -- "The example's states, as node, direction, log, tape", 0 to 12, and none after the answer
    ∷ stood_at 1 down ε []
    ∷ stood_at 2 down ε (bullet ∷ [])
    ∷ stood_at 3 down ε []
    ∷ stood_at 4 down ε (bullet ∷ [])
    ∷ stood_at 2 up ε (held (leaf 4) ∷ bullet ∷ [])
    ∷ stood_at 6 down (leaf 4 ▸ ε) (bullet ∷ [])
    ∷ stood_at 7 down (leaf 4 ▸ ε) []
    ∷ stood_at 6 up (leaf 4 ▸ ε) (held (leaf 7) ∷ [])
    ∷ stood_at 2 down ε (held (leaf 4) ∷ held (leaf 7) ∷ [])
    ∷ stood_at 4 up ε (held (leaf 7) ∷ [])
    ∷ stood_at 5 down (leaf 7 ▸ ε) []
    ∷ stood_at 2 up ε (held (entry 5 (leaf 7 ▸ ε)) ∷ [])
    ∷ stood_at 6 down (entry 5 (leaf 7 ▸ ε) ▸ ε) []
    ∷ stood none
    -- document 02, change 9: how many of the steps to each of these states but the last changed direction, by the directions above
    ∷ turned_to 0
    ∷ turned_to 0
    ∷ turned_to 0
    ∷ turned_to 0
    ∷ turned_to 1
    ∷ turned_to 2
    ∷ turned_to 2
    ∷ turned_to 3
    ∷ turned_to 4
    ∷ turned_to 5
    ∷ turned_to 6
    ∷ turned_to 7
    ∷ turned_to 8
    ∷ []
