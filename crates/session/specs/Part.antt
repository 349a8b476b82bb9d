-- What the functions that find the top entry promise: where it lies in its slice.
use Rattle.std.specs.Prelude.{cond, List, ℕ, ◌-◌, get_or, eqb, Result, Ok, Err}
use Rattle.term.specs.Table.{Table}
use Rattle.term.specs.Refusal.{refusal_number}
use Rattle.term.specs.declared.refusal.Refusal.{Refusal}
use Rattle.calls.specs.Top.{Shown}
use Rattle.session.specs.Extent.{span_below}
use Rattle.session.specs.declared.part.Place.{Place}

-- how many words below index `len` are those of the entry or bullet on top: the word 0 is a bullet
abbrev pub item_span : Table → List ℕ → ℕ → ℕ
item_span T s len = cond (eqb (get_or s (len - 1) 0) 0) 1 (span_below T s len 1)

-- a place in the chosen slice, with a refusal's number, 0 for none
pub record Placed : Type 0 where
  pub offset : ℕ
  pub size : ℕ
  pub refusal : ℕ

abbrev pub no_place : ℕ → Placed
no_place number = record { offset = 0; size = 0; refusal = number }

-- what the code says of one
abbrev pub place_meant : Result Place Refusal → Placed
place_meant (Ok p) = record { offset = p.offset; size = p.size; refusal = 0 }
place_meant (Err r) = no_place (refusal_number r)

-- where they lie in the slice of a list of `len` words
abbrev pub place_in : Table → List ℕ → ℕ → Placed
place_in T s len = cond (eqb len 0) (no_place 10) (record { offset = len - item_span T s len; size = item_span T s len; refusal = 0 })

-- the place, and the number, of what a call shows
abbrev pub placed : Shown → Placed
placed a = record { offset = a.offset; size = a.size; refusal = a.refusal }
