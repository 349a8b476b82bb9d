-- Document 02, change 2: what a state weighs, "one for a bullet and a pointer to the code for each logged position".
use Rattle.std.specs.Prelude.{List, [], ◌∷◌, ℕ, zero, suc, ◌+◌, ◌-◌, ◌*◌, take}
use Rattle.term.specs.Table.{Table}
use Rattle.machine.specs.Entries.{Entry, entry, Log, ε, ◌▸◌, bullet, held, Tape}
use Rattle.machine.specs.Machine.{State}
use Rattle.calls.specs.Session.{Given}
use Rattle.calls.specs.Digits.{digits}

-- "its bullets"
abbrev pub bullets : Tape → ℕ
bullets [] = 0
bullets (bullet ∷ t) = suc (bullets t)
bullets (held e ∷ t) = bullets t

-- "its logged positions, nested ones included": an entry is one (document 01, "Entries, log and tape"), and so is each entry inside it.
abbrev mutual
  pub entry_positions : Entry → ℕ
  entry_positions (entry v es) = suc (log_positions es)

  pub log_positions : Log → ℕ
  log_positions ε = 0
  log_positions (e ▸ L) = entry_positions e + log_positions L

abbrev pub tape_positions : Tape → ℕ
tape_positions [] = 0
tape_positions (bullet ∷ t) = tape_positions t
tape_positions (held e ∷ t) = entry_positions e + tape_positions t

abbrev pub logged_positions : State → ℕ
logged_positions s = log_positions s.log + tape_positions s.tape

-- "a state weighs its bullets plus X times its logged positions, nested ones included, where X is the number of binary digits of n."
unfoldable pub weight : Table → State → ℕ
weight T s = bullets s.tape + digits T.nodes * logged_positions s

-- The same from what a call is given (`weighed`, proofs/Weight.antt). The words 0 among those of the tape are its bullets, and every other word of the two lists is a position's.
abbrev pub zero_words : List ℕ → ℕ
zero_words [] = 0
zero_words (zero ∷ ws) = suc (zero_words ws)
zero_words (suc v ∷ ws) = zero_words ws

abbrev pub bullets_given : Given → ℕ
bullets_given g = zero_words (take g.session.tape_length g.tape)

-- of so many words, so many of them bullets
abbrev pub weight_by : ℕ → ℕ → ℕ → ℕ
weight_by X words b = b + X * (words - b)

abbrev pub weight_given : ℕ → Given → ℕ
weight_given X g = weight_by X (g.session.log_length + g.session.tape_length) (bullets_given g)

-- 12 digits, which 3,000 has, for each word of two slices of 16,384: no state that a call stands in weighs more (`light`, `peak_light`, proofs/Weight.antt).
abbrev pub heaviest : ℕ
heaviest = 393216
