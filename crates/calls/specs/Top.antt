-- Document 02, change 1: the top entry of log or tape, as the part of the lent slice in which it lies.
use Rattle.std.specs.Prelude.{◌≡◌, List, [], ◌∷◌, ◌++◌, reverse, ℕ, ◌+◌, length, take, drop}
use Rattle.std.proofs.Math.Option.{Option, none, some}
use Rattle.term.specs.Choice.{◌⇒◌, first, ◌>>=◌, is_none}
use Rattle.term.specs.Table.{table_in}
use Rattle.machine.specs.Entries.{Entry, Log, ε, ◌▸◌, Item, held, Tape, item_words, log_words, tape_words}
use Rattle.machine.specs.Machine.{State}
use Rattle.machine.specs.Slice.{read_tape}
use Rattle.calls.specs.Session.{Session, Given}
use Rattle.calls.specs.Calls.{state_given, call_tests, Enters}

-- which list the call "is told"
pub data Which : Type 0 where
  log tape : Which

-- the one of two that it is told
abbrev pub as_told : {A : Type 0} → Which → A → A → A
as_told log l t = l
as_told tape l t = t

-- What the call answers: a part of the chosen slice, where it lies there (the index of its first word, and how many words it has), and a refusal's number, 0 for none.
pub record Shown : Type 0 where
  pub part : List ℕ
  pub offset : ℕ
  pub size : ℕ
  pub refusal : ℕ

-- An entry or a bullet that lies above so many words. "in slice order": the last word read comes first, so its words from the top come the other way round.
abbrev pub shown : Item → ℕ → Shown
shown x below = record { part = reverse (item_words x); offset = below; size = length (item_words x); refusal = 0 }

-- "each refusal returns an empty part"
abbrev pub not_shown : ℕ → Shown
not_shown k = record { part = []; offset = 0; size = 0; refusal = k }

-- "the top entry" of the log
abbrev pub top_of_log : Log → Option Shown
top_of_log ε = none
top_of_log (e ▸ L) = some (shown (held e) (length (log_words L)))

-- and of the tape. "A bullet on top of the tape is shown as its single word."
abbrev pub top_of_tape : Tape → Option Shown
top_of_tape [] = none
top_of_tape (x ∷ t) = some (shown x (length (tape_words t)))

-- what a state shows of the chosen list, if that is not empty
abbrev pub shows : Which → State → Option Shown
shows log s = top_of_log s.log
shows tape s = top_of_tape s.tape

abbrev pub shown_given : Which → Given → Option Shown
shown_given which g = state_given g >>= λ s. shows which s

-- "10, after 7 to 9, when the chosen list is empty"
unfoldable pub top_number : Which → Given → Option ℕ
top_number which g = first (call_tests g ++ ((is_none (shown_given which g) ⇒ 10) ∷ []))

-- Refused by number, or what the state given shows. (Where there is nothing to show, 10 or a number before it applies.)
abbrev pub top_by : Option ℕ → Option Shown → Shown
top_by (some k) o = not_shown k
top_by none (some a) = a
top_by none none = not_shown 10

unfoldable pub top_of : Which → Given → Shown
top_of which g = top_by (top_number which g) (shown_given which g)

-- what the caller gets of it: the part, and the number
abbrev pub seen : Shown → List ℕ × ℕ
seen a = (a.part, a.refusal)

-- The same in words (`points`, `shown_exactly` and `ten_exactly`, proofs/Top.antt, say that they agree). The slice in which the chosen list lies, and that list's length:
abbrev pub slice_given : Which → Given → List ℕ
slice_given which g = as_told which g.log g.tape

abbrev pub length_given : Which → Session → ℕ
length_given which se = as_told which se.log_length se.tape_length

-- This entry or bullet is on top of the chosen list; the list is empty.
abbrev pub OnTop : Which → State → Item → Type 0
OnTop log s x = (e : Entry) × (L : Log) × (x ≡ held e) × (s.log ≡ e ▸ L)
OnTop tape s x = (t : Tape) × (s.tape ≡ x ∷ t)

abbrev pub IsEmpty : Which → State → Type 0
IsEmpty log s = s.log ≡ ε
IsEmpty tape s = s.tape ≡ []

-- The part is that of the entry or bullet x, which is on top of the chosen list of the state given: it ends where the list ends, it has as many words as x, it is what lies there in
-- the lent slice, read from the top it is x, and by itself it is a list of x alone: nothing of the next one, nothing missing.
pub record PointsAt (which : Which) (g : Given) (a : Shown) (s : State) (x : Item) : Type 0 where
  pub enters : Enters g s
  pub on_top : OnTop which s x
  pub unrefused : a.refusal ≡ 0
  pub whole : a.size ≡ length (item_words x)
  pub ends : a.offset + a.size ≡ length_given which g.session
  pub lies : a.part ≡ take a.size (drop a.offset (slice_given which g))
  pub words : reverse a.part ≡ item_words x
  pub alone : read_tape (table_in g.table g.n) a.part [] ≡ some (x ∷ [])
