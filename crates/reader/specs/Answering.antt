-- The last step of a reading, from the preorder code of what a text means: the last two numbers, or the table.
use Rattle.std.specs.Prelude.{◌≡◌, Bool, true, cond, List, ◌++◌, ℕ, ◌≤◌, length, eqb, Result}
use Rattle.std.specs.List.{list_any}
use Rattle.std.proofs.Math.Option.{Option, none, some}
use Rattle.term.specs.Refusal.{refusal_number}
use Rattle.term.specs.declared.refusal.Refusal.{Refusal}
use Rattle.term.specs.Term.{Term, Closed}
use Rattle.term.specs.Accepted.{most_nodes}
use Rattle.term.specs.Code.{code_of}
use Rattle.text.specs.Reading.{Read, too_short, refused, laid_out}
use Rattle.reader.specs.Types.{read_meant}

-- whether a word is 0: that of a variable without a binder
abbrev pub any_zero : List ℕ → Bool
any_zero ws = list_any (λ w. eqb w 0) ws

-- Words are the code of what a text means: of a closed term, or, where some variable has no binder, words of which one is 0.
abbrev pub Codes : List ℕ → Option Term → Type 0
Codes ws none = any_zero ws ≡ true
Codes ws (some t) = (ws ≡ code_of t) × Closed t

-- They stand in the first n words.
pub record InCode (code : List ℕ) (n : ℕ) (o : Option Term) : Type 0 where
  pub words : List ℕ
  pub rest : List ℕ
  pub stands : code ≡ words ++ rest
  pub count : n ≡ length words
  pub few : n ≤ most_nodes
  pub codes : Codes words o

-- what is answered to what a text means: number `unbound` where some variable has no binder, number 6, or the table
abbrev pub answer_for : ℕ → Option Term → List ℕ → Read
answer_for unbound none table = refused unbound table
answer_for unbound (some t) table = cond (too_short (some t) table) (refused 6 table) (laid_out t table)

-- What `answer_for` promises, from the code and the table that it was lent at entry: that answer, to all that the code is of. (It is of one; the caller knows
-- which.)
abbrev pub AnsweredFor : List ℕ → ℕ → Refusal → Result ℕ Refusal → List ℕ → List ℕ → Type 0
AnsweredFor code n unbound r table table' = (o : Option Term) → InCode code n o → read_meant r table' ≡ answer_for (refusal_number unbound) o table
