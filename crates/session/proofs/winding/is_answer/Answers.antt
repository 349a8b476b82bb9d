-- `is_answer` says whether the one state that the session holds is the answer.
use mathlib.Core.Path.{◌≡◌, refl, sym, ap, ◌∙◌}
use mathlib.Core.List.{[], ◌∷◌}
use native.Mathlib.Omega.{arith}
use lib.ListN.{length}
use Rattle.std.specs.Prelude.{Option, Some, None}
use Rattle.std.specs.Option.{option_eq}
use Rattle.term.specs.Kinds.{kind_meant}
use Rattle.term.specs.declared.kinds.Kind as Declared
use Rattle.term.specs.declared.kinds.Kind.TheVariants.{Variable, Abstraction, Application}
use Rattle.term.specs.contracts.kinds.KindPartialEq.TheImpl as KindEq
use Rattle.term.specs.Table.{kind_at, table_in}
use Rattle.machine.specs.Entries.{entry, bullet, held, Tape, tape_words}
use Rattle.machine.specs.Machine.{down}
use Rattle.calls.specs.Stops.{is_answer_by}
use Rattle.session.specs.Types.{dir_meant}
use Rattle.session.proofs.winding.is_answer.Goals as goal

-- Every item has a word.
empty_tape : (t : Tape) → 0 ≡ length (tape_words t) → t ≡ []
empty_tape [] e = refl
empty_tape (bullet ∷ t) e = absurd (omega arith)
empty_tape (held (entry v es) ∷ t) e = absurd (omega arith)

-- down with an empty tape
at_kind : (k : Option Declared.Kind) → option_eq KindEq.eq-value.it k (Some Abstraction) ≡ is_answer_by (kind_meant k) down []
at_kind None = refl
at_kind (Some Variable) = refl
at_kind (Some Abstraction) = refl
at_kind (Some Application) = refl

pub returns-in-Down : goal.returns-in-Down
returns-in-Down c ls ts s h =
    let T = table_in c.args.tree.now.words c.args.tree.now.n in
    let is_down = sym (ap dir_meant c.in-Down.is) ∙ h.enters.holds.dir_is in
    let is_empty = empty_tape s.tape (sym c.if-session-eq0.true ∙ h.enters.holds.tape_length_is) in
    let is_kind = c.kind.ensures ∙ ap (kind_at T) h.enters.holds.node_is in
    c.eq.ensures ∙ at_kind c.kind.result ∙ (λ i. is_answer_by (is_kind i) (is_down i) (sym is_empty i))
