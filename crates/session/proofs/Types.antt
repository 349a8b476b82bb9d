-- No two declared values mean the same: the mappings of specs/Types.antt are injective.
use mathlib.Core.Path.{◌≡◌, refl, sym, ap, ◌∙◌}
use mathlib.Core.List.{List}
use Prim.Native.Nat.{ℕ}
use Rattle.std.specs.Prelude.{Result, Ok, Err}
use Rattle.term.specs.Refusal.{refusal_number}
use Rattle.term.specs.declared.refusal.Refusal.{Refusal}
use Rattle.term.proofs.Refusals.{refusal_once, refusal_some}
use Rattle.calls.specs.Session
use Rattle.session.specs.Types.{dir_meant, which_meant, session_meant, stop_meant, opening_meant, walk_meant, outcome_meant, look_meant}
use Rattle.session.specs.declared.Dir.{Dir}
use Rattle.session.specs.declared.Dir.TheVariants.{Down, Up}
use Rattle.session.specs.declared.Session as Declared
use Rattle.session.specs.declared.Stop.{Stop}
use Rattle.session.specs.declared.Stop.TheVariants.{Spent, Answer, Jam, Far, Start, LogFull, TapeFull, Found, None}
use Rattle.session.specs.declared.Which.{Which}
use Rattle.session.specs.declared.Which.TheVariants.{Log, Tape}
use Rattle.session.specs.declared.Outcome.{Outcome}
use Rattle.session.specs.declared.looks.Look.{Look}

pub dir_once : (d e : Dir) → dir_meant d ≡ dir_meant e → d ≡ e
dir_once Down Down h = refl
dir_once Down Up h = cc
dir_once Up Down h = cc
dir_once Up Up h = refl

pub which_once : (x y : Which) → which_meant x ≡ which_meant y → x ≡ y
which_once Log Log h = refl
which_once Log Tape h = cc
which_once Tape Log h = cc
which_once Tape Tape h = refl

-- a stop by what it means
stop_back : Session.Stop → Stop
stop_back Session.spent = Spent
stop_back Session.jam = Jam
stop_back Session.far = Far
stop_back Session.start = Start
stop_back Session.log_full = LogFull
stop_back Session.tape_full = TapeFull
stop_back (Session.answer i) = Answer i
stop_back (Session.refused k) = Jam
stop_back Session.found = Found
stop_back Session.none = None

stop_back_lem : (x : Stop) → stop_back (stop_meant x) ≡ x
unfolding stop_back
stop_back_lem Spent = refl
stop_back_lem (Answer i) = refl
stop_back_lem Jam = refl
stop_back_lem Far = refl
stop_back_lem Start = refl
stop_back_lem LogFull = refl
stop_back_lem TapeFull = refl
stop_back_lem Found = refl
stop_back_lem None = refl

pub stop_once : (x y : Stop) → stop_meant x ≡ stop_meant y → x ≡ y
stop_once x y h = sym (stop_back_lem x) ∙ ap stop_back h ∙ stop_back_lem y

pub session_once : (s u : Declared.Session) → session_meant s ≡ session_meant u → s ≡ u
session_once s u e =
    let d = dir_once s.dir u.dir (ap (λ x. x.dir) e) in
    λ i. record { node = (e i).node; dir = d i; position = (e i).position; log_len = (e i).log_length; tape_len = (e i).tape_length; turns = (e i).turns }

pub opened_once : (o u : Result Declared.Session Refusal) (ls ls' ts ts' : List ℕ) → opening_meant o ls ts ≡ opening_meant u ls' ts' → (o ≡ u) × (ls ≡ ls') × (ts ≡ ts')
opened_once (Ok s) (Ok u) ls ls' ts ts' e = (ap Ok (session_once s u (ap (λ x. x.session) e)), ap (λ x. x.log) e, ap (λ x. x.tape) e)
opened_once (Ok s) (Err q) ls ls' ts ts' e = absurd (refusal_some q (sym (ap (λ x. x.refusal) e)))
opened_once (Err r) (Ok u) ls ls' ts ts' e = absurd (refusal_some r (ap (λ x. x.refusal) e))
opened_once (Err r) (Err q) ls ls' ts ts' e = (ap Err (refusal_once r q (ap (λ x. x.refusal) e)), ap (λ x. x.log) e, ap (λ x. x.tape) e)

pub walk_once : (o u : Outcome) (ls ls' ts ts' : List ℕ) → walk_meant o ls ts ≡ walk_meant u ls' ts' → (o ≡ u) × (ls ≡ ls') × (ts ≡ ts')
walk_once o u ls ls' ts ts' e =
    let s = session_once o.session u.session (ap (λ x. x.session) e) in
    let x = stop_once o.stop u.stop (ap (λ y. y.stop) e) in
    (λ i. record { session = s i; steps = (e i).steps; stop = x i; peak = (e i).peak; carried = (e i).carried }, ap (λ y. y.log) e, ap (λ y. y.tape) e)

-- No stop means a refusal, and the number of one that is meant.
abbrev refusal_in : Session.Stop → ℕ
refusal_in Session.spent = 0
refusal_in Session.jam = 0
refusal_in Session.far = 0
refusal_in Session.start = 0
refusal_in Session.log_full = 0
refusal_in Session.tape_full = 0
refusal_in (Session.answer i) = 0
refusal_in (Session.refused k) = k
refusal_in Session.found = 0
refusal_in Session.none = 0

stop_refuses_none : (x : Stop) → refusal_in (stop_meant x) ≡ 0
stop_refuses_none Spent = refl
stop_refuses_none (Answer i) = refl
stop_refuses_none Jam = refl
stop_refuses_none Far = refl
stop_refuses_none Start = refl
stop_refuses_none LogFull = refl
stop_refuses_none TapeFull = refl
stop_refuses_none Found = refl
stop_refuses_none None = refl

no_refusal : (x : Stop) (r : Refusal) → stop_meant x ≡ Session.refused (refusal_number r) → ⊥
no_refusal x r e = refusal_some r (sym (ap refusal_in e) ∙ stop_refuses_none x)

-- whatever session each was given
pub outcome_once : (s t : Declared.Session) (o u : Result Outcome Refusal) (ls ls' ts ts' : List ℕ) → outcome_meant s o ls ts ≡ outcome_meant t u ls' ts' → (o ≡ u) × (ls ≡ ls') × (ts ≡ ts')
outcome_once s t (Ok o) (Ok u) ls ls' ts ts' e = let p = walk_once o u ls ls' ts ts' e in (ap Ok p.0, p.1, p.2)
outcome_once s t (Ok o) (Err q) ls ls' ts ts' e = absurd (no_refusal o.stop q (ap (λ y. y.stop) e))
outcome_once s t (Err r) (Ok u) ls ls' ts ts' e = absurd (no_refusal u.stop r (sym (ap (λ y. y.stop) e)))
outcome_once s t (Err r) (Err q) ls ls' ts ts' e = (ap Err (refusal_once r q (ap (λ y. refusal_in y.stop) e)), ap (λ y. y.log) e, ap (λ y. y.tape) e)

-- A refused call tells the session that it was given.
pub refused_once : (s t : Declared.Session) (r q : Refusal) (ls ls' ts ts' : List ℕ) → outcome_meant s (Err r) ls ts ≡ outcome_meant t (Err q) ls' ts' → s ≡ t
refused_once s t r q ls ls' ts ts' e = session_once s t (ap (λ x. x.session) e)

pub look_once : (k l : Result Look Refusal) (ls ls' ts ts' : List ℕ) → look_meant k ls ts ≡ look_meant l ls' ts' → (k ≡ l) × (ls ≡ ls') × (ts ≡ ts')
look_once (Ok k) (Ok l) ls ls' ts ts' e =
    let x = stop_once k.stop l.stop (ap (λ y. y.stop) e) in (
      λ i. Ok (record { steps = (e i).steps; stop = x i; peak = (e i).peak; carried = (e i).carried; position = (e i).position; count = (e i).count }),
      ap (λ y. y.log) e,
      ap (λ y. y.tape) e,
    )
look_once (Ok k) (Err q) ls ls' ts ts' e = absurd (no_refusal k.stop q (ap (λ y. y.stop) e))
look_once (Err r) (Ok l) ls ls' ts ts' e = absurd (no_refusal l.stop r (sym (ap (λ y. y.stop) e)))
look_once (Err r) (Err q) ls ls' ts ts' e = (ap Err (refusal_once r q (ap (λ y. refusal_in y.stop) e)), ap (λ y. y.log) e, ap (λ y. y.tape) e)
