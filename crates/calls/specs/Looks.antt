-- Document 02, change 10: "First look, then go." A call that tells what forward by a count would give, and one that goes by what the first handed out, on any words at all.
use Rattle.std.specs.Prelude.{◌≡◌, Bool, not, List, [], ◌∷◌, ◌++◌, ℕ, eqb}
use Rattle.std.proofs.Math.Option.{Option}
use Rattle.term.specs.Choice.{Test, ◌⇒◌, first, if_some}
use Rattle.calls.specs.Session.{Stop, refused, Outcome, Given}
use Rattle.calls.specs.Calls.{call_tests, call_number, refused_outcome, forward_of}

-- What a look answers: "the steps, the stop, the peak and the sum of Change 6", "the position and the count it looked from"; and both slices after the call.
pub record Look : Type 0 where
  pub steps : ℕ
  pub stop : Stop
  pub peak : ℕ
  pub carried : ℕ
  pub position : ℕ
  pub count : ℕ
  pub log : List ℕ
  pub tape : List ℕ

-- It "tells the steps, the stop, the peak and the sum of Change 6 that forward by a count would give, and leaves session and slices with every word as given; it also hands out the position and the count it looked from."
abbrev pub looked : Given → ℕ → Outcome → Look
looked g c o = record {
  steps = o.steps;
  stop = o.stop;
  peak = o.peak;
  carried = o.carried;
  position = g.session.position;
  count = c;
  log = g.log;
  tape = g.tape;
}

-- "A refusal's number comes instead of a stop", no lent word differs, and every other number is 0.
abbrev pub refused_look : ℕ → List ℕ → List ℕ → Look
refused_look k ls ts = record { steps = 0; stop = refused k; peak = 0; carried = 0; position = 0; count = 0; log = ls; tape = ts }

unfoldable pub look_of : Given → ℕ → Look
look_of g c = if_some (call_number g) (λ k. refused_look k g.log g.tape) (λ _. looked g c (forward_of g c))

-- "Turned away: 15, after 9, when the session's position is not the one handed out" (`fifteen_exactly`, proofs/Unrefused.antt).
abbrev pub elsewhere : ℕ → ℕ → Bool
elsewhere p q = not (eqb p q)

abbrev pub go_tests : ℕ → ℕ → List (Test ℕ)
go_tests p q = (elsewhere p q ⇒ 15) ∷ []

unfoldable pub go_number : ℕ → Given → Option ℕ
go_number q g = first (call_tests g ++ go_tests g.session.position q)

-- "The second call takes these and answers as forward by that count" (`go_is_forward`, proofs/Looks.antt).
unfoldable pub go_of : Given → ℕ → ℕ → Outcome
go_of g q c = if_some (go_number q g) (λ k. refused_outcome k g) (λ _. forward_of g c)

-- What the two calls have in common: what is foretold, and what comes of it.
pub record Results : Type 0 where
  pub steps : ℕ
  pub stop : Stop
  pub peak : ℕ
  pub carried : ℕ

abbrev pub foretold : Look → Results
foretold l = record { steps = l.steps; stop = l.stop; peak = l.peak; carried = l.carried }

abbrev pub results_of : Outcome → Results
results_of o = record { steps = o.steps; stop = o.stop; peak = o.peak; carried = o.carried }

-- table and session as they were given, and the slices as a look left them
abbrev pub after_look : Given → Look → Given
after_look g l = record { table = g.table; n = g.n; session = g.session; log = l.log; tape = l.tape }

-- "if table, session and slices are unaltered in between, its results are those foretold": of whatever the two are given. The theorem is `as_foretold` (proofs/Looks.antt).
abbrev pub AsForetold : Type 0
AsForetold = (g : Given) (c : ℕ) → results_of (go_of (after_look g (look_of g c)) (look_of g c).position (look_of g c).count) ≡ foretold (look_of g c)
