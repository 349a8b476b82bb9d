-- Nothing is lost in numbers: no two directions, sessions, stops, halts, lists or answers are told alike.
use mathlib.Core.Path.{◌≡◌, refl, sym, ap, ◌∙◌}
use mathlib.Core.Option.{Option, none, some, some-injective, none-ne-some}
use mathlib.Core.List.{List}
use Prim.Native.Nat.{ℕ, zero, suc, ◌<◌}
use native.Mathlib.Omega.{arith}
use Rattle.text.specs.Reading.{Read}
use Rattle.text.specs.Writing.{Write}
use Rattle.machine.specs.Machine.{Dir, down, up}
use Rattle.calls.specs.Session.{Session, Stop, spent, jam, far, start, log_full, tape_full, found, answer, refused, Opening, Outcome, Given}
use Rattle.calls.specs.Top.{Which, log, tape}
use Rattle.calls.specs.Looks.{Look, look_of}
use Rattle.kam.specs.Runs
use Rattle.face.specs.declared.HostSession.{HostSession}
use Rattle.face.specs.Numbers.{dir_number, dir_in, session_numbers, session_in, stop_code, stop_value, halt_code, halt_value, which_number, which_in}
use Rattle.face.specs.Told.{read_told, write_told, open_told, outcome_told, called, look_told, look_called, run_told}

-- What is told and read again is told apart.
told_apart : {A B : Type 0} (tell : A → B) (read : B → Option A) → ((a : A) → read (tell a) ≡ some a) → (x y : A) → tell x ≡ tell y → x ≡ y
told_apart tell read again x y h = some-injective x y (sym (again x) ∙ ap read h ∙ again y)

-- The same of what is told as a code and a value.
codes_apart : {A : Type 0} (code value : A → ℕ) (read : ℕ → ℕ → A) → ((a : A) → read (code a) (value a) ≡ a) → (x y : A) → code x ≡ code y → value x ≡ value y → x ≡ y
codes_apart code value read again x y h k = sym (again x) ∙ (λ i. read (h i) (k i)) ∙ again y

-- Directions.

pub dir_told : (d : Dir) → dir_in (dir_number d) ≡ some d
dir_told down = refl
dir_told up = refl

pub directions_injective : (d e : Dir) → dir_number d ≡ dir_number e → d ≡ e
directions_injective = told_apart (λ d. dir_number d) dir_in dir_told

pub no_direction : (k : ℕ) → 1 < k → dir_in k ≡ none
no_direction zero h = absurd (omega (arith, h))
no_direction (suc zero) h = absurd (omega (arith, h))
no_direction (suc (suc k)) h = refl

-- Sessions: a session told and read again is the same,

pub session_told : (s : Session) → session_in (session_numbers s) ≡ some s
session_told s = by_dir s.dir refl
  where
    by_dir : (d : Dir) → s.dir ≡ d → session_in (session_numbers s) ≡ some s
    by_dir down e = rw e
    by_dir up e = rw e

pub sessions_injective : (s t : Session) → session_numbers s ≡ session_numbers t → s ≡ t
sessions_injective = told_apart (λ s. session_numbers s) session_in session_told

-- and so are a host's numbers that stand for one. (Their direction is taken apart, the rest stays.)
abbrev pub toward : HostSession → ℕ → HostSession
toward s d = record { node = s.node; direction = d; position = s.position; log_len = s.log_len; tape_len = s.tape_len; turns = s.turns }

pub numbers_told : (s : HostSession) (se : Session) → session_in s ≡ some se → session_numbers se ≡ s
numbers_told s se e = by_direction s.direction e
  where
    by_direction : (d : ℕ) → session_in (toward s d) ≡ some se → session_numbers se ≡ toward s d
    by_direction zero h = sym (ap session_numbers (some-injective _ se h))
    by_direction (suc zero) h = sym (ap session_numbers (some-injective _ se h))
    by_direction (suc (suc k)) h = absurd (none-ne-some se h)

-- So a call on the numbers that another told is the call on its session.
pub told_again : (call : Given → Outcome) (w : List ℕ) (n : ℕ) (se : Session) (ls ts : List ℕ)
    → called call w n (session_numbers se) ls ts ≡ outcome_told (call (record { table = w; n = n; session = se; log = ls; tape = ts }))
unfolding called
told_again call w n se ls ts = rw (session_told se)

pub look_told_again : (w : List ℕ) (n : ℕ) (se : Session) (ls ts : List ℕ) (c : ℕ)
    → look_called w n (session_numbers se) ls ts c ≡ look_told (look_of (record { table = w; n = n; session = se; log = ls; tape = ts }) c)
unfolding look_called
look_told_again w n se ls ts c = rw (session_told se)

-- Stops and halts: what a code and a value are read as, the codes counted down.
abbrev or_else : {A : Type 0} → A → (ℕ → A) → ℕ → A
or_else x later zero = x
or_else x later (suc c) = later c

abbrev stop_in : ℕ → ℕ → Stop
stop_in c v = or_else spent (or_else (answer v) (or_else jam (or_else far (or_else start (or_else log_full (or_else tape_full (or_else (refused v) (or_else found (λ _. Stop.none))))))))) c

stop_told : (x : Stop) → stop_in (stop_code x) (stop_value x) ≡ x
stop_told spent = refl
stop_told (answer i) = refl
stop_told jam = refl
stop_told far = refl
stop_told start = refl
stop_told log_full = refl
stop_told tape_full = refl
stop_told (refused k) = refl
stop_told found = refl
stop_told Stop.none = refl

pub codes_injective : (x y : Stop) → stop_code x ≡ stop_code y → stop_value x ≡ stop_value y → x ≡ y
codes_injective = codes_apart (λ x. stop_code x) (λ x. stop_value x) (λ c v. stop_in c v) stop_told

abbrev halt_in : ℕ → ℕ → Runs.Halt
halt_in c v = or_else Runs.spent (or_else Runs.answer (or_else Runs.full (λ _. Runs.refused v))) c

halt_told : (x : Runs.Halt) → halt_in (halt_code x) (halt_value x) ≡ x
halt_told Runs.spent = refl
halt_told Runs.answer = refl
halt_told Runs.full = refl
halt_told (Runs.refused k) = refl

pub halts_injective : (x y : Runs.Halt) → halt_code x ≡ halt_code y → halt_value x ≡ halt_value y → x ≡ y
halts_injective = codes_apart (λ x. halt_code x) (λ x. halt_value x) (λ c v. halt_in c v) halt_told

-- Lists.

pub list_told : (which : Which) → which_in (which_number which) ≡ some which
list_told log = refl
list_told tape = refl

pub lists_injective : (x y : Which) → which_number x ≡ which_number y → x ≡ y
lists_injective = told_apart (λ x. which_number x) which_in list_told

pub no_list : (k : ℕ) → 1 < k → which_in k ≡ none
no_list zero h = absurd (omega (arith, h))
no_list (suc zero) h = absurd (omega (arith, h))
no_list (suc (suc k)) h = refl

-- Answers, with the slices after the call.

pub readings_injective : (r s : Read) → read_told r ≡ read_told s → r ≡ s
readings_injective r s h = λ i. record { n = (h i).0.n; refusal = (h i).0.refusal; table = (h i).1 }

pub writings_injective : (r s : Write) → write_told r ≡ write_told s → r ≡ s
writings_injective r s e = λ i. record { len = (e i).0.len; refusal = (e i).0.refusal; text = (e i).1 }

pub openings_injective : (o p : Opening) → open_told o ≡ open_told p → o ≡ p
openings_injective o p h = λ i. record {
  session = sessions_injective o.session p.session (λ j. (h j).0.session) i;
  refusal = (h i).0.refusal;
  log = (h i).1;
  tape = (h i).2;
}

pub outcomes_injective : (o p : Outcome) → outcome_told o ≡ outcome_told p → o ≡ p
outcomes_injective o p h = λ i. record {
  session = sessions_injective o.session p.session (λ j. (h j).0.session) i;
  steps = (h i).0.steps;
  stop = codes_injective o.stop p.stop (λ j. (h j).0.stop) (λ j. (h j).0.value) i;
  peak = (h i).0.peak;
  carried = (h i).0.carried;
  log = (h i).1;
  tape = (h i).2;
}

pub looks_injective : (k l : Look) → look_told k ≡ look_told l → k ≡ l
looks_injective k l h = λ i. record {
  steps = (h i).0.steps;
  stop = codes_injective k.stop l.stop (λ j. (h j).0.stop) (λ j. (h j).0.value) i;
  peak = (h i).0.peak;
  carried = (h i).0.carried;
  position = (h i).0.position;
  count = (h i).0.count;
  log = (h i).1;
  tape = (h i).2;
}

pub runs_injective : (r s : Runs.Ran) → run_told r ≡ run_told s → r ≡ s
runs_injective r s h = λ i. record {
  node = (h i).0.node;
  steps = (h i).0.steps;
  halt = halts_injective r.halt s.halt (λ j. (h j).0.halt) (λ j. (h j).0.value) i;
  records = (h i).1;
}
