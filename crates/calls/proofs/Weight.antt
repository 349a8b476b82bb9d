-- What a state weighs: its bullets and its logged positions are the words of both lists, a caller can weigh it on session and slices, and no weight and no peak is over `heaviest`.
use mathlib.Core.Path.{◌≡◌, refl, sym, ap, ap₂, ◌∙◌}
use mathlib.Core.Option.{none}
use mathlib.Core.List.{List, [], ◌∷◌, ◌++◌, reverse, reverse-append}
use Prim.Native.Nat.{ℕ, zero, suc, ◌+◌, ◌-◌, ◌*◌, ◌≤◌, zero-le}
use native.Mathlib.Nat.{le_trans, zero-add, suc-add, add_comm, mul-le-mul_right}
use native.Mathlib.Omega.{arith}
use lib.ListN.{length, take, length-append}
use Rattle.term.specs.Table.{Table, table_in}
use Rattle.term.specs.Facts.{Facts}
use Rattle.term.specs.Accepted.{most_nodes}
use Rattle.term.proofs.Facts.{accepted_facts}
use Rattle.machine.specs.Entries.{Entry, entry, Log, ε, ◌▸◌, bullet, held, Tape, entry_words, log_words, tape_words}
use Rattle.machine.specs.Machine.{State}
use Rattle.machine.specs.Good.{EntryIn, LogIn, TapeIn}
use Rattle.machine.proofs.Nodes.{not_zero}
use Rattle.machine.proofs.Load.{slice_front}
use Rattle.calls.specs.Session.{Given}
use Rattle.calls.specs.Stops.{Way, forward, Moment, moment_of, Room, room, log_size, tape_size}
use Rattle.calls.specs.Digits.{digits, HasDigits}
use Rattle.calls.specs.Weight.{bullets, entry_positions, log_positions, tape_positions, logged_positions, weight, zero_words, bullets_given, weight_given, heaviest}
use Rattle.calls.specs.Winding.{Run, wind}
use Rattle.calls.specs.Calls.{longest, Enters}
use Rattle.calls.specs.Walks.{Walked, PeakOver}
use Rattle.calls.specs.Visits.{found_by}
use Rattle.calls.specs.Moves.{Move, outcome_of, own_number, way_of, run_of}
use Rattle.calls.proofs.Stops.{Fits, fits_next}
use Rattle.calls.proofs.Winds.{each_run}
use Rattle.calls.proofs.Digits.{digits_are, digits_at_most, digits_once}
use Rattle.calls.proofs.Peaks.{walked_nowhere, walked}
use Rattle.calls.proofs.Visits.{wind_none}
use Rattle.calls.proofs.Entering.{enters_fits}
use Rattle.calls.proofs.EachMove.{laws}
use Rattle.calls.proofs.Answers.{moved, each_outcome}

-- ---- the words of both lists

mutual
  entry_positions_lem : (e : Entry) → entry_positions e ≡ length (entry_words e)
  entry_positions_lem (entry v es) = ap suc (log_positions_lem es)

  log_positions_lem : (L : Log) → log_positions L ≡ length (log_words L)
  log_positions_lem ε = refl
  log_positions_lem (e ▸ L) = ap₂ ◌+◌ (entry_positions_lem e) (log_positions_lem L) ∙ sym (length-append (entry_words e) (log_words L))

pub tape_words_lem : (t : Tape) → bullets t + tape_positions t ≡ length (tape_words t)
tape_words_lem [] = refl
tape_words_lem (bullet ∷ t) = suc-add (bullets t) (tape_positions t) ∙ ap suc (tape_words_lem t)
tape_words_lem (held e ∷ t) =
    let h : bullets t + tape_positions t ≡ length (tape_words t) = tape_words_lem t in
    let k : entry_positions e ≡ length (entry_words e) = entry_positions_lem e in
    let l : length (entry_words e ++ tape_words t) ≡ length (entry_words e) + length (tape_words t) = length-append (entry_words e) (tape_words t) in
    omega arith

-- Bullets and logged positions together are the words of both lists.
pub all_words : (s : State) → bullets s.tape + logged_positions s ≡ log_size s + tape_size s
all_words s =
    let l : log_positions s.log ≡ length (log_words s.log) = log_positions_lem s.log in
    let t : bullets s.tape + tape_positions s.tape ≡ length (tape_words s.tape) = tape_words_lem s.tape in
    omega arith

-- So a state weighs by its bullets and the words of its lists, if there are k of these.
pub weight_by_words : (T : Table) (s : State) (k : ℕ) → k ≡ log_size s + tape_size s → weight T s ≡ bullets s.tape + digits T.nodes * (k - bullets s.tape)
unfolding weight
weight_by_words T s k e =
    let h : bullets s.tape + logged_positions s ≡ log_size s + tape_size s = all_words s in
    let p : logged_positions s ≡ k - bullets s.tape = omega arith in
    ap (λ q. bullets s.tape + digits T.nodes * q) p

-- ---- the bullets among the words of a tape

zeros_append : (xs ys : List ℕ) → zero_words (xs ++ ys) ≡ zero_words xs + zero_words ys
zeros_append [] ys = sym (zero-add (zero_words ys))
zeros_append (zero ∷ xs) ys = ap suc (zeros_append xs ys) ∙ sym (suc-add (zero_words xs) (zero_words ys))
zeros_append (suc v ∷ xs) ys = zeros_append xs ys

zeros_reverse : (xs : List ℕ) → zero_words (reverse xs) ≡ zero_words xs
zeros_reverse [] = refl
zeros_reverse (x ∷ xs) =
    ap zero_words (reverse-append (x ∷ []) xs)
    ∙ zeros_append (reverse xs) (x ∷ [])
    ∙ ap (λ k. k + zero_words (x ∷ [])) (zeros_reverse xs)
    ∙ add_comm (zero_words xs) (zero_words (x ∷ []))
    ∙ sym (zeros_append (x ∷ []) xs)

pub other_word : (v : ℕ) (ws : List ℕ) → (v ≡ 0 → ⊥) → zero_words (v ∷ ws) ≡ zero_words ws
other_word zero ws z = absurd (z refl)
other_word (suc v) ws z = refl

module _ (T : Table) (F : Facts T) where
  mutual
    entry_zeros : (e : Entry) → EntryIn T e → zero_words (entry_words e) ≡ 0
    entry_zeros (entry v es) h = other_word v (log_words es) (not_zero T F v h.0) ∙ log_zeros es h.2

    log_zeros : (L : Log) → LogIn T L → zero_words (log_words L) ≡ 0
    log_zeros ε h = refl
    log_zeros (e ▸ L) h = zeros_append (entry_words e) (log_words L) ∙ ap₂ ◌+◌ (entry_zeros e h.0) (log_zeros L h.1)

  tape_zeros : (t : Tape) → TapeIn T t → zero_words (tape_words t) ≡ bullets t
  tape_zeros [] h = refl
  tape_zeros (bullet ∷ t) h = ap suc (tape_zeros t h)
  tape_zeros (held e ∷ t) h = zeros_append (entry_words e) (tape_words t) ∙ ap₂ ◌+◌ (entry_zeros e h.0) (tape_zeros t h.1) ∙ zero-add (bullets t)

-- ---- what a call is given

module _ (g : Given) (s : State) (h : Enters g s) where
  abbrev T : Table
  T = table_in g.table g.n

  pub bullets_given_lem : bullets_given g ≡ bullets s.tape
  bullets_given_lem =
      ap zero_words
      (ap₂ take h.holds.tape_length_is h.holds.tape_lies ∙ slice_front (length g.tape) (tape_words s.tape))
      ∙ zeros_reverse (tape_words s.tape)
      ∙ tape_zeros T (accepted_facts g.table g.n h.accepted_table) s.tape h.holds.good.tape_items

  -- A caller can weigh the state on its session and slices, with any X that lies between the powers of two.
  pub weighed : (X : ℕ) → HasDigits g.n X → weight T s ≡ weight_given X g
  unfolding table_in
  weighed X d =
      let k : ℕ = g.session.log_length + g.session.tape_length in
      let e : digits g.n ≡ X = digits_once g.n (digits g.n) X (digits_are g.n h.accepted_table.some_node) d in
      weight_by_words T s k (ap₂ ◌+◌ h.holds.log_length_is h.holds.tape_length_is)
      ∙ ap₂ (λ x b. b + x * (k - b)) e (sym bullets_given_lem)

-- ---- no weight is over `heaviest`

module _ (T : Table) (some_node : 1 ≤ T.nodes) (few_nodes : T.nodes ≤ most_nodes) where
  pub light : (s : State) → log_size s ≤ longest → tape_size s ≤ longest → weight T s ≤ heaviest
  unfolding weight
  light s l t =
      let d : digits T.nodes ≤ 12 = digits_at_most T.nodes (digits T.nodes) 12 (digits_are T.nodes some_node) (omega arith) in
      let x : digits T.nodes * logged_positions s ≤ 12 * logged_positions s = mul-le-mul_right (logged_positions s) d in
      let e : bullets s.tape + logged_positions s ≡ log_size s + tape_size s = all_words s in
      omega arith

  run_light : (way : Way) (r : Room) → r.log ≤ longest → r.tape ≤ longest → (c : ℕ) (m : Moment) → Fits r m.state → (wind way T r c m).peak ≤ heaviest
  run_light way r short_log short_tape =
      each_run way T r (λ c m run. Fits r m.state → run.peak ≤ heaviest) here (λ c m x e f. here m f)
      (λ c m u run e n more f.
      let a : weight T m.state ≤ heaviest = here m f in
      let b : run.peak ≤ heaviest = more (fits_next way T r (suc c) m e u n) in
      omega arith)
    where
      here : (m : Moment) → Fits r m.state → weight T m.state ≤ heaviest
      here m f = light m.state (le_trans f.log_fits short_log) (le_trans f.tape_fits short_tape)

-- a walk from the state given, and that state
from_here : (way : Way) (g : Given) (s : State) → Enters g s → (c : ℕ)
    → (wind way (table_in g.table g.n) (room g.log g.tape) c (moment_of g.session s)).peak ≤ heaviest
unfolding table_in
from_here way g s h c =
    run_light (table_in g.table g.n) h.accepted_table.some_node h.accepted_table.few_nodes way (room g.log g.tape) h.short_log h.short_tape c
    (moment_of g.session s) (enters_fits g s h)

own_light : (g : Given) (s : State) → Enters g s → weight (table_in g.table g.n) s ≤ heaviest
own_light g s h = rw (wind_none forward (table_in g.table g.n) (room g.log g.tape) (moment_of g.session s)) at (from_here forward g s h 0)

-- Every peak fits its word, whatever the call is given.
pub peak_light : (m : Move) (g : Given) → (outcome_of m g).peak ≤ heaviest
peak_light m g =
    each_outcome m g (λ o. o.peak ≤ heaviest) (λ k. zero-le)
    (λ s h. record { walk = λ c. from_here (way_of m g.session.position) g s h c; found = λ c. from_here (way_of m g.session.position) g s h c; none = own_light g s h })

-- The same run, as found.
found_walked : (way : Way) (T : Table) (m : Moment) (run : Run) → Walked way T m run → Walked way T m (found_by run)
found_walked way T m run w = record {
  last_is = w.last_is;
  covered = w.covered;
  highest = record {
    steps = w.highest.steps;
    within = w.highest.within;
    moment = w.highest.moment;
    stood = w.highest.stood;
    weight_is = w.highest.weight_is;
  };
}

-- So it is in each call that is not refused, over a run the way that the call goes, whatever its stop; none has the present state's own.
pub peak_greatest : (m : Move) (g : Given) (s : State) → Enters g s → own_number m g.n g.session.position ≡ none → PeakOver g s (way_of m g.session.position) (outcome_of m g)
peak_greatest m g s h o =
    let T : Table = table_in g.table g.n in
    let r : Room = room g.log g.tape in
    let x : Moment = moment_of g.session s in
    let way : Way = way_of m g.session.position in (
      run_of m T r x,
      moved m g s h o,
      (laws m).walks T r (λ run. Walked way T x run) x
          (record { walk = λ c. walked way T r c x; found = λ c. found_walked way T x _ (walked way T r c x); none = walked_nowhere way T x _ }),
    )
