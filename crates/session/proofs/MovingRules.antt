-- Rules 3, 4, 6 and 8 on the slices: what the mover leaves there after each, and where it lacks room.
use mathlib.Core.Path.{◌≡◌, refl, sym, ap, ◌∙◌, subst}
use mathlib.Core.Option.{some}
use mathlib.Core.List.{List, ◌∷◌, ◌++◌}
use Prim.Native.Nat.{ℕ, suc, ◌+◌, ◌-◌, ◌≤◌, ◌<◌}
use native.Mathlib.Omega.{arith}
use lib.ListN.{length, set, replicate, length-append}
use borrow.Rule.Slice.PartMut.{mid_len, put_same}
use Rattle.term.specs.Table.{table_in, arity}
use Rattle.machine.specs.Entries.{entry, Log, ◌▸◌, topmost, rest, held, Tape, entry_words, log_words, tape_words}
use Rattle.machine.specs.Machine.{State, state, step}
use Rattle.machine.specs.Good.{EntryIn, LogIn, TapeIn}
use Rattle.machine.specs.Slice.{slice}
use Rattle.machine.proofs.Logs.{words_onto}
use Rattle.session.specs.Types.{dir_meant}
use Rattle.session.specs.Extent.{span_below}
use Rattle.session.specs.Mover.{MakerIs}
use Rattle.session.specs.Steps.{TokenAt, StepIs}
use Rattle.session.specs.Rules.{RuleIs, part_from, with_part, ends_after, MovedOnto, onto_log, onto_tape}
use Rattle.session.specs.declared.Dir.{Dir}
use Rattle.session.specs.declared.Dir.TheVariants.{Down, Up}
use Rattle.session.specs.declared.Session as Declared
use Rattle.session.specs.declared.choice.Rule.TheVariants.{Three, Four, Six, Eight}
use Rattle.session.specs.declared.rules.ListEnds.{ListEnds}
use Rattle.session.specs.declared.rules.Full.TheVariants as IsFull
use Rattle.std.specs.Prelude.{Some, None, Ok, Err}
use Rattle.session.proofs.Slices.{Lies}
use Rattle.session.proofs.MovedWords.{entries_words, Found, zeros_above, lies_stacked, under_stacked, fewer, words_came, entry_came, words_left, words_left_under, entry_found, inside_found, entries_found}
use Rattle.session.proofs.Arrivals.{log_there, tape_there, arrival, arrives}

module _ {w : List ℕ} {n : ℕ} {se : Declared.Session} {ls ts : List ℕ} {s : State} (h : TokenAt w n se ls ts s) where
  log_lies : Lies ls se.log_len (log_words s.log)
  log_lies = log_there h s.log refl

  tape_lies : Lies ts se.tape_len (tape_words s.tape)
  tape_lies = tape_there h s.tape refl

  -- the room that the lent part has
  log_room : length (part_from se.log_len ls) ≡ length ls - se.log_len
  log_room = mid_len se.log_len (length ls) ls (omega arith)

  tape_room : length (part_from se.tape_len ts) ≡ length ts - se.tape_len
  tape_room = mid_len se.tape_len (length ts) ts (omega arith)

  -- A step by which the words xs come onto a list.
  module _ (j : ℕ) (d : Dir) {L : Log} {t : Tape} (e : step (table_in w n) s ≡ some (state j (dir_meant d) L t)) (xs : List ℕ) where
    -- onto the log, from the tape below index `top`
    module _ (on : log_words L ≡ xs ++ log_words s.log) (top owed : ℕ) {above : List ℕ}
        (find : (k : ℕ) → k ≡ span_below (table_in w n) ts top owed → Found ts top k xs (tape_words t) above) where
      log_gains : top ≤ length ts → (ends : ListEnds) (ls' ts' ts'' : List ℕ) → MovedOnto (table_in w n) ts top owed ls se.log_len (Some ends) ts' ls'
          → ts'' ≡ slice (length ts) (tape_words t) → StepIs w n se ls ts s (Ok (onto_log j d ends)) ls' ts''
      log_gains inside ends ls' ts' ts'' i lies_t =
          let (part, (k_is, few, room, moved), left_is, came_is, back) = i in
          let found = find ends.carried k_is in
          let count = found.count in
          let there = log_room in
          let many = log_lies.many in
          let below = log_lies.fits in
          let grown : ends.came ≡ length (log_words L) = omega (arith, ap length on, length-append xs (log_words s.log)) in
          arrives h j d L t e ends.came ends.left grown (left_is ∙ fewer found) (omega arith) (omega arith) ends.carried (omega arith) ls' ts''
          (back ∙ ap (with_part se.log_len ls) moved.came ∙ words_came found log_lies (omega arith) ∙ ap (slice (length ls)) (sym on)) lies_t

      log_lacks : (ls' ts' : List ℕ) → MovedOnto (table_in w n) ts top owed ls se.log_len None ts' ls' → StepIs w n se ls ts s (Err IsFull.Log) ls' ts'
      log_lacks ls' ts' i =
          let (part, (short, same_tape, same_part), back) = i in
          let count = (find (span_below (table_in w n) ts top owed) refl).count in
          let there = log_room in
          let many = log_lies.many in
          let over : length ls < length (log_words L) = omega (arith, ap length on, length-append xs (log_words s.log)) in
          (state j (dir_meant d) L t, e, over, back ∙ ap (with_part se.log_len ls) same_part ∙ put_same se.log_len (length ls - se.log_len) ls, same_tape)

    -- onto the tape
    module _ (on : tape_words t ≡ xs ++ tape_words s.tape) where
      tape_gains : (l m k : ℕ) → l ≡ length (log_words L) → l ≤ length ls → m ≡ se.tape_len + length xs → m ≤ length ts
          → k ≡ (l - se.log_len) + (se.log_len - l)
          → (ls' ts' : List ℕ) → ls' ≡ slice (length ls) (log_words L) → ts' ≡ slice (length ts) (xs ++ tape_words s.tape)
          → StepIs w n se ls ts s (Ok (arrival j d l m k)) ls' ts'
      tape_gains l m k l_is l_fits m_is m_fits k_is ls' ts' lies_l lies_t =
          let many = tape_lies.many in
          let grown : m ≡ length (tape_words t) = omega (arith, ap length on, length-append xs (tape_words s.tape)) in
          arrives h j d L t e l m l_is grown l_fits m_fits k k_is ls' ts' lies_l (lies_t ∙ ap (slice (length ts)) (sym on))

      tape_lacks : length (part_from se.tape_len ts) < length xs → length (log_words L) ≤ length ls
          → (ls' part : List ℕ) → ls' ≡ ls → part ≡ part_from se.tape_len ts
          → StepIs w n se ls ts s (Err IsFull.Tape) ls' (with_part se.tape_len ts part)
      tape_lacks short fits ls' part same_log same_part =
          let there = tape_room in
          let many = tape_lies.many in
          let over : length ts < length (tape_words t) = omega (arith, ap length on, length-append xs (tape_words s.tape)) in
          (state j (dir_meant d) L t, e, fits, over, same_log, ap (with_part se.tape_len ts) same_part ∙ put_same se.tape_len (length ts - se.tape_len) ts)

  -- Rule 3: the top arity-many entries of the log go onto the tape, and the variable's word above them.
  module _ (j a : ℕ) (f : RuleIs (table_in w n) s (Three j)) (a_is : a ≡ arity (table_in w n) se.node) where
    pub few_3 : a ≤ length ls
    few_3 =
        let below = log_lies.fits in
        let many = log_lies.many in
        let same = ap (arity (table_in w n)) h.enters.holds.node_is in
        omega (arith, entries_words s.log, f.0)

    inner : Log
    inner = topmost (arity (table_in w n) s.node) s.log

    left_3 : Log
    left_3 = rest (arity (table_in w n) s.node) s.log

    found_3 : {k : ℕ} → k ≡ span_below (table_in w n) ls se.log_len a → Found ls se.log_len k (log_words inner) (log_words left_3) (zeros_above ls (log_words s.log))
    unfolding inner left_3
    found_3 k_is =
        entries_found (table_in w n) (arity (table_in w n) s.node) s.log h.enters.holds.good.log_entries f.0 (lies_stacked log_lies)
        (k_is ∙ ap (span_below (table_in w n) ls se.log_len) (a_is ∙ ap (arity (table_in w n)) h.enters.holds.node_is))

    entry_3 : tape_words (held (entry s.node inner) ∷ s.tape) ≡ (se.node ∷ log_words inner) ++ tape_words s.tape
    entry_3 = ap (λ v. v ∷ (log_words inner ++ tape_words s.tape)) (sym h.enters.holds.node_is)

    pub made_3 : (k : ℕ) (ls' part : List ℕ) → MakerIs (table_in w n) ls se.log_len a se.node (part_from se.tape_len ts) (Some k) ls' part
        → StepIs w n se ls ts s (Ok (onto_tape j Up (ends_after k se.log_len se.tape_len 1))) ls' (with_part se.tape_len ts part)
    unfolding inner left_3
    made_3 k ls' part i =
        let (k_is, few, room, left, came) = i in
        let found = found_3 k_is in
        let count = found.count in
        let there = tape_room in
        let fits = tape_lies.fits in
        let below = log_lies.fits in
        let many = log_lies.many in
        tape_gains j Up f.1 (se.node ∷ log_words inner) entry_3 (se.log_len - k) (se.tape_len + k + 1) k (fewer found) (omega arith) (omega arith) (omega arith) (omega arith) ls' _
        (left ∙ words_left (length ls - length (log_words s.log)) found (omega arith))
        (ap (with_part se.tape_len ts) came ∙ entry_came found tape_lies se.node (omega arith))

    pub full_3 : (ls' part : List ℕ) → MakerIs (table_in w n) ls se.log_len a se.node (part_from se.tape_len ts) None ls' part
        → StepIs w n se ls ts s (Err IsFull.Tape) ls' (with_part se.tape_len ts part)
    unfolding inner left_3
    full_3 ls' part i =
        let (short, same_log, same_part) = i in
        let found = found_3 refl in
        let count = found.count in
        let less = fewer found in
        let below = log_lies.fits in
        tape_lacks j Up f.1 (se.node ∷ log_words inner) entry_3 (omega arith) (omega arith) ls' part same_log same_part

  -- Rule 4: the entries inside the tape's top entry go onto the log, and its own word goes.
  module _ (j a : ℕ) (f : RuleIs (table_in w n) s (Four j)) where
    entry_4 : Lies ts se.tape_len (j ∷ (log_words f.0 ++ tape_words f.1))
    entry_4 = tape_there h (held (entry j f.0) ∷ f.1) f.2

    abbrev above_4 : ℕ
    above_4 = length ts - suc (length (log_words f.0 ++ tape_words f.1))

    good_4 : EntryIn (table_in w n) (entry j f.0)
    good_4 = (subst (TapeIn (table_in w n)) f.2 h.enters.holds.good.tape_items).0

    module _ (a_is : a ≡ arity (table_in w n) j) where
      pub few_4 : a ≤ length ts
      few_4 =
          let many = entry_4.many in
          let fits = entry_4.fits in
          omega (arith, entries_words f.0, length-append (log_words f.0) (tape_words f.1), good_4.1)

      found_4 : (k : ℕ) → k ≡ span_below (table_in w n) ts (se.tape_len - 1) a → Found ts (se.tape_len - 1) k (log_words f.0) (tape_words f.1) (j ∷ replicate above_4 0)
      found_4 k k_is =
          inside_found (table_in w n) f.0 (tape_words f.1) good_4.2 (under_stacked entry_4)
          (k_is ∙ ap (span_below (table_in w n) ts (se.tape_len - 1)) (a_is ∙ sym good_4.1))

      pub made_4 : (ends : ListEnds) (ls' ts' : List ℕ) → MovedOnto (table_in w n) ts (se.tape_len - 1) a ls se.log_len (Some ends) ts' ls'
          → StepIs w n se ls ts s (Ok (onto_log j Up ends)) ls' (set ts' (se.tape_len - 1) 0)
      made_4 ends ls' ts' i =
          let (part, (k_is, few, room, moved), left_is, came_is, back) = i in
          let many = entry_4.many in
          let fits = entry_4.fits in
          log_gains j Up f.3 (log_words f.0) (words_onto f.0 s.log) (se.tape_len - 1) a found_4 (omega arith) ends ls' ts' _ i
          (ap (λ q. set q (se.tape_len - 1) 0) moved.left ∙ words_left_under above_4 (found_4 ends.carried k_is) (omega arith))

      pub full_4 : (ls' ts' : List ℕ) → MovedOnto (table_in w n) ts (se.tape_len - 1) a ls se.log_len None ts' ls' → StepIs w n se ls ts s (Err IsFull.Log) ls' ts'
      full_4 = log_lacks j Up f.3 (log_words f.0) (words_onto f.0 s.log) (se.tape_len - 1) a found_4

  -- Rule 6: the tape's top entry goes onto the log.
  module _ (j : ℕ) (f : RuleIs (table_in w n) s (Six j)) where
    found_6 : (k : ℕ) → k ≡ span_below (table_in w n) ts se.tape_len 1 → Found ts se.tape_len k (entry_words f.0) (tape_words f.1) (zeros_above ts (entry_words f.0 ++ tape_words f.1))
    found_6 k k_is =
        entry_found (table_in w n) f.0 (tape_words f.1) (subst (TapeIn (table_in w n)) f.2 h.enters.holds.good.tape_items).0
        (lies_stacked (tape_there h (held f.0 ∷ f.1) f.2)) k_is

    pub made_6 : (ends : ListEnds) (ls' ts' : List ℕ) → MovedOnto (table_in w n) ts se.tape_len 1 ls se.log_len (Some ends) ts' ls'
        → StepIs w n se ls ts s (Ok (onto_log j Down ends)) ls' ts'
    made_6 ends ls' ts' i =
        let (part, (k_is, few, room, moved), left_is, came_is, back) = i in
        let found = found_6 ends.carried k_is in
        let many = found.stacked.many in
        let fits = tape_lies.fits in
        log_gains j Down f.3 (entry_words f.0) refl se.tape_len 1 found_6 fits ends ls' ts' ts' i
        (moved.left ∙ words_left (length ts - length (entry_words f.0 ++ tape_words f.1)) found (omega arith))

    pub full_6 : (ls' ts' : List ℕ) → MovedOnto (table_in w n) ts se.tape_len 1 ls se.log_len None ts' ls' → StepIs w n se ls ts s (Err IsFull.Log) ls' ts'
    full_6 = log_lacks j Down f.3 (entry_words f.0) refl se.tape_len 1 found_6

  -- Rule 8: the log's top entry goes onto the tape.
  module _ (j : ℕ) (f : RuleIs (table_in w n) s (Eight j)) where
    found_8 : {k : ℕ} → k ≡ span_below (table_in w n) ls se.log_len 1 → Found ls se.log_len k (entry_words f.0) (log_words f.1) (zeros_above ls (entry_words f.0 ++ log_words f.1))
    found_8 k_is =
        entry_found (table_in w n) f.0 (log_words f.1) (subst (LogIn (table_in w n)) f.2 h.enters.holds.good.log_entries).0
        (lies_stacked (log_there h (f.0 ▸ f.1) f.2)) k_is

    pub made_8 : (ends : ListEnds) (ls' ts' : List ℕ) → MovedOnto (table_in w n) ls se.log_len 1 ts se.tape_len (Some ends) ls' ts'
        → StepIs w n se ls ts s (Ok (onto_tape j Down ends)) ls' ts'
    made_8 ends ls' ts' i =
        let (part, (k_is, few, room, moved), left_is, came_is, back) = i in
        let found = found_8 k_is in
        let count = found.count in
        let many = found.stacked.many in
        let there = tape_room in
        let below = tape_lies.fits in
        let fits = log_lies.fits in
        tape_gains j Down f.3 (entry_words f.0) refl ends.left ends.came ends.carried (left_is ∙ fewer found) (omega arith) (omega arith) (omega arith) (omega arith) ls' ts'
        (moved.left ∙ words_left (length ls - length (entry_words f.0 ++ log_words f.1)) found (omega arith))
        (back ∙ ap (with_part se.tape_len ts) moved.came ∙ words_came found tape_lies (omega arith))

    pub full_8 : (ls' ts' : List ℕ) → MovedOnto (table_in w n) ls se.log_len 1 ts se.tape_len None ls' ts' → StepIs w n se ls ts s (Err IsFull.Tape) ls' ts'
    full_8 ls' ts' i =
        let (part, (short, same_log, same_part), back) = i in
        let found = found_8 refl in
        let count = found.count in
        let less = fewer found in
        let below = log_lies.fits in
        rw back (tape_lacks j Down f.3 (entry_words f.0) refl (omega arith) (omega arith) ls' part same_log same_part)
