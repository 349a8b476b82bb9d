-- The top entry as part of its slice: what a call shows, word for word, and which number refuses it.
use mathlib.Core.Path.{◌≡◌, refl, sym, ap, ◌∙◌, subst}
use mathlib.Core.Logic.{◌↔◌, ◌⊎◌, inl, inr, ⊎_elim}
use mathlib.Core.Option.{Option, none, some}
use mathlib.Core.List.{List, [], ◌∷◌, ◌++◌, reverse, reverse-reverse, append-nil}
use Prim.Native.Nat.{ℕ, ◌+◌, ◌-◌, ◌*◌, ◌≤◌}
use native.Mathlib.Omega.{arith}
use lib.ListN.{length, take, drop, length-append, length-reverse, length-replicate}
use Rattle.term.specs.Choice.{◌⇒◌, first, is_none, if_some}
use Rattle.term.specs.Table.{Table, table_in}
use Rattle.term.specs.Accepted.{Accepted}
use Rattle.term.proofs.Table.{ignored, accepted_ignores}
use Rattle.term.proofs.Facts.{accepted_facts}
use Rattle.machine.specs.Entries.{entry, Log, ε, ◌▸◌, Item, bullet, held, Tape, item_words, log_words, tape_words}
use Rattle.machine.specs.Machine.{State}
use Rattle.machine.specs.Good.{TapeIn, Good}
use Rattle.machine.specs.Slice.{slice, read_tape}
use Rattle.machine.proofs.Load.{words_above, tape_read}
use Rattle.machine.proofs.After.{after_good}
use Rattle.machine.proofs.Turns.{turns_at_most}
use Rattle.calls.specs.Session.{Given}
use Rattle.calls.specs.Stops.{Moment, moment_after, Room}
use Rattle.calls.specs.Calls.{longest, call_tests, call_number, Enters}
use Rattle.calls.specs.Top.{Which, log, tape, Shown, shown, not_shown, shows, shown_given, top_number, top_by, top_of, slice_given, length_given, OnTop, IsEmpty, PointsAt}
use Rattle.calls.specs.Demand.{Standing, given_to, AsPlain}
use Rattle.calls.proofs.Order.{first_of_both}
use Rattle.calls.proofs.Unrefused.{call_names}
use Rattle.calls.proofs.Stops.{Fits}
use Rattle.calls.proofs.Entering.{state_given_lem, enters_unrefused, entered, laid_down, laid_enters}

-- the words xs on top of ys, where they lie in the slice
words_there : (room : ℕ) (xs ys : List ℕ) → take (length xs) (drop (length ys) (slice room (xs ++ ys))) ≡ reverse xs
unfolding slice
words_there room xs ys = words_above xs ys _

some_word : (x : Item) → length (item_words x) ≡ 0 → ⊥
some_word bullet e = omega arith
some_word (held (entry v es)) e = omega arith

pub alone_in : (T : Table) (x : Item) (t : Tape) → TapeIn T (x ∷ t) → TapeIn T (x ∷ [])
alone_in T bullet t h = tt
alone_in T (held e) t h = (h.0, tt)

-- An entry or a bullet above other words in the chosen slice.
record Above (which : Which) (g : Given) (s : State) (x : Item) : Type 0 where
  below : List ℕ
  shows_it : shows which s ≡ some (shown x (length below))
  many : length_given which g.session ≡ length (item_words x ++ below)
  there : slice_given which g ≡ slice (length (slice_given which g)) (item_words x ++ below)
  by_itself : TapeIn (table_in g.table g.n) (x ∷ [])

above : (which : Which) (g : Given) (s : State) → Enters g s → (x : Item) → OnTop which s x → Above which g s x
above log g s h x p =
    let (e, L, x_is, log_is) = p in
    let items = rw log_is at h.holds.good.log_entries in
    subst (Above log g s) (sym x_is)
    (record {
      below = log_words L;
      shows_it = rw log_is;
      many = h.holds.log_length_is ∙ ap (λ M. length (log_words M)) log_is;
      there = h.holds.log_lies ∙ ap (λ M. slice (length g.log) (log_words M)) log_is;
      by_itself = (items.0, tt);
    })
above tape g s h x p =
    let (t, tape_is) = p in
    record {
      below = tape_words t;
      shows_it = rw tape_is;
      many = h.holds.tape_length_is ∙ ap (λ u. length (tape_words u)) tape_is;
      there = h.holds.tape_lies ∙ ap (λ u. slice (length g.tape) (tape_words u)) tape_is;
      by_itself = alone_in (table_in g.table g.n) x t (rw tape_is at h.holds.good.tape_items);
    }

shows_nothing : (which : Which) (s : State) → IsEmpty which s → shows which s ≡ none
shows_nothing log s e = rw e
shows_nothing tape s e = rw e

list_fits : (which : Which) (g : Given) (s : State) → Enters g s → (length_given which g.session ≤ length (slice_given which g)) × (length (slice_given which g) ≤ longest)
list_fits log g s h = (h.holds.log_fits, h.short_log)
list_fits tape g s h = (h.holds.tape_fits, h.short_tape)

-- the chosen list is empty, or something is on top of it
pub top_or_empty : (which : Which) (s : State) → IsEmpty which s ⊎ ((x : Item) × OnTop which s x)
top_or_empty log s = by_log s.log refl
  where
    by_log : (L : Log) → s.log ≡ L → IsEmpty log s ⊎ ((x : Item) × OnTop log s x)
    by_log ε e = inl e
    by_log (x ▸ L) e = inr (held x, (x, L, refl, e))
top_or_empty tape s = by_tape s.tape refl
  where
    by_tape : (t : Tape) → s.tape ≡ t → IsEmpty tape s ⊎ ((x : Item) × OnTop tape s x)
    by_tape [] e = inl e
    by_tape (x ∷ t) e = inr (x, (t, e))

module _ (which : Which) (g : Given) where
  top_by_lem : top_number which g ≡ if_some (call_number g) (λ k. some k) (λ _. first ((is_none (shown_given which g) ⇒ 10) ∷ []))
  unfolding top_number call_number
  top_by_lem = first_of_both (call_tests g) ((is_none (shown_given which g) ⇒ 10) ∷ [])

  -- 7, 8 and 9 as in the calls that wind
  pub top_refused : (k : ℕ) → call_number g ≡ some k → top_of which g ≡ not_shown k
  unfolding top_of
  top_refused k e = rw (top_by_lem, e)

  -- then what the state given shows, and 10 where it shows nothing
  module _ (s : State) (h : Enters g s) where
    pub top_of_state : top_of which g ≡ top_by none (shows which s)
    unfolding top_of
    top_of_state = by_shown (shows which s) refl
      where
        shown_given_lem : shown_given which g ≡ shows which s
        shown_given_lem = rw (state_given_lem g s h)

        by_shown : (o : Option Shown) → shows which s ≡ o → top_by (top_number which g) (shown_given which g) ≡ top_by none o
        by_shown none e = rw (top_by_lem, enters_unrefused g s h, shown_given_lem, e)
        by_shown (some a) e = rw (top_by_lem, enters_unrefused g s h, shown_given_lem, e)

    pub top_empty : IsEmpty which s → top_of which g ≡ not_shown 10
    top_empty e = top_of_state ∙ ap (top_by none) (shows_nothing which s e)

    pub top_points : (x : Item) → OnTop which s x → PointsAt which g (top_of which g) s x
    top_points x p =
        let a = above which g s h x p in
        let T = table_in g.table g.n in
        let is : top_of which g ≡ shown x (length a.below) = top_of_state ∙ ap (top_by none) a.shows_it in
        subst (λ z. PointsAt which g z s x) (sym is)
        (record {
          enters = h;
          on_top = p;
          unrefused = refl;
          whole = refl;
          ends = omega (arith, a.many, length-append (item_words x) a.below);
          lies = sym (ap (λ q. take (length (item_words x)) (drop (length a.below) q)) a.there ∙ words_there (length (slice_given which g)) (item_words x) a.below);
          words = reverse-reverse (item_words x);
          alone =
              ap (λ q. read_tape T (reverse q) []) (sym (append-nil (item_words x)))
              ∙ tape_read T (accepted_facts g.table g.n h.accepted_table) (x ∷ []) a.by_itself;
        })

  -- A call is refused with a number other than 0, or points at what is on top of the chosen list.
  abbrev Answered : Type 0
  Answered = ((k : ℕ) × (top_of which g ≡ not_shown k) × (7 ≤ k)) ⊎ ((s : State) × (x : Item) × PointsAt which g (top_of which g) s x)

  top_answers : Answered
  top_answers = by_number (call_number g) refl
    where
      by_number : (o : Option ℕ) → call_number g ≡ o → Answered
      by_number (some k) e = inl (k, top_refused k e, (call_names g k e).0)
      by_number none e =
          let (s, h) = entered g e in
          ⊎_elim (λ z. inl (10, top_empty s h z, omega arith)) (λ p. inr (s, p.0, top_points s h p.0 p.1)) (top_or_empty which s)

  pub points : (top_of which g).refusal ≡ 0 → (s : State) × (x : Item) × PointsAt which g (top_of which g) s x
  points z =
      ⊎_elim
      (λ r. let (k, is, from_seven) = r in let same : k ≡ 0 = sym (ap (λ a. a.refusal) is) ∙ z in absurd (omega arith))
      (λ p. p)
      top_answers

  pub refused_nowhere : ((top_of which g).refusal ≡ 0 → ⊥) → top_of which g ≡ not_shown (top_of which g).refusal
  refused_nowhere z =
      ⊎_elim
      (λ r. let (k, is, from_seven) = r in is ∙ ap not_shown (sym (ap (λ a. a.refusal) is)))
      (λ p. let (s, x, at) = p in absurd (z at.unrefused))
      top_answers

  -- "each refusal returns an empty part", and no other answer does
  pub empty_exactly : ((top_of which g).part ≡ []) ↔ ((top_of which g).refusal ≡ 0 → ⊥)
  empty_exactly = (
    λ e z. let (s, x, at) = points z in some_word x (sym (ap length at.words) ∙ ap (λ q. length (reverse q)) e),
    λ z. ap (λ a. a.part) (refused_nowhere z),
  )

  -- no number applies exactly where something is on top of the chosen list of the state given
  pub shown_exactly : ((top_of which g).refusal ≡ 0) ↔ ((s : State) × (x : Item) × Enters g s × OnTop which s x)
  shown_exactly = (
    λ z. let (s, x, at) = points z in (s, x, at.enters, at.on_top),
    λ p. let (s, x, h, on) = p in (top_points s h x on).unrefused,
  )

  -- 10 exactly where 7 to 9 do not apply and the chosen list is empty
  pub ten_exactly : ((top_of which g).refusal ≡ 10) ↔ ((s : State) × Enters g s × IsEmpty which s)
  ten_exactly = (by_number (call_number g) refl, λ p. let (s, h, e) = p in ap (λ a. a.refusal) (top_empty s h e))
    where
      by_number : (o : Option ℕ) → call_number g ≡ o → (top_of which g).refusal ≡ 10 → (s : State) × Enters g s × IsEmpty which s
      by_number (some k) e ten =
          let to_nine = (call_names g k e).1 in
          let same : k ≡ 10 = sym (ap (λ a. a.refusal) (top_refused k e)) ∙ ten in
          absurd (omega arith)
      by_number none e ten =
          let (s, h) = entered g e in
          ⊎_elim
          (λ z. (s, h, z))
          (λ p. let clash : 0 ≡ 10 = sym (top_points s h p.0 p.1).unrefused ∙ ten in absurd (omega arith))
          (top_or_empty which s)

  -- What is cut out of the chosen slice there is the part: refused or not.
  pub cut : take (top_of which g).size (drop (top_of which g).offset (slice_given which g)) ≡ (top_of which g).part
  cut =
      ⊎_elim
      (λ r. let (k, is, from_seven) = r in ap (λ a. take a.size (drop a.offset (slice_given which g))) is ∙ sym (ap (λ a. a.part) is))
      (λ p. let (s, x, at) = p in sym at.lies)
      top_answers

  pub part_size : length (top_of which g).part ≡ (top_of which g).size
  part_size =
      ⊎_elim
      (λ r. let (k, is, from_seven) = r in ap (λ a. length a.part) is ∙ sym (ap (λ a. a.size) is))
      (λ p. let (s, x, at) = p in sym (length-reverse (top_of which g).part) ∙ ap length at.words ∙ sym at.whole)
      top_answers

  pub cut_fits : ((top_of which g).offset + (top_of which g).size ≤ length (slice_given which g)) × ((top_of which g).offset + (top_of which g).size ≤ longest)
  cut_fits =
      ⊎_elim
      (λ r. let (k, is, from_seven) = r in
      let nothing : (top_of which g).offset + (top_of which g).size ≡ 0 = ap (λ a. a.offset + a.size) is in
      (omega arith, omega arith))
      (λ p. let (s, x, at) = p in let fits = list_fits which g s at.enters in (omega (arith, at.ends, fits.0), omega (arith, at.ends, fits.0, fits.1)))
      top_answers

-- Words that lie in a slice as long as its room fit there.
laid_fits : (room : ℕ) (ws s : List ℕ) → s ≡ slice room ws → length s ≡ room → length ws ≤ room
unfolding slice
laid_fits room ws s e long =
    let parts : length (slice room ws) ≡ length ws + (room - length ws) = simp (length-append, length-reverse, length-replicate) in
    omega (arith, sym (ap length e) ∙ long)

-- Where what stands is the plain machine's after p steps, as it is after every list of the third demand, top shows what is on top of the plain machine's own list.
pub plain_shown : (w u : List ℕ) (n : ℕ) → Accepted w n → take (5 * n) u ≡ take (5 * n) w → (r : Room) → r.log ≤ longest → r.tape ≤ longest
    → (s₀ : State) → Good (table_in w n) s₀ → (p : ℕ) (st : Standing) (plain : AsPlain (table_in w n) s₀ r p st) → length st.log ≡ r.log → length st.tape ≡ r.tape
    → (which : Which) → top_of which (given_to u n st) ≡ top_by none (shows which plain.state)
plain_shown w u n A same r short_log short_tape s₀ good₀ p st plain log_long tape_long which =
    let s = plain.state in
    let m : Moment = moment_after (table_in w n) s₀ p s in
    let laid : laid_down r m ≡ st = λ i. record { session = sym plain.session_is i; log = sym plain.log_is i; tape = sym plain.tape_is i } in
    let fits : Fits r s = record {
      log_fits = laid_fits r.log (log_words s.log) st.log plain.log_is log_long;
      tape_fits = laid_fits r.tape (tape_words s.tape) st.tape plain.tape_is tape_long;
    } in
    let good : Good (table_in u n) s = subst (λ T. Good T s) (sym (ignored u w n same)) (after_good w n A s₀ good₀ p s plain.after_is) in
    subst (λ z. top_of which (given_to u n z) ≡ top_by none (shows which s)) laid
    (top_of_state which (given_to u n (laid_down r m)) s
    (laid_enters r m fits u n (accepted_ignores w u n (sym same) A) good (turns_at_most (table_in w n) s₀ p) short_log short_tape))
