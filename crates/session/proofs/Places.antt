-- Where the top entry lies: the place that the code finds is that of what the state shows.
use mathlib.Core.Path.{◌≡◌, refl, ap, ◌∙◌}
use mathlib.Core.Option.{none}
use mathlib.Core.List.{List, [], ◌∷◌, ◌++◌}
use Prim.Native.Nat.{ℕ, ◌+◌, ◌-◌, ◌≤◌}
use native.Mathlib.Omega.{arith}
use lib.ListN.{length, take, drop, get_or}
use borrow.Author.Tests.{eq-eqb, ne_eqb}
use Rattle.term.specs.Table.{Table, table_in}
use Rattle.term.specs.Facts.{Facts}
use Rattle.term.proofs.Facts.{accepted_facts}
use Rattle.machine.specs.Entries.{entry, Log, ε, ◌▸◌, Item, bullet, held, Tape, item_words, log_words, tape_words}
use Rattle.machine.specs.Machine.{State}
use Rattle.machine.specs.Good.{TapeIn}
use Rattle.machine.proofs.Nodes.{not_zero}
use Rattle.calls.specs.Session.{Given}
use Rattle.calls.specs.Top.{Which, log, tape, as_told, shows, shown, not_shown, top_of_log, top_of_tape, top_by, top_of, seen, slice_given}
use Rattle.calls.proofs.Top.{alone_in, cut, cut_fits}
use Rattle.session.specs.Steps.{TokenAt}
use Rattle.session.specs.Extent.{span_below, ListIn}
use Rattle.session.specs.Part.{Placed, no_place, place_in, placed}
use Rattle.session.specs.declared.Session as Declared
use Rattle.session.proofs.Slices.{Lies}
use Rattle.session.proofs.MovedWords.{lies_stacked, fewer, entry_found}
use Rattle.session.proofs.Arrivals.{log_there, tape_there}
use Rattle.session.proofs.TopWord.{word_at}

module _ (T : Table) (F : Facts T) (s : List ℕ) (len : ℕ) where
  no_item_place : Lies s len [] → place_in T s len ≡ placed (not_shown 10)
  no_item_place p = rw (eq-eqb len 0 p.many)

  -- an entry or a bullet above the words ys
  item_place : (x : Item) (ys : List ℕ) → TapeIn T (x ∷ []) → Lies s len (item_words x ++ ys) → place_in T s len ≡ placed (shown x (length ys))
  item_place bullet ys g p =
      let many = p.many in
      let under : len - 1 ≡ length ys = omega arith in
      rw (ne_eqb len 0 (λ z. omega arith), eq-eqb (get_or s (len - 1) 0) 0 (word_at s len 0 ys p), under)
  item_place (held (entry v es)) ys g p =
      let many = p.many in
      let found = entry_found T {k = span_below T s len 1} (entry v es) ys g.0 (lies_stacked p) refl in
      rw (
        ne_eqb len 0 (λ z. omega arith),
        word_at s len v (log_words es ++ ys) p,
        ne_eqb v 0 (not_zero T F v g.0.0),
        fewer found,
        found.count,
      )

module _ {w : List ℕ} {n : ℕ} {se : Declared.Session} {ls ts : List ℕ} {s : State} (h : TokenAt w n se ls ts s) where
  facts : Facts (table_in w n)
  facts = accepted_facts w n h.enters.accepted_table

  log_place : place_in (table_in w n) ls se.log_len ≡ placed (top_by none (top_of_log s.log))
  log_place = by_log s.log refl
    where
      by_log : (L : Log) → s.log ≡ L → place_in (table_in w n) ls se.log_len ≡ placed (top_by none (top_of_log L))
      by_log ε e = no_item_place (table_in w n) facts ls se.log_len (log_there h ε e)
      by_log (x ▸ L) e =
          let items = rw e at h.enters.holds.good.log_entries in
          item_place (table_in w n) facts ls se.log_len (held x) (log_words L) (items.0, tt) (log_there h (x ▸ L) e)

  tape_place : place_in (table_in w n) ts se.tape_len ≡ placed (top_by none (top_of_tape s.tape))
  tape_place = by_tape s.tape refl
    where
      by_tape : (t : Tape) → s.tape ≡ t → place_in (table_in w n) ts se.tape_len ≡ placed (top_by none (top_of_tape t))
      by_tape [] e = no_item_place (table_in w n) facts ts se.tape_len (tape_there h [] e)
      by_tape (x ∷ t) e =
          item_place (table_in w n) facts ts se.tape_len x (tape_words t)
          (alone_in (table_in w n) x t (rw e at h.enters.holds.good.tape_items))
          (tape_there h (x ∷ t) e)

  -- of the list that is told, which fits its slice
  pub told_place : (which : Which) → place_in (table_in w n) (as_told which ls ts) (as_told which se.log_len se.tape_len) ≡ placed (top_by none (shows which s))
  told_place log = log_place
  told_place tape = tape_place

  pub told_fits : (which : Which) → ListIn (as_told which ls ts) (as_told which se.log_len se.tape_len)
  told_fits log = (h.enters.holds.log_fits, h.enters.short_log)
  told_fits tape = (h.enters.holds.tape_fits, h.enters.short_tape)

-- A choice of the whole, and of a part.
pub told_part : {A B : Type 0} (f : A → B) (which : Which) (x y : A) → f (as_told which x y) ≡ as_told which (f x) (f y)
told_part f log x y = refl
told_part f tape x y = refl

-- What lies at that place of the chosen slice is the part that the call shows.
module _ (which : Which) (g : Given) {p : Placed} (is : p ≡ placed (top_of which g)) where
  pub place_fits : (p.offset + p.size ≤ length (slice_given which g)) × (p.offset + p.size ≤ 16384)
  place_fits =
      let same : p.offset + p.size ≡ (top_of which g).offset + (top_of which g).size = ap (λ q. q.offset + q.size) is in
      let (within, short) = cut_fits which g in
      (omega arith, omega arith)

  pub place_cut : (take (p.offset + p.size - p.offset) (drop p.offset (slice_given which g)), p.refusal) ≡ seen (top_of which g)
  place_cut =
      let size : p.offset + p.size - p.offset ≡ p.size = omega arith in
      (λ i. (take (size i) (drop p.offset (slice_given which g)), p.refusal))
      ∙ (λ i. (take (is i).size (drop (is i).offset (slice_given which g)), (is i).refusal))
      ∙ (λ i. (cut which g i, (top_of which g).refusal))

-- Where there is a number for a place, it is no word.
pub place_refused : (which : Which) (g : Given) {k : ℕ} → no_place k ≡ placed (top_of which g) → ([], k) ≡ seen (top_of which g)
place_refused which g e = place_cut which g e
