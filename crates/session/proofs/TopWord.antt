-- What the word on top of the tape says: nothing there, a bullet, or an entry.
use mathlib.Core.Path.{◌≡◌, refl, sym, ap, ◌∙◌}
use mathlib.Core.List.{List, [], ◌∷◌, ◌++◌}
use Prim.Native.Nat.{ℕ, ◌-◌}
use native.Mathlib.Omega.{arith}
use lib.ListN.{length, get_or}
use Rattle.term.specs.Table.{Table, table_in, variable, kind_at}
use Rattle.term.specs.Facts.{Facts}
use Rattle.term.proofs.Facts.{accepted_facts}
use Rattle.machine.specs.Entries.{entry, Log, bullet, held, Tape, log_words, tape_words}
use Rattle.machine.specs.Machine.{State}
use Rattle.machine.specs.Good.{TapeIn}
use Rattle.machine.proofs.Nodes.{not_zero}
use Rattle.session.specs.Steps.{TokenAt}
use Rattle.session.specs.declared.Session as Declared
use Rattle.session.proofs.Slices.{Lies, top_word}
use Rattle.session.proofs.Arrivals.{tape_there}

pub word_at : (ts : List ℕ) (m v : ℕ) (ws : List ℕ) → Lies ts m (v ∷ ws) → get_or ts (m - 1) 0 ≡ v
word_at ts m v ws p =
    let many = p.many in
    let fits = p.fits in
    let below : m - 1 ≡ length ws = omega arith in
    (λ i. get_or (p.words i) (below i) 0) ∙ top_word (length ts) v ws (omega arith)

no_item : (ts : List ℕ) (m : ℕ) (t : Tape) → Lies ts m (tape_words t) → m ≡ 0 → t ≡ []
no_item ts m [] p z = refl
no_item ts m (bullet ∷ t) p z = let many = p.many in absurd (omega arith)
no_item ts m (held (entry v es) ∷ t) p z = let many = p.many in absurd (omega arith)

module _ (T : Table) (F : Facts T) (ts : List ℕ) (m v : ℕ) (some_word : m ≡ 0 → ⊥) (word : v ≡ get_or ts (m - 1) 0) where
  bullet_first : (t : Tape) → Lies ts m (tape_words t) → TapeIn T t → v ≡ 0 → (u : Tape) × (t ≡ bullet ∷ u)
  bullet_first [] p g z = absurd (some_word p.many)
  bullet_first (bullet ∷ t) p g z = (t, refl)
  bullet_first (held (entry x es) ∷ t) p g z = absurd (not_zero T F x g.0.0 (sym (word_at ts m x (log_words es ++ tape_words t) p) ∙ sym word ∙ z))

  entry_first : (t : Tape) → Lies ts m (tape_words t) → TapeIn T t → (v ≡ 0 → ⊥) → (es : Log) × (u : Tape) × (t ≡ held (entry v es) ∷ u) × (kind_at T v ≡ variable)
  entry_first [] p g z = absurd (some_word p.many)
  entry_first (bullet ∷ t) p g z = absurd (z (word ∙ word_at ts m 0 (tape_words t) p))
  entry_first (held (entry x es) ∷ t) p g z =
      let same : v ≡ x = word ∙ word_at ts m x (log_words es ++ tape_words t) p in
      (es, t, ap (λ y. held (entry y es) ∷ t) (sym same), ap (kind_at T) same ∙ g.0.0)

module _ {w : List ℕ} {n : ℕ} {se : Declared.Session} {ls ts : List ℕ} {s : State} (h : TokenAt w n se ls ts s) where
  pub nothing_on_top : se.tape_len ≡ 0 → s.tape ≡ []
  nothing_on_top z = no_item ts se.tape_len s.tape (tape_there h s.tape refl) z

  module _ (v : ℕ) (some_word : se.tape_len ≡ 0 → ⊥) (word : v ≡ get_or ts (se.tape_len - 1) 0) where
    pub bullet_on_top : v ≡ 0 → (t : Tape) × (s.tape ≡ bullet ∷ t)
    bullet_on_top z =
        bullet_first (table_in w n) (accepted_facts w n h.enters.accepted_table) ts se.tape_len v some_word word s.tape (tape_there h s.tape refl) h.enters.holds.good.tape_items z

    pub entry_on_top : (v ≡ 0 → ⊥) → (es : Log) × (t : Tape) × (s.tape ≡ held (entry v es) ∷ t) × (kind_at (table_in w n) v ≡ variable)
    entry_on_top z =
        entry_first (table_in w n) (accepted_facts w n h.enters.accepted_table) ts se.tape_len v some_word word s.tape (tape_there h s.tape refl) h.enters.holds.good.tape_items z
