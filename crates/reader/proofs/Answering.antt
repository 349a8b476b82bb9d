-- The answer to what a text means, by its code: what `answer_for` is shown by.
use mathlib.Core.Path.{◌≡◌, refl, sym, ap, ap₂, ◌∙◌, subst}
use mathlib.Core.Bool.{Bool, true, false, ◌||◌, cond, false≢true}
use mathlib.Core.Option.{Option, none, some}
use mathlib.Core.List.{List, [], ◌∷◌, ◌++◌, append-nil}
use Prim.Native.Nat.{ℕ, ◌+◌, ◌*◌, ◌≤◌, ◌<◌}
use native.Mathlib.Omega.{arith}
use lib.ListN.{length, take, drop}
use lib.Seq.{take_at, take-length}
use lib.Dec.{eqb, ltb}
use borrow.Author.Tests.{ne_eqb, lt-ltb, le-ltb}
use Rattle.term.specs.Choice.{◌⇒◌, first, is_none}
use Rattle.term.specs.Term.{Term, var, lam, app, size, Closed}
use Rattle.term.specs.Table.{table_of}
use Rattle.term.specs.Code.{code_of}
use Rattle.text.specs.Reading.{Read, too_short, refused, laid_out, answer}
use Rattle.reader.specs.Layout.{Whole}
use Rattle.reader.specs.Answering.{any_zero, Codes, InCode, answer_for}
use Rattle.term.proofs.Coded.{code_length}
use Rattle.std.proofs.lemmas.List.Folds.{list_any-append}

-- The last two numbers of a reading, whatever comes before them.
pub last_two : (k : ℕ) (o : Option Term) (table : List ℕ) → answer (first ((is_none o ⇒ k) ∷ (too_short o table ⇒ 6) ∷ [])) o table ≡ answer_for k o table
last_two k none table = refl
last_two k (some t) table = by_test (ltb (length table) (5 * size t))
  where
    by_test : (s : Bool) → answer (first ((s ⇒ 6) ∷ [])) (some t) table ≡ cond s (refused 6 table) (laid_out t table)
    by_test true = refl
    by_test false = refl

-- The code of a term has no word 0.
pub code_bound : (t : Term) → any_zero (code_of t) ≡ false
unfolding code_of
code_bound (var x) = rw (ne_eqb (3 + x) 0 (λ e. omega arith))
code_bound (lam b) = code_bound b
code_bound (app f a) = list_any-append (λ w. eqb w 0) (code_of f) (code_of a) ∙ ap₂ (λ s t. s || t) (code_bound f) (code_bound a)

zero_none : (ws : List ℕ) (o : Option Term) → Codes ws o → any_zero ws ≡ is_none o
zero_none ws none e = e
zero_none ws (some t) e = ap any_zero e.0 ∙ code_bound t

-- The first n words alone are as good.
pub code_taken : {code : List ℕ} {n : ℕ} {o : Option Term} → InCode code n o → InCode (take n code) (length (take n code)) o
code_taken {code} {n} {o} c =
    let taken : take n code ≡ c.words = ap (take n) c.stands ∙ take_at c.words c.rest n (sym c.count) in
    record {
      words = c.words;
      rest = [];
      stands = taken ∙ sym (append-nil c.words);
      count = ap length taken;
      few = omega (arith, ap length taken, c.count, c.few);
      codes = c.codes;
    }

module _ (code : List ℕ) (k : ℕ) (o : Option Term) (c : InCode code (length code) o) (table : List ℕ) where
  all_words : code ≡ c.words
  all_words = sym (take-length code) ∙ ap (take (length code)) c.stands ∙ take_at c.words c.rest (length code) (sym c.count)

  zero_is : any_zero code ≡ is_none o
  zero_is = ap any_zero all_words ∙ zero_none c.words o c.codes

  by_none : (q : Option Term) → is_none q ≡ true → answer_for k q table ≡ refused k table
  by_none none e = refl
  by_none (some u) e = absurd (false≢true e)

  pub unbound_answer : any_zero code ≡ true → answer_for k o table ≡ refused k table
  unbound_answer e = by_none o (sym zero_is ∙ e)

  by_some : (q : Option Term) → is_none q ≡ false → (u : Term) × (q ≡ some u)
  by_some none e = absurd (false≢true (sym e))
  by_some (some u) e = (u, refl)

  module _ (e : any_zero code ≡ false) where
    closed_term : (u : Term) × (o ≡ some u)
    closed_term = by_some o (sym zero_is ∙ e)

    coded : (c.words ≡ code_of closed_term.0) × Closed closed_term.0
    coded = subst (Codes c.words) closed_term.1 c.codes

    size_is : size closed_term.0 ≡ length code
    size_is = omega (arith, code_length closed_term.0, ap length coded.0, c.count)

    pub short_answer : length table < 5 * length code → answer_for k o table ≡ refused 6 table
    short_answer h = let s = size_is in rw (closed_term.1, lt-ltb (length table) (5 * size closed_term.0) (omega arith))

    pub whole : 5 * length code ≤ length table → (u : Term) × Whole code (length code) (length table) u
    whole h = let s = size_is in (
      closed_term.0,
      record {
        rest = c.rest;
        stands = c.stands ∙ ap (λ ws. ws ++ c.rest) coded.0;
        closed = coded.1;
        all = s;
        few_nodes = c.few;
        room = h;
      },
    )

    pub table_answer : (h : 5 * length code ≤ length table) (table' : List ℕ) → table' ≡ table_of (whole h).0 ++ drop (5 * size (whole h).0) table
        → ◌≡◌ {A = Read} (record { n = length code; refusal = 0; table = table' }) (answer_for k o table)
    unfolding whole closed_term
    table_answer h table' w =
        let s = size_is in
        rw (closed_term.1, le-ltb (length table) (5 * size closed_term.0) (omega arith)) λ i. record { n = sym s i; refusal = 0; table = w i }
