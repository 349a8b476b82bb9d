-- What each function that reads by the grammar may answer, from what those that it calls answered.
use mathlib.Core.Path.{◌≡◌, refl, ap, ◌∙◌, subst}
use mathlib.Core.Bool.{true, false}
use mathlib.Core.Option.{none, some}
use mathlib.Core.List.{List, ◌∷◌, ◌++◌}
use Prim.Native.Nat.{ℕ, ◌+◌, ◌*◌, ◌-◌, ◌≤◌, ◌<◌}
use native.Mathlib.Numerals.{add-one}
use native.Mathlib.Omega.{arith}
use lib.ListN.{length, set, replicate, length-append, length-replicate}
use lib.Seq.{sets}
use Rattle.term.proofs.Stores.{run_on}
use Rattle.text.specs.Bytes.{lambda, dot, opening, closing}
use Rattle.text.specs.Tokens.{Name, Token}
use Rattle.text.specs.Grammar.{Phrase, abstraction, atoms, Atoms, no_more, ◌and◌, named, bracketed}
use Rattle.text.specs.Parsed.{parsed}
use Rattle.text.specs.Parse.{after_mark, name_first, starts_atom, phrase_from}
use Rattle.text.specs.Binding.{index_of}
use Rattle.reader.specs.Scanning.{name_at}
use Rattle.reader.specs.Token.{tokens_from, MarkTo, NameTo}
use Rattle.reader.specs.Grammar.{atoms_from, atom_from, abstraction_from, application_from, bracketed_from, variable_word, tree_code, phrase_code, atom_code, Cursor, cursor, names_around, ReadTo, CodeAnswer, Marked}
use Rattle.std.specs.Prelude.{Some, None}
use Rattle.reader.specs.Types.{Got}
use Rattle.reader.proofs.Unrolled.{phrase_from_lem, atoms_from_lem, atom_from_lem, as_phrase, application_from_lem}
use Rattle.reader.proofs.Coding.{atoms_code, atom_count, applied_code, around_kept, body, around_body, body_kept}

-- Atoms were read up to p, k of them, and their codes stand in a row in front of word m.
pub record RunTo (w : Cursor) (p m k : ℕ) (scope' out' : List ℕ) : Type 0 where
  pub run : ReadTo atoms_from atoms_code w p m k scope' out'
  pub many : k ≡ atom_count run.value

no_atoms : (bs : Atoms) (ts : List Token) → 0 ≡ atom_count bs → as_phrase (parsed bs ts) ≡ none
no_atoms no_more ts e = refl
no_atoms (b and bs) ts e = absurd (omega arith)

some_atoms : (bs : Atoms) (ts : List Token) (by : ℕ) (names : List Name) → by + 1 ≡ atom_count bs
    → (p : Phrase) × (as_phrase (parsed bs ts) ≡ some (parsed p ts)) × (phrase_code p names ≡ replicate by 2 ++ atoms_code bs names)
some_atoms no_more ts by names e = absurd (omega arith)
some_atoms (b and bs) ts by names e = let h : atom_count bs ≡ by = omega arith in (atoms b bs, refl, applied_code bs _ names ∙ rw h)

module _ (w : Cursor) where
  -- A term.
  pub term_abstraction : (p : ℕ) (r : Got) (scope' out' : List ℕ) → MarkTo lambda w.text w.at p
      → CodeAnswer abstraction_from phrase_code (cursor w.text p w.scope w.depth w.out w.node) r scope' out'
      → CodeAnswer phrase_from phrase_code w r scope' out'
  term_abstraction p (Some (q, m)) scope' out' l a = record {
    value = a.value;
    is = phrase_from_lem (tokens_from w.text w.at) ∙ rw l.is a.is;
    on = omega arith;
    within = a.within;
    room = omega arith;
    next = a.next;
    wrote = a.wrote;
    kept = a.kept;
  }
  term_abstraction p None scope' out' l a = phrase_from_lem (tokens_from w.text w.at) ∙ rw l.is a

  pub term_application : (r : Got) (scope' out' : List ℕ) → after_mark lambda (tokens_from w.text w.at) ≡ none
      → CodeAnswer application_from phrase_code w r scope' out' → CodeAnswer phrase_from phrase_code w r scope' out'
  term_application (Some (q, m)) scope' out' n a = record {
    value = a.value;
    is = phrase_from_lem (tokens_from w.text w.at) ∙ rw n a.is;
    on = a.on;
    within = a.within;
    room = a.room;
    next = a.next;
    wrote = a.wrote;
    kept = a.kept;
  }
  term_application None scope' out' n a = phrase_from_lem (tokens_from w.text w.at) ∙ rw n a

  -- An abstraction.
  pub abstraction_body : (x p q : ℕ) (r : Got) (scope' out' : List ℕ) → NameTo w.text w.at x p → MarkTo dot w.text p q
      → w.depth < length w.scope → CodeAnswer phrase_from phrase_code (body w x q) r scope' out'
      → CodeAnswer abstraction_from phrase_code w r scope' out'
  unfolding tree_code
  abstraction_body x p q (Some (e, m)) scope' out' n d h a =
      let names = around_body w x q h in
      let code : phrase_code a.value (names_around (body w x q)) ≡ phrase_code a.value (name_at w.text x ∷ names_around w) = ap (phrase_code a.value) names in
      record {
        value = abstraction (name_at w.text x) a.value;
        is = rw (n.is, d.is, a.is);
        on = omega (arith, n.on, d.on, a.on);
        within = a.within;
        room = omega (arith, n.on, d.on, a.on, a.room);
        next = omega (arith, a.next, ap length code);
        wrote = a.wrote ∙ rw (code, add-one);
        kept = body_kept w x scope' a.kept;
      }
  abstraction_body x p q None scope' out' n d h a = rw (n.is, d.is, a)

  -- An atom, and a term in brackets.
  pub atom_name : (x p word : ℕ) → NameTo w.text w.at x p → word ≡ variable_word (index_of (name_at w.text x) (names_around w))
      → ReadTo atom_from atom_code w p (w.node + 1) 1 w.scope (set w.out w.node word)
  unfolding tree_code
  atom_name x p word n e = record {
    value = named (name_at w.text x);
    is = atom_from_lem _ ∙ rw n.is;
    on = omega arith;
    within = n.within;
    room = omega arith;
    next = omega arith;
    wrote = rw e;
    kept = refl;
  }

  pub atom_brackets : (p : ℕ) (r : Got) (scope' out' : List ℕ) → name_first (tokens_from w.text w.at) ≡ none → MarkTo opening w.text w.at p
      → CodeAnswer bracketed_from atom_code (cursor w.text p w.scope w.depth w.out w.node) r scope' out'
      → CodeAnswer atom_from atom_code w r scope' out'
  atom_brackets p (Some (q, m)) scope' out' n o a = record {
    value = a.value;
    is = atom_from_lem _ ∙ rw (n, o.is) a.is;
    on = omega arith;
    within = a.within;
    room = omega arith;
    next = a.next;
    wrote = a.wrote;
    kept = a.kept;
  }
  atom_brackets p None scope' out' n o a = atom_from_lem _ ∙ rw (n, o.is) a

  pub atom_none : name_first (tokens_from w.text w.at) ≡ none → after_mark opening (tokens_from w.text w.at) ≡ none
      → atom_from (tokens_from w.text w.at) ≡ none
  atom_none n o = atom_from_lem _ ∙ rw (n, o)

  module _ (p m : ℕ) (scope' out' : List ℕ) (a : ReadTo phrase_from phrase_code w p m 1 scope' out') where
    pub brackets_closed : (q : ℕ) → MarkTo closing w.text p q → ReadTo bracketed_from atom_code w q m 1 scope' out'
    brackets_closed q c = record {
      value = bracketed a.value;
      is = rw (a.is, c.is);
      on = omega arith;
      within = c.within;
      room = omega arith;
      next = a.next;
      wrote = a.wrote;
      kept = a.kept;
    }

  -- Atoms.
  pub more_stops : w.at ≤ length w.text → starts_atom (tokens_from w.text w.at) ≡ false → RunTo w w.at w.node 0 w.scope w.out
  more_stops h e = record {
    run = record {
      value = no_more;
      is = atoms_from_lem _ ∙ rw e;
      on = omega arith;
      within = h;
      room = omega arith;
      next = omega arith;
      wrote = refl;
      kept = refl;
    };
    many = refl;
  }

  pub more_none : starts_atom (tokens_from w.text w.at) ≡ true → atom_from (tokens_from w.text w.at) ≡ none → atoms_from (tokens_from w.text w.at) ≡ none
  more_none e n = atoms_from_lem _ ∙ rw (e, n)

  module _ (p m : ℕ) (scope₁ out₁ : List ℕ) (a : ReadTo atom_from atom_code w p m 1 scope₁ out₁) where
    pub more_bad : starts_atom (tokens_from w.text w.at) ≡ true → atoms_from (tokens_from w.text p) ≡ none → atoms_from (tokens_from w.text w.at) ≡ none
    more_bad e n = atoms_from_lem _ ∙ rw (e, a.is, n)

    module _ (q n k : ℕ) (scope₂ out₂ : List ℕ) (r : RunTo (cursor w.text p scope₁ w.depth out₁ m) q n k scope₂ out₂) where
      -- the codes of the first atom and of those after it, in a row
      codes : List ℕ
      codes = atom_code a.value (names_around w) ++ atoms_code r.run.value (names_around w)

      same_names : names_around (cursor w.text p scope₁ w.depth out₁ m) ≡ names_around w
      same_names = around_kept w p m scope₁ out₁ a.kept

      codes_next : n ≡ w.node + length codes
      unfolding codes
      codes_next =
          omega (arith, r.run.next, a.next, ap (λ (l : List Name). length (atoms_code r.run.value l)) same_names, length-append (atom_code a.value (names_around w)) (atoms_code r.run.value (names_around w)))

      codes_wrote : out₂ ≡ sets w.out w.node codes
      unfolding codes
      codes_wrote =
          run_on w.out out₁ out₂ w.node m (atom_code a.value (names_around w)) (atoms_code r.run.value (names_around w)) a.wrote a.next
          (r.run.wrote ∙ ap (λ (l : List Name). sets out₁ m (atoms_code r.run.value l)) same_names)

      pub more_done : starts_atom (tokens_from w.text w.at) ≡ true → RunTo w q n (k + 1) scope₂ out₂
      unfolding codes
      more_done e = record {
        run = record {
          value = a.value and r.run.value;
          is = atoms_from_lem _ ∙ rw (e, a.is, r.run.is);
          on = omega (arith, a.on, r.run.on);
          within = r.run.within;
          room = omega (arith, a.on, a.room, r.run.on, r.run.room);
          next = codes_next;
          wrote = codes_wrote;
          kept = r.run.kept ∙ a.kept;
        };
        many = omega (arith, r.many);
      }

  -- An application: the atoms that are there.
  pub application_bad : atoms_from (tokens_from w.text w.at) ≡ none → application_from (tokens_from w.text w.at) ≡ none
  application_bad n = application_from_lem _ ∙ rw n

  module _ (q n : ℕ) (scope₂ out₂ : List ℕ) where
    pub application_none : RunTo w q n 0 scope₂ out₂ → application_from (tokens_from w.text w.at) ≡ none
    application_none r = application_from_lem _ ∙ rw r.run.is (no_atoms r.run.value _ r.many)

    pub application_done : (by : ℕ) → RunTo w q n (by + 1) scope₂ out₂ → (out₃ : List ℕ) → Marked w.node n by out₂ out₃
        → ReadTo application_from phrase_code w q (n + by) 1 scope₂ out₃
    application_done by r out₃ marked =
        let words = atoms_code r.run.value (names_around w) in
        let f = some_atoms r.run.value (tokens_from w.text q) by (names_around w) r.many in
        record {
          value = f.0;
          is = application_from_lem _ ∙ rw r.run.is f.1;
          on = r.run.on;
          within = r.run.within;
          room = omega (arith, r.run.room);
          next = omega (arith, r.run.next, ap length f.2, length-append (replicate {A = ℕ} by 2) words, length-replicate {A = ℕ} by 2);
          wrote = marked w.out words r.run.wrote r.run.next ∙ rw f.2;
          kept = r.run.kept;
        }

-- The atoms from a cursor on, of which k were read up to p: what those from p on come to, all come to.
pub record Underway (w : Cursor) (p m k : ℕ) (scope₁ out₁ : List ℕ) : Type 0 where
  pub on : w.at ≤ p
  pub within : p ≤ length w.text
  pub room : m + k ≤ w.node + 2 * (p - w.at)
  pub grown : w.node ≤ m
  pub scope_length : length scope₁ ≡ length w.scope
  pub out_length : length out₁ ≡ length w.out
  pub all : (q n j : ℕ) (scope₂ out₂ : List ℕ) → RunTo (cursor w.text p scope₁ w.depth out₁ m) q n j scope₂ out₂ → RunTo w q n (k + j) scope₂ out₂
  pub none_all : atoms_from (tokens_from w.text p) ≡ none → atoms_from (tokens_from w.text w.at) ≡ none

pub underway_first : (w : Cursor) → w.at ≤ length w.text → Underway w w.at w.node 0 w.scope w.out
underway_first w h = record {
  on = omega arith;
  within = h;
  room = omega arith;
  grown = omega arith;
  scope_length = refl;
  out_length = refl;
  all = λ q n j scope₂ out₂ r. let s : j ≡ 0 + j = omega arith in subst (λ (i : ℕ). RunTo w q n i scope₂ out₂) s r;
  none_all = λ e. e;
}

module _ (w : Cursor) (p m k : ℕ) (scope₁ out₁ : List ℕ) (u : Underway w p m k scope₁ out₁) where
  abbrev there : Cursor
  there = cursor w.text p scope₁ w.depth out₁ m

  pub underway_more : (p' m' : ℕ) (scope₂ out₂ : List ℕ) → length scope₂ ≡ length scope₁ → length out₂ ≡ length out₁
      → starts_atom (tokens_from w.text p) ≡ true → ReadTo atom_from atom_code there p' m' 1 scope₂ out₂ → Underway w p' m' (k + 1) scope₂ out₂
  underway_more p' m' scope₂ out₂ ls lo e a = record {
    on = omega (arith, u.on, a.on);
    within = a.within;
    room = omega (arith, u.on, a.on, u.room, a.room);
    grown = omega (arith, u.grown, a.next);
    scope_length = ls ∙ u.scope_length;
    out_length = lo ∙ u.out_length;
    all = λ q n j scope₃ out₃ r.
        let s : k + (j + 1) ≡ k + 1 + j = omega arith in
        rw s at (u.all q n (j + 1) scope₃ out₃ (more_done there p' m' scope₂ out₂ a q n j scope₃ out₃ r e));
    none_all = λ n. u.none_all (more_bad there p' m' scope₂ out₂ a e n);
  }

  pub underway_none : starts_atom (tokens_from w.text p) ≡ true → atom_from (tokens_from w.text p) ≡ none
      → application_from (tokens_from w.text w.at) ≡ none
  underway_none e n = application_bad w (u.none_all (more_none there e n))

  pub underway_last : starts_atom (tokens_from w.text p) ≡ false → RunTo w p m k scope₁ out₁
  underway_last e =
      let s : k + 0 ≡ k = omega arith in
      rw s at (u.all p m 0 scope₁ out₁ (more_stops there u.within e))
