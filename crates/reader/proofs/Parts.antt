-- The parts of a term whose code stands in a slice, by the word that it begins with.
use mathlib.Core.Path.{◌≡◌, refl, sym, ap, ◌∙◌, subst₂}
use mathlib.Core.List.{List, ◌∷◌, ◌++◌, append_assoc}
use Prim.Native.Nat.{ℕ, ◌+◌, ◌*◌, ◌≤◌, ◌<◌}
use native.Mathlib.Numerals.{add-one}
use native.Mathlib.Omega.{arith}
use lib.ListN.{length, get_or, drop, length-drop, length-append}
use lib.Seq.{drop-drop, drop_at, get_or-drop}
use Rattle.term.specs.Term.{Term, var, lam, app, size}
use Rattle.term.specs.Code.{code_of}
use Rattle.term.proofs.Rows.{size_positive}
use Rattle.term.proofs.Coded.{code_length}
use Rattle.reader.specs.Layout.{Layable}

-- The words that stand after some others: the first of them, and the others.
module _ (code : List ℕ) (before w : ℕ) (ws : List ℕ) (e : drop before code ≡ w ∷ ws) where
  first_word : get_or code before 0 ≡ w
  first_word = let z : before + 0 ≡ before = omega arith in rw (← z) (sym (get_or-drop before code 0 0) ∙ ap (λ l. get_or l 0 0) e)

  other_words : drop (before + 1) code ≡ ws
  other_words = sym (drop-drop 1 before code) ∙ ap (drop 1) e

-- those after a part's
later_words : (code : List ℕ) (before next : ℕ) (ws rest : List ℕ) → drop before code ≡ ws ++ rest → next ≡ before + length ws → drop next code ≡ rest
later_words code before next ws rest e h = rw h (sym (drop-drop (length ws) before code) ∙ rw e (drop_at ws rest (length ws) refl))

-- a part is as ready in slices of the same lengths
pub layable_as : {code : List ℕ} {n before d s s' l l' : ℕ} {t : Term} → s ≡ s' → l ≡ l' → Layable code n before d s l t → Layable code n before d s' l' t
layable_as {code} {n} {before} {d} {t = t} e h r = subst₂ (λ m k. Layable code n before d m k t) e h r

-- A node of its own has its word, its place in the columns and its place in the scope.
pub record NodeRoom (code : List ℕ) (n before d s l : ℕ) : Type 0 where
  pub in_code : before < length code
  pub few_nodes : n ≤ 3000
  pub among_them : before < n
  pub scope_room : d < s
  pub table_room : 5 * n ≤ l

module _ (code : List ℕ) (n before d s l : ℕ) where
  abbrev Here : Term → Type 0
  Here t = Layable code n before d s l t

  pub node_room : (t : Term) → Here t → NodeRoom code n before d s l
  node_room t r =
      let k = size_positive t in
      record {
        in_code = omega (arith, ap length r.stands, length-drop before code, length-append (code_of t) r.rest, code_length t);
        few_nodes = r.few_nodes;
        among_them = omega (arith, r.among_them);
        scope_room = omega (arith, r.scope_room);
        table_room = r.table_room;
      }

  -- the word 1 begins an abstraction,
  pub body_layable : (t : Term) → Here t → get_or code before 0 ≡ 1 → (b : Term) × (t ≡ lam b) × Layable code n (before + 1) (d + 1) s l b
  unfolding code_of
  body_layable (var x) r e = absurd (omega (arith, first_word code before (3 + x) r.rest r.stands))
  body_layable (lam b) r e = (
    b,
    refl,
    record {
      rest = r.rest;
      stands = other_words code before 1 (code_of b ++ r.rest) r.stands;
      closed = rw add-one r.closed;
      few_nodes = r.few_nodes;
      among_them = omega (arith, r.among_them);
      scope_room = omega (arith, r.scope_room);
      table_room = r.table_room;
    },
  )
  body_layable (app f a) r e = absurd (omega (arith, first_word code before 2 (code_of f ++ code_of a ++ r.rest) r.stands))

  -- the word 2 an application, whose argument stands after its function,
  pub record Parts (t : Term) : Type 0 where
    pub function : Term
    pub argument : Term
    pub is_app : t ≡ app function argument
    pub function_layable : Layable code n (before + 1) d s l function
    pub argument_layable : (next : ℕ) → next ≡ before + 1 + size function → Layable code n next d s l argument

  pub parts_layable : (t : Term) → Here t → get_or code before 0 ≡ 2 → Parts t
  unfolding code_of
  parts_layable (var x) r e = absurd (omega (arith, first_word code before (3 + x) r.rest r.stands))
  parts_layable (lam b) r e = absurd (omega (arith, first_word code before 1 (code_of b ++ r.rest) r.stands))
  parts_layable (app f a) r e = record {
    function = f;
    argument = a;
    is_app = refl;
    function_layable = record {
      rest = code_of a ++ r.rest;
      stands = after;
      closed = r.closed.0;
      few_nodes = r.few_nodes;
      among_them = omega (arith, r.among_them);
      scope_room = omega (arith, r.scope_room);
      table_room = r.table_room;
    };
    argument_layable = λ next h. record {
      rest = r.rest;
      stands = later_words code (before + 1) next (code_of f) (code_of a ++ r.rest) after (omega (arith, code_length f));
      closed = r.closed.1;
      few_nodes = r.few_nodes;
      among_them = omega (arith, r.among_them);
      scope_room = omega (arith, r.scope_room);
      table_room = r.table_room;
    };
  }
    where
      after : drop (before + 1) code ≡ code_of f ++ (code_of a ++ r.rest)
      after = other_words code before 2 (code_of f ++ code_of a ++ r.rest) r.stands ∙ append_assoc (code_of f) (code_of a) r.rest

  -- and every other word a variable.
  pub index_layable : (t : Term) → Here t → (get_or code before 0 ≡ 1 → ⊥) → (get_or code before 0 ≡ 2 → ⊥)
      → (x : ℕ) × (t ≡ var x) × (get_or code before 0 ≡ 3 + x) × (x < d)
  unfolding code_of
  index_layable (var x) r h m = (x, refl, first_word code before (3 + x) r.rest r.stands, r.closed)
  index_layable (lam b) r h m = absurd (h (first_word code before 1 (code_of b ++ r.rest) r.stands))
  index_layable (app f a) r h m = absurd (m (first_word code before 2 (code_of f ++ code_of a ++ r.rest) r.stands))
