-- What ties the records to the machine's closures, and that each step keeps it.
use mathlib.Core.Path.{◌≡◌, refl, sym, ap, ◌∙◌, subst, subst⁻¹}
use mathlib.Core.Bool.{Bool, true, false, ◌||◌, false≢true, true≢false}
use mathlib.Core.Option.{Option, none, some, some-injective, none-ne-some}
use mathlib.Core.List.{List, [], ◌∷◌, ◌++◌, append-nil}
use Prim.Native.Nat.{ℕ, zero, suc, ◌+◌, ◌-◌, ◌*◌, ◌≤◌, ◌<◌}
use native.Mathlib.Omega.{arith}
use lib.ListN.{length, drop, set, length-set, length-append}
use lib.Seq.{length-sets, drop-drop, drop-set-lt}
use lib.Dec.{eqb}
use borrow.Author.Tests.{eq-eqb, ne_eqb, eqb-true}
use Rattle.term.specs.Choice.{◌>>=◌}
use Rattle.term.specs.Table.{Table, Kind, variable, abstraction, application, nothing, kind_at}
use Rattle.kam.specs.Krivine.{Closure, closure, Closures, ∅, ◌▹◌, State, state, start_state, index_at, below_top, entered, step_by, step, new_by}
use Rattle.kam.specs.Records.{word_index, node_in, environment_in, next_in, record_below, Records, no_records, pushed, moved, fetched, laid_by, laid, node_by}
use Rattle.kam.specs.Runs.{Fit}
use Rattle.kam.specs.Lies.{IsTaken}
use Rattle.kam.proofs.Chains.{put, put_kept, put_node, put_environment, put_next, anew, anew_kept, anew_same, anew_next, MovedHolds, MovedChain, StackChain, MovedEach, Keeps, holds_over, chain_over, stack_over, each_over, each_and}

-- Words past the taken records are those of the slice as it was lent.
pub record Past (lent words : List ℕ) (taken : ℕ) : Type 0 where
  pub as_long : length words ≡ length lent
  pub kept : drop (3 * taken) words ≡ drop (3 * taken) lent

-- The state s, and how its closures lie in the records, of which the first hold the closures cs; M says which of them have moved from the stack to the environment.
pub record Tied (lent : List ℕ) (cs : List Closure) (s : State) (R : Records) : Type 0 where
  pub M : ℕ → Bool
  pub moved_taken : (r : ℕ) → M r ≡ true → IsTaken R.taken r
  pub environment : MovedChain R.words M R.environment s.environment
  pub stack : StackChain R.words M s.stack (suc R.taken) R.stack
  pub each : MovedEach R.words M 1 cs
  pub taken_is : R.taken ≡ length cs
  pub fit : Fit R.taken R.words
  pub past : Past lent R.words R.taken

pub tied_start : (lent : List ℕ) → Tied lent [] start_state (no_records lent)
tied_start lent = record {
  M = λ r. false;
  moved_taken = λ r e. absurd (false≢true e);
  environment = refl;
  stack = refl;
  each = tt;
  taken_is = refl;
  fit = omega arith;
  past = record { as_long = refl; kept = refl };
}

module _ (lent : List ℕ) (cs : List Closure) where
  -- An application puts a record.
  module _ (E S : Closures) (a i j : ℕ) (R : Records) (T : Tied lent cs (state i E S) R) (room : 3 * suc R.taken ≤ length R.words) where
    abbrev t : ℕ
    t = R.taken

    abbrev w' : List ℕ
    w' = put R.words t a R.environment R.stack

    put_keeps : (r : ℕ) → r ≤ t → Keeps R.words w' r
    put_keeps r l = record {
      node = put_kept R.words t a R.environment R.stack r 0 l (omega arith);
      environment = put_kept R.words t a R.environment R.stack r 1 l (omega arith);
      next = put_kept R.words t a R.environment R.stack r 2 l (omega arith);
    }

    put_moved : (r : ℕ) → T.M r ≡ true → Keeps R.words w' r
    put_moved r e = put_keeps r (T.moved_taken r e).to_last

    new_unmoved : (b : Bool) → T.M (suc t) ≡ b → b ≡ false
    new_unmoved true e = absurd (omega (arith, (T.moved_taken (suc t) e).to_last))
    new_unmoved false e = refl

    new_holds : MovedHolds w' T.M (suc t) (closure a E)
    new_holds = (
      put_node R.words t a R.environment R.stack room,
      subst⁻¹ (λ x. MovedChain w' T.M x E) (put_environment R.words t a R.environment R.stack room)
          (chain_over R.words w' T.M T.M put_moved (λ r e. e) E R.environment T.environment),
    )

    past_put : Past lent w' (suc t)
    past_put =
        let l = length-sets R.words (word_index t 0) (a ∷ R.environment ∷ R.stack ∷ []) in
        let first = set R.words (word_index t 0) a in
        let second = set first (suc (word_index t 0)) R.environment in
        let m : 3 * t + 3 ≡ 3 * suc t = omega arith in
        record {
          as_long = l ∙ T.past.as_long;
          kept =
              drop-set-lt (3 * suc t) second (suc (suc (word_index t 0))) R.stack (omega arith)
              ∙ drop-set-lt (3 * suc t) first (suc (word_index t 0)) R.environment (omega arith)
              ∙ drop-set-lt (3 * suc t) R.words (word_index t 0) a (omega arith)
              ∙ further R.words lent m T.past.kept;
        }
      where
        further : (x y : List ℕ) → 3 * t + 3 ≡ 3 * suc t → drop (3 * t) x ≡ drop (3 * t) y → drop (3 * suc t) x ≡ drop (3 * suc t) y
        further x y m e = subst (λ k. drop k x ≡ drop k y) m (sym (drop-drop 3 (3 * t) x) ∙ ap (drop 3) e ∙ drop-drop 3 (3 * t) y)

    pub tied_application : Tied lent (cs ++ (closure a E ∷ [])) (state j E (closure a E ▹ S)) (pushed a R)
    tied_application = record {
      M = T.M;
      moved_taken = λ r e. let h = T.moved_taken r e in record { from_one = h.from_one; to_last = omega (arith, h.to_last) };
      environment = chain_over R.words w' T.M T.M put_moved (λ r e. e) E R.environment T.environment;
      stack = (
        omega arith,
        omega arith,
        new_unmoved (T.M (suc t)) refl,
        new_holds,
        subst⁻¹ (λ x. StackChain w' T.M S (suc t) x) (put_next R.words t a R.environment R.stack room)
            (stack_over R.words w' T.M T.M put_moved (λ r e. e) S (suc t) R.stack (λ s l e. (put_keeps s (omega arith), e)) T.stack),
      );
      each = each_and w' T.M cs (closure a E) 1 (suc t) (omega (arith, T.taken_is))
          (each_over R.words w' T.M T.M put_moved (λ r e. e) cs 1 t (omega (arith, T.taken_is)) (λ s l. ((put_keeps s l).node, (put_keeps s l).environment)) T.each) new_holds;
      taken_is = omega (arith, T.taken_is, length-append cs (closure a E ∷ []));
      fit = omega (arith, length-sets R.words (word_index t 0) (a ∷ R.environment ∷ R.stack ∷ []));
      past = past_put;
    }

  -- An abstraction moves the record on top of the stack.
  module _ (E : Closures) (c : Closure) (S : Closures) (i j : ℕ) (R : Records) (T : Tied lent cs (state i E (c ▹ S)) R) where
    abbrev s : ℕ
    s = R.stack

    abbrev v : List ℕ
    v = anew R.words s R.environment

    -- now it has moved too
    abbrev M' : ℕ → Bool
    M' r = eqb r s || T.M r

    still : (b d : Bool) → d ≡ true → b || d ≡ true
    still true d e = refl
    still false d e = e

    others : (b d : Bool) → b ≡ false → d ≡ false → b || d ≡ false
    others true d e h = e
    others false d e h = h

    top_moved : M' s ≡ true
    top_moved = ap (λ b. b || T.M s) (eq-eqb s s refl)

    top_taken : IsTaken R.taken s
    top_taken = record { from_one = T.stack.0; to_last = omega (arith, T.stack.1) }

    anew_keeps : (r : ℕ) → (r ≡ s → ⊥) → Keeps R.words v r
    anew_keeps r h = record {
      node = anew_kept R.words s R.environment r 0 h T.stack.0 (omega arith);
      environment = anew_kept R.words s R.environment r 1 h T.stack.0 (omega arith);
      next = anew_kept R.words s R.environment r 2 h T.stack.0 (omega arith);
    }

    not_top : (r : ℕ) → T.M r ≡ true → r ≡ s → ⊥
    not_top r e q = false≢true (sym T.stack.2 ∙ ap T.M (sym q) ∙ e)

    anew_moved : (r : ℕ) → T.M r ≡ true → Keeps R.words v r
    anew_moved r e = anew_keeps r (not_top r e)

    stays_moved : (r : ℕ) → T.M r ≡ true → M' r ≡ true
    stays_moved r e = still (eqb r s) (T.M r) e

    below_top_lem : (r : ℕ) → r < s → T.M r ≡ false → Keeps R.words v r × (M' r ≡ false)
    below_top_lem r l e =
        let h : r ≡ s → ⊥ = λ z. omega arith in
        (anew_keeps r h, others (eqb r s) (T.M r) (ne_eqb r s h) e)

    -- whichever the record, its first two words stay
    first_two : (r : ℕ) → r ≤ R.taken → (node_in v r ≡ node_in R.words r) × (environment_in v r ≡ environment_in R.words r)
    first_two r l = by_test (eqb r s) refl
      where
        by_test : (b : Bool) → eqb r s ≡ b → (node_in v r ≡ node_in R.words r) × (environment_in v r ≡ environment_in R.words r)
        by_test true e = subst⁻¹ (λ x. (node_in v x ≡ node_in R.words x) × (environment_in v x ≡ environment_in R.words x)) (eqb-true r s e)
            (anew_same R.words s R.environment 0 (omega arith), anew_same R.words s R.environment 1 (omega arith))
        by_test false e = let k = anew_keeps r (λ z. true≢false (sym (eq-eqb r s z) ∙ e)) in (k.node, k.environment)

    taken_all : (r : ℕ) (b : Bool) → eqb r s ≡ b → b || T.M r ≡ true → IsTaken R.taken r
    taken_all r true e h = subst⁻¹ (IsTaken R.taken) (eqb-true r s e) top_taken
    taken_all r false e h = T.moved_taken r h

    pub tied_abstraction : Tied lent cs (state j (c ▹ E) S) (moved R)
    tied_abstraction = record {
      M = M';
      moved_taken = λ r e. taken_all r (eqb r s) refl e;
      environment = (
        top_moved,
        holds_over R.words v T.M M' anew_moved stays_moved c s (first_two s top_taken.to_last).0 (first_two s top_taken.to_last).1 T.stack.3,
        subst⁻¹ (λ x. MovedChain v M' x E) (anew_next R.words s R.environment T.stack.0 (omega (arith, T.fit, T.stack.1)))
            (chain_over R.words v T.M M' anew_moved stays_moved E R.environment T.environment),
      );
      stack = lower S (next_in R.words s) (stack_over R.words v T.M M' anew_moved stays_moved S s (next_in R.words s) below_top_lem T.stack.4);
      each = each_over R.words v T.M M' anew_moved stays_moved cs 1 R.taken (omega (arith, T.taken_is)) first_two T.each;
      taken_is = T.taken_is;
      fit = omega (arith, T.fit, length-set R.words (word_index (s - 1) 2) R.environment);
      past = record {
        as_long = length-set R.words (word_index (s - 1) 2) R.environment ∙ T.past.as_long;
        kept = drop-set-lt (3 * R.taken) R.words (word_index (s - 1) 2) R.environment (omega (arith, T.stack.0, T.stack.1)) ∙ T.past.kept;
      };
    }
      where
        lower : (C : Closures) (r : ℕ) → StackChain v M' C s r → StackChain v M' C (suc R.taken) r
        lower ∅ r h = h
        lower (d ▹ C) r h = (h.0, omega (arith, h.1, T.stack.1), h.2, h.3, h.4)

  -- A variable fetches the environment of a record in the environment's chain.
  module _ (w : List ℕ) (M : ℕ → Bool) where
    below_holds : (x : ℕ) (E : Closures) (r : ℕ) (c : Closure) → below_top x E ≡ some c → MovedChain w M r E → MovedHolds w M (record_below x w r) c
    below_holds zero ∅ r c e h = absurd (none-ne-some c e)
    below_holds (suc x) ∅ r c e h = absurd (none-ne-some c e)
    below_holds zero (d ▹ E) r c e h = subst (MovedHolds w M r) (some-injective d c e) h.1
    below_holds (suc x) (d ▹ E) r c e h = below_holds x E (next_in w r) c e h.2

  module _ (E S : Closures) (i x : ℕ) (R : Records) (T : Tied lent cs (state i E S) R) where
    -- the record that holds the closure below the top x
    abbrev r : ℕ
    r = record_below x R.words R.environment

    pub tied_variable : (c : Closure) → below_top x E ≡ some c → Tied lent cs (entered c S) (fetched x R) × (node_in R.words r ≡ (entered c S).node)
    tied_variable (closure k D) e =
        let h = below_holds R.words T.M x E R.environment (closure k D) e T.environment in (
          record {
            M = T.M;
            moved_taken = T.moved_taken;
            environment = h.1;
            stack = T.stack;
            each = T.each;
            taken_is = T.taken_is;
            fit = T.fit;
            past = T.past;
          },
          h.0,
        )

-- Whatever the kind of the node: where a step leads, and what it does to the records.
pub record Stepped (lent : List ℕ) (cs : List Closure) (T : Table) (k : Kind) (i : ℕ) (R : Records) (u : State) : Type 0 where
  pub tied : Tied lent cs u (laid_by k T i R)
  pub node_is : node_by k T i R ≡ u.node

abbrev IfStepped : List ℕ → List Closure → Table → Kind → ℕ → Records → Option State → Type 0
IfStepped lent cs T k i R none = Unit
IfStepped lent cs T k i R (some u) = Stepped lent cs T k i R u

module _ (lent : List ℕ) (cs : List Closure) (T : Table) (i : ℕ) (E S : Closures) (R : Records) (h : Tied lent cs (state i E S) R) where
  no_more : (u : State) (R' : Records) → Tied lent cs u R' → Tied lent (cs ++ []) u R'
  no_more u R' g = subst⁻¹ (λ xs. Tied lent xs u R') (append-nil cs) g

  next_variable : (o : Option Closure) → below_top (index_at T i) E ≡ o → IfStepped lent (cs ++ []) T variable i R (o >>= λ c. some (entered c S))
  unfolding laid_by
  next_variable none e = tt
  next_variable (some c) e =
      let g = tied_variable lent cs E S i (index_at T i) R h c e in
      record { tied = no_more (entered c S) (laid_by variable T i R) g.0; node_is = g.1 }

next_by : (k : Kind) (lent : List ℕ) (cs : List Closure) (T : Table) (i : ℕ) (E S : Closures) (R : Records) → Tied lent cs (state i E S) R
    → 3 * (laid_by k T i R).taken ≤ length R.words → IfStepped lent (cs ++ new_by k T (state i E S)) T k i R (step_by k T i E S)
unfolding laid_by step_by
next_by application lent cs T i E S R h l = record { tied = tied_application lent cs E S (T.right i) i (T.left i) R h l; node_is = refl }
next_by abstraction lent cs T i E ∅ R h l = tt
next_by abstraction lent cs T i E (c ▹ S) R h l =
    record { tied = no_more lent cs T i E (c ▹ S) R h (state (T.left i) (c ▹ E) S) (moved R) (tied_abstraction lent cs E c S i (T.left i) R h); node_is = refl }
next_by variable lent cs T i E S R h l = next_variable lent cs T i E S R h (below_top (index_at T i) E) refl
next_by nothing lent cs T i E S R h l = tt

pub tied_next : (lent : List ℕ) (cs : List Closure) (T : Table) (s : State) (R : Records) → Tied lent cs s R → 3 * (laid T s.node R).taken ≤ length R.words
    → (u : State) → step T s ≡ some u → Stepped lent (cs ++ new_by (kind_at T s.node) T s) T (kind_at T s.node) s.node R u
tied_next lent cs T s R h l u e =
    subst (IfStepped lent (cs ++ new_by (kind_at T s.node) T s) T (kind_at T s.node) s.node R) e
    (next_by (kind_at T s.node) lent cs T s.node s.environment s.stack R h l)
