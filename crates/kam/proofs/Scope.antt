-- Krivine's machine on an accepted table: the environment has a closure for each binder around the node, so that it is never stuck; and what the index of a variable is.
use mathlib.Core.Path.{◌≡◌, refl, sym, ap, ◌∙◌, subst, subst⁻¹}
use mathlib.Core.Bool.{true, false, true≢false}
use mathlib.Core.Option.{Option, none, some}
use mathlib.Core.List.{List, [], ◌∷◌, ◌++◌}
use Prim.Native.Nat.{ℕ, zero, suc, ◌+◌, ◌-◌, ◌≤◌, ◌<◌}
use native.Mathlib.Nat.{not-suc-le-zero, le_of_suc-le-suc}
use native.Mathlib.Omega.{arith}
use native.Mathlib.Decide.{dec_le}
use lib.ListN.{length, get_or, get_or-append}
use lib.Seq.{get_or-append-add}
use borrow.Author.Tests.{eq-eqb, ne_eqb}
use Rattle.term.specs.Choice.{◌>>=◌}
use Rattle.term.specs.Term.{Term, var, lam, app, size, ClosedUnder}
use Rattle.term.specs.Code.{code_of}
use Rattle.term.specs.Table.{Table, table_in, Kind, variable, kind_of, kind_at, is_variable}
use Rattle.term.specs.Rows.{RowsIn}
use Rattle.term.specs.Accepted.{Accepted}
use Rattle.term.proofs.Coded.{code_length}
use Rattle.term.proofs.Table.{nodes_are}
use Rattle.term.proofs.Accepted.{term_size, accepted_rows}
use Rattle.term.proofs.Facts.{accepted_facts}
use Rattle.kam.specs.Krivine.{Closure, closure, Closures, ∅, ◌▹◌, State, state, start_state, abstractions_in, abstractions_up, index_at, below_top, entered, step_by, step, after}
use Rattle.kam.specs.Runs.{is_answer_by, is_answer}
use Rattle.kam.specs.Lies.{Goes, at_answer, has_step, NeverStuck, IndexExactly}

-- how many closures
abbrev how_many : Closures → ℕ
how_many ∅ = 0
how_many (c ▹ C) = suc (how_many C)

-- a variable is of no other kind
other_kind : {j k : Kind} → j ≡ variable → j ≡ k → is_variable k ≡ false → ⊥
other_kind a c z = true≢false (ap is_variable (sym a ∙ c) ∙ z)

module _ (T : Table) where
  -- The binder b stands before node i, and on the way up from node p, the parent of i, it is met after y abstractions.
  pub record Up (b i p y : ℕ) : Type 0 where
    before : b < i
    met : (d : ℕ) → i ≤ d → abstractions_up d T b p ≡ y

  -- from a body its own abstraction is met at once
  met_here : (i d : ℕ) → suc i ≤ d → abstractions_up d T i i ≡ 0
  unfolding abstractions_up
  met_here i zero h = absurd (omega arith)
  met_here i (suc d) h = rw (eq-eqb i i refl)

  -- from a part of node i each further one, past that node
  met_past : (b i p y : ℕ) → Up b i p y → T.parent i ≡ p → (d : ℕ) → suc i ≤ d → abstractions_up d T b i ≡ abstractions_in (kind_at T i) + y
  unfolding abstractions_up
  met_past b i p y u e zero h = absurd (omega arith)
  met_past b i p y u e (suc d) h = rw (ne_eqb i b (λ z. omega (arith, u.before)), e, u.met d (omega arith))

  up_past : (b i j p y z : ℕ) → Up b i p y → T.parent i ≡ p → abstractions_in (kind_at T i) + y ≡ z → i < j → Up b j i z
  up_past b i j p y z u e a l = record { before = omega (arith, u.before); met = λ d h. met_past b i p y u e d (omega arith) ∙ a }

  -- The part t stands at node i, with the binders bs around it.
  pub record Placed (i : ℕ) (t : Term) (bs : List ℕ) : Type 0 where
    parent : ℕ
    level : ℕ
    rows : RowsIn T t bs i parent level
    closed : ClosedUnder (length bs) t
    last : i + size t ≤ suc T.nodes
    ups : (y : ℕ) → y < length bs → Up (get_or bs y 0) i parent y

  index_placed : (i x : ℕ) (bs : List ℕ) → Placed i (var x) bs → index_at T i ≡ x
  index_placed i x bs h =
      ap (λ b. abstractions_up T.nodes T b (T.parent i)) h.rows.left_is
      ∙ ap (abstractions_up T.nodes T (get_or bs x 0)) h.rows.parent_is
      ∙ (h.ups x h.closed).met T.nodes (omega (arith, h.last))

  body_placed : (i : ℕ) (b : Term) (bs : List ℕ) → Placed i (lam b) bs → Placed (suc i) b (i ∷ bs)
  unfolding kind_of
  body_placed i b bs h = record { parent = i; level = h.level; rows = h.rows.1; closed = h.closed; last = omega (arith, h.last); ups = ups }
    where
      ups : (y : ℕ) → y < suc (length bs) → Up (get_or (i ∷ bs) y 0) (suc i) i y
      ups zero l = record { before = omega arith; met = λ d k. met_here i d k }
      ups (suc y) l =
          up_past (get_or bs y 0) i (suc i) h.parent y (suc y) (h.ups y (le_of_suc-le-suc l)) h.rows.0.parent_is
          (ap (λ k. abstractions_in (kind_of k) + y) h.rows.0.kind_is ∙ omega arith) (omega arith)

  -- a part of an application, at node j
  side_ups : (i j : ℕ) (f a : Term) (bs : List ℕ) (h : Placed i (app f a) bs) → i < j → (y : ℕ) → y < length bs → Up (get_or bs y 0) j i y
  unfolding kind_of
  side_ups i j f a bs h l y m =
      up_past (get_or bs y 0) i j h.parent y y (h.ups y m) h.rows.0.parent_is (ap (λ k. abstractions_in (kind_of k) + y) h.rows.0.kind_is ∙ omega arith) l

  function_placed : (i : ℕ) (f a : Term) (bs : List ℕ) → Placed i (app f a) bs → Placed (suc i) f bs
  function_placed i f a bs h = record {
    parent = i;
    level = h.level;
    rows = h.rows.1;
    closed = h.closed.0;
    last = omega (arith, h.last);
    ups = side_ups i (suc i) f a bs h (omega arith);
  }

  argument_placed : (i : ℕ) (f a : Term) (bs : List ℕ) → Placed i (app f a) bs → Placed (suc i + size f) a bs
  argument_placed i f a bs h = record {
    parent = i;
    level = suc h.level;
    rows = h.rows.2;
    closed = h.closed.1;
    last = omega (arith, h.last);
    ups = side_ups i (suc i + size f) f a bs h (omega arith);
  }

  -- A node with an environment that has a closure for each binder around it.
  pub record Fits (i : ℕ) (E : Closures) : Type 0 where
    part : Term
    binders : List ℕ
    placed : Placed i part binders
    as_many : how_many E ≡ length binders

  -- So have all closures, those inside others too.
  abbrev mutual
    pub Sound : Closure → Type 0
    Sound (closure i E) = Fits i E × AllSound E

    pub AllSound : Closures → Type 0
    AllSound ∅ = Unit
    AllSound (c ▹ C) = Sound c × AllSound C

  pub record SoundState (s : State) : Type 0 where
    fits : Fits s.node s.environment
    environment : AllSound s.environment
    stack : AllSound s.stack

  -- A sound state is at an answer, or a step leads to a sound state.
  abbrev pub Onward : State → Option State → Type 0
  Onward s none = is_answer T s ≡ true
  Onward s (some u) = SoundState u

  -- the closure below the top x
  record Found (x : ℕ) (E : Closures) : Type 0 where
    it : Closure
    is_there : below_top x E ≡ some it
    sound : Sound it

  found : (x : ℕ) (E : Closures) → x < how_many E → AllSound E → Found x E
  found x ∅ l h = absurd (not-suc-le-zero l)
  found zero (c ▹ E) l h = record { it = c; is_there = refl; sound = h.0 }
  found (suc x) (c ▹ E) l h = let f = found x E (le_of_suc-le-suc l) h.1 in record { it = f.it; is_there = f.is_there; sound = f.sound }

  enters : (c : Closure) (S : Closures) → Sound c → AllSound S → SoundState (entered c S)
  enters (closure i E) S h s = record { fits = h.0; environment = h.1; stack = s }

  onward_application : (i : ℕ) (E S : Closures) (f a : Term) (bs : List ℕ) → Placed i (app f a) bs → how_many E ≡ length bs → AllSound E → AllSound S
      → SoundState (state (T.left i) E (closure (T.right i) E ▹ S))
  onward_application i E S f a bs h e p s = record {
    fits = subst⁻¹ (λ j. Fits j E) h.rows.0.left_is record { part = f; binders = bs; placed = function_placed i f a bs h; as_many = e };
    environment = p;
    stack = ((subst⁻¹ (λ j. Fits j E) h.rows.0.right_is record { part = a; binders = bs; placed = argument_placed i f a bs h; as_many = e }, p), s);
  }

  onward_abstraction : (i : ℕ) (E : Closures) (c : Closure) (S : Closures) (b : Term) (bs : List ℕ) → Placed i (lam b) bs → how_many E ≡ length bs → AllSound E → AllSound (c ▹ S)
      → SoundState (state (T.left i) (c ▹ E) S)
  onward_abstraction i E c S b bs h e p s = record {
    fits = subst⁻¹ (λ j. Fits j (c ▹ E)) h.rows.0.left_is record { part = b; binders = i ∷ bs; placed = body_placed i b bs h; as_many = ap suc e };
    environment = (s.0, p);
    stack = s.1;
  }

  onward_variable : (i : ℕ) (E S : Closures) (x : ℕ) (bs : List ℕ) → Placed i (var x) bs → how_many E ≡ length bs → AllSound E → AllSound S
      → Onward (state i E S) (below_top (index_at T i) E >>= λ c. some (entered c S))
  onward_variable i E S x bs h e p s =
      let f = found x E (omega (arith, h.closed)) p in
      rw (index_placed i x bs h, f.is_there) (enters f.it S f.sound s)

  onward_by : (i : ℕ) (E S : Closures) (t : Term) (bs : List ℕ) → Placed i t bs → how_many E ≡ length bs → AllSound E → AllSound S
      → Onward (state i E S) (step T (state i E S))
  unfolding kind_of step_by
  onward_by i E S (var x) bs h e p s = subst⁻¹ (λ k. Onward (state i E S) (step_by (kind_of k) T i E S)) h.rows.kind_is (onward_variable i E S x bs h e p s)
  onward_by i E ∅ (lam b) bs h e p s = subst⁻¹ (λ k. Onward (state i E ∅) (step_by (kind_of k) T i E ∅)) h.rows.0.kind_is (ap (λ k. is_answer_by (kind_of k) ∅) h.rows.0.kind_is)
  onward_by i E (c ▹ S) (lam b) bs h e p s = subst⁻¹ (λ k. Onward (state i E (c ▹ S)) (step_by (kind_of k) T i E (c ▹ S))) h.rows.0.kind_is (onward_abstraction i E c S b bs h e p s)
  onward_by i E S (app f a) bs h e p s = subst⁻¹ (λ k. Onward (state i E S) (step_by (kind_of k) T i E S)) h.rows.0.kind_is (onward_application i E S f a bs h e p s)

  pub onward : (s : State) → SoundState s → Onward s (step T s)
  onward s h = let f = h.fits in onward_by s.node s.environment s.stack f.part f.binders f.placed f.as_many h.environment h.stack

  goes : (s : State) (o : Option State) → step T s ≡ o → Onward s o → Goes T s
  goes s none e h = at_answer h
  goes s (some u) e h = has_step u e

  -- The states that the machine comes to are sound.
  abbrev IfSound : Option State → Type 0
  IfSound none = Unit
  IfSound (some s) = SoundState s

  then_sound : (s : State) (o : Option State) → Onward s o → IfSound o
  then_sound s none h = tt
  then_sound s (some u) h = h

  step_sound : (o : Option State) → IfSound o → IfSound (o >>= λ s. step T s)
  step_sound none h = tt
  step_sound (some s) h = then_sound s (step T s) (onward s h)

  after_sound : SoundState start_state → (q : ℕ) → IfSound (after T q)
  unfolding after
  after_sound h zero = h
  after_sound h (suc q) = step_sound (after T q) (after_sound h q)

  -- The number of a variable of a part is its index: the node that stands q after the part's root.
  index_in : (t : Term) (q : ℕ) (i : ℕ) (bs : List ℕ) (j : ℕ) → Placed i t bs → j ≡ i + q → q < size t → kind_at T j ≡ variable → get_or (code_of t) q 0 ≡ 3 + index_at T j
  unfolding code_of kind_of
  index_in (var x) zero i bs j h e l k =
      let at : j ≡ i = omega arith in
      ap (λ y. 3 + y) (sym (ap (index_at T) at ∙ index_placed i x bs h))
  index_in (var x) (suc q) i bs j h e l k = absurd (omega arith)
  index_in (lam b) zero i bs j h e l k = absurd (other_kind (let at : j ≡ i = omega arith in ap (kind_at T) (sym at) ∙ k) (ap kind_of h.rows.0.kind_is) refl)
  index_in (lam b) (suc q) i bs j h e l k = index_in b q (suc i) (i ∷ bs) j (body_placed i b bs h) (omega arith) (omega arith) k
  index_in (app f a) zero i bs j h e l k = absurd (other_kind (let at : j ≡ i = omega arith in ap (kind_at T) (sym at) ∙ k) (ap kind_of h.rows.0.kind_is) refl)
  index_in (app f a) (suc q) i bs j h e l k = elim (dec_le (size f) q) [
    | yes g ↦
        let r : length (code_of f) + (q - size f) ≡ q = omega (arith, code_length f) in
        ap (λ m. get_or (code_of f ++ code_of a) m 0) (sym r)
        ∙ get_or-append-add (code_of f) (code_of a) (q - size f) 0
        ∙ index_in a (q - size f) (suc i + size f) bs j (argument_placed i f a bs h) (omega arith) (omega arith) k
    | no g ↦
        get_or-append (code_of f) (code_of a) 0 q (omega (arith, code_length f))
        ∙ index_in f q (suc i) bs j (function_placed i f a bs h) (omega arith) (omega arith) k
  ]

module _ (w : List ℕ) (n : ℕ) (A : Accepted w n) where
  root_placed : Placed (table_in w n) 1 A.term []
  root_placed = record {
    parent = 0;
    level = 0;
    rows = accepted_rows w n A;
    closed = A.closed;
    last = let e = term_size w n A in let m = nodes_are w n in omega arith;
    ups = λ y l. absurd (not-suc-le-zero l);
  }

  pub start_sound : SoundState (table_in w n) start_state
  start_sound = record { fits = record { part = A.term; binders = []; placed = root_placed; as_many = refl }; environment = tt; stack = tt }

  sound_after : (q : ℕ) (s : State) → after (table_in w n) q ≡ some s → SoundState (table_in w n) s
  sound_after q s e = subst (IfSound (table_in w n)) e (after_sound (table_in w n) start_sound q)

pub never_stuck : NeverStuck
never_stuck w n A q s e = goes (table_in w n) s (step (table_in w n) s) refl (onward (table_in w n) s (sound_after w n A q s e))

pub index_exactly : IndexExactly
index_exactly w n A i k =
    let at = ((accepted_facts w n A).only_nodes (suc i) (λ z. other_kind k z refl)).to_last in
    index_in (table_in w n) A.term i 1 [] (suc i) (root_placed w n A) (omega arith) (let e = term_size w n A in let m = nodes_are w n in omega arith) k
