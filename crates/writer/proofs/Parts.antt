-- The text of a part of a table, from the texts of the parts below it, by the kind of its root.
use mathlib.Core.Path.{◌≡◌, refl, sym, ap, ◌∙◌, subst⁻¹}
use mathlib.Core.Bool.{Bool, true, false, not, false≢true}
use mathlib.Core.List.{List, [], ◌∷◌, ◌++◌, append_assoc}
use Prim.Native.Nat.{ℕ, suc, ◌+◌, ◌≤◌, ◌<◌}
use native.Mathlib.Numerals.{add-one}
use native.Mathlib.Omega.{arith}
use lib.ListN.{length, length-append}
use lib.Dec.{eqb}
use Rattle.term.specs.Term.{Term, var, lam, app, size}
use Rattle.term.specs.Table.{Table, table_in}
use Rattle.term.specs.Rows.{RowsIn}
use Rattle.term.proofs.Rows.{size_positive}
use Rattle.text.specs.Bytes.{lambda, dot, opening, closing, space}
use Rattle.text.specs.Written.{node_name, tree_of, function_needs, argument_needs, enclosed, tree_text}
use Rattle.writer.specs.Putting.{longest_text, Put, binder_text, Stood, text_at, Puttable, PartPut}
use Rattle.writer.proofs.Putting.{put_then}

-- Whether the grammar needs brackets around a part, by the kind of its root.
function_needs_lem : (T : Table) (t : Term) (bs : List ℕ) (i p v : ℕ) → RowsIn T t bs i p v → function_needs (tree_of t bs i) ≡ eqb (T.kind i) 2
unfolding tree_of
function_needs_lem T (var x) bs i p v h = sym (ap (λ k. eqb k 2) h.kind_is)
function_needs_lem T (lam b) bs i p v h = sym (ap (λ k. eqb k 2) h.0.kind_is)
function_needs_lem T (app f a) bs i p v h = sym (ap (λ k. eqb k 2) h.0.kind_is)

argument_needs_lem : (T : Table) (t : Term) (bs : List ℕ) (i p v : ℕ) → RowsIn T t bs i p v → argument_needs (tree_of t bs i) ≡ not (eqb (T.kind i) 1)
unfolding tree_of
argument_needs_lem T (var x) bs i p v h = sym (ap (λ k. not (eqb k 1)) h.kind_is)
argument_needs_lem T (lam b) bs i p v h = sym (ap (λ k. not (eqb k 1)) h.0.kind_is)
argument_needs_lem T (app f a) bs i p v h = sym (ap (λ k. not (eqb k 1)) h.0.kind_is)

module _ (w : List ℕ) (n i : ℕ) where
  abbrev T : Table
  T = table_in w n

  -- A variable's text is its binder's name.
  variable_text : (t : Term) (bs : List ℕ) → Stood w n i t bs → T.kind i ≡ 1 → text_at t bs i ≡ node_name (T.left i)
  unfolding tree_of tree_text
  variable_text (var x) bs h k = ap node_name (sym h.rows.left_is)
  variable_text (lam b) bs h k = absurd (omega (arith, h.rows.0.kind_is))
  variable_text (app f a) bs h k = absurd (omega (arith, h.rows.0.kind_is))

  -- An abstraction's is its binder and the text of its body.
  record Body (t : Term) (bs : List ℕ) : Type 0 where
    body : Term
    stood : Stood w n (i + 1) body (i ∷ bs)
    text_is : text_at t bs i ≡ binder_text i ++ text_at body (i ∷ bs) (i + 1)

  body_stands : (t : Term) (bs : List ℕ) → Stood w n i t bs → T.kind i ≡ 2 → Body t bs
  unfolding tree_of tree_text
  body_stands (var x) bs h k = absurd (omega (arith, h.rows.kind_is))
  body_stands (lam b) bs h k = record {
    body = b;
    stood = record { parent = i; level = h.level; rows = subst⁻¹ (λ j. RowsIn T b (i ∷ bs) j i h.level) (add-one i) h.rows.1; last = omega (arith, h.last) };
    text_is = rw add-one (ap (λ (s : List ℕ). lambda ∷ s) (sym (append_assoc (node_name i) (dot ∷ []) _)));
  }
  body_stands (app f a) bs h k = absurd (omega (arith, h.rows.0.kind_is))

  -- An application's is that of its function, a space, and that of its argument.
  record Sides (t : Term) (bs : List ℕ) : Type 0 where
    function : Term
    argument : Term
    function_stood : Stood w n (i + 1) function bs
    argument_stood : Stood w n (T.right i) argument bs
    later : i < T.right i
    text_is : text_at t bs i
        ≡ enclosed (eqb (T.kind (i + 1)) 2) (text_at function bs (i + 1)) ++ (space ∷ enclosed (not (eqb (T.kind (T.right i)) 1)) (text_at argument bs (T.right i)))

  sides_stand : (t : Term) (bs : List ℕ) → Stood w n i t bs → (T.kind i ≡ 1 → ⊥) → (T.kind i ≡ 2 → ⊥) → Sides t bs
  unfolding tree_of tree_text
  sides_stand (var x) bs h k l = absurd (k h.rows.kind_is)
  sides_stand (lam b) bs h k l = absurd (l h.rows.0.kind_is)
  sides_stand (app f a) bs h k l = record {
    function = f;
    argument = a;
    function_stood = record { parent = i; level = h.level; rows = subst⁻¹ (λ j. RowsIn T f bs j i h.level) (add-one i) h.rows.1; last = omega (arith, h.last) };
    argument_stood = record { parent = i; level = suc h.level; rows = subst⁻¹ (λ j. RowsIn T a bs j i (suc h.level)) r h.rows.2; last = omega (arith, r, h.last) };
    later = omega (arith, r);
    text_is = rw (add-one, r, function_needs_lem T f bs (suc i) i h.level h.rows.1, argument_needs_lem T a bs (suc i + size f) i (suc h.level) h.rows.2);
  }
    where
      r : T.right i ≡ suc i + size f
      r = h.rows.0.right_is

-- What the functions that put a part ask of those that they call, and what they promise by what these do. The part's text begins at index `at`.
module _ (w : List ℕ) (n i at : ℕ) where
  -- a variable
  pub name_room : (t : Term) (bs : List ℕ) → Puttable w n i false at t bs → (table_in w n).kind i ≡ 1
      → at + length (node_name ((table_in w n).left i)) ≤ longest_text
  name_room t bs h k = omega (arith, h.short, ap length (variable_text w n i t bs h.stood k))

  pub variable_put : {o : List ℕ} {r : ℕ} {o' : List ℕ} → (table_in w n).kind i ≡ 1 → Put o at (node_name ((table_in w n).left i)) r o'
      → PartPut w n i false at o r o'
  variable_put {o} {r} {o'} k x t bs h = subst⁻¹ (λ s. Put o at s r o') (variable_text w n i t bs h.stood k) x

  -- an abstraction: room for the binder, and then for the body
  pub record BodyRoom (t : Term) (bs : List ℕ) : Type 0 where
    pub body : Term
    pub binder_room : at + length (binder_text i) ≤ longest_text
    pub within : i + 1 ≤ n
    pub puttable : (p : ℕ) → p ≡ at + length (binder_text i) → Puttable w n (i + 1) false p body (i ∷ bs)
    pub text_is : text_at t bs i ≡ binder_text i ++ text_at body (i ∷ bs) (i + 1)

  pub body_room : (t : Term) (bs : List ℕ) → Puttable w n i false at t bs → (table_in w n).kind i ≡ 2 → BodyRoom t bs
  body_room t bs h k =
      let b = body_stands w n i t bs h.stood k in
      let l = length-append (binder_text i) (text_at b.body (i ∷ bs) (i + 1)) in
      record {
        body = b.body;
        binder_room = omega (arith, h.short, ap length b.text_is, l);
        within = omega (arith, size_positive b.body, b.stood.last);
        puttable = λ p e. record { stood = b.stood; short = omega (arith, h.short, e, ap length b.text_is, l) };
        text_is = b.text_is;
      }

  pub abstraction_put : {o : List ℕ} {p : ℕ} {o₁ : List ℕ} {r : ℕ} {o₂ : List ℕ} → (table_in w n).kind i ≡ 2
      → Put o at (binder_text i) p o₁ → PartPut w n (i + 1) false p o₁ r o₂ → PartPut w n i false at o r o₂
  abstraction_put {o} {p} {o₁} {r} {o₂} k x y t bs h =
      let b = body_room t bs h k in
      subst⁻¹ (λ s. Put o at s r o₂) b.text_is (put_then x (y b.body (i ∷ bs) (b.puttable p x.next)))

  -- An application: room for the function, then for a space, and then for the argument, node j; b and c say whether these two are put in brackets.
  module _ (j : ℕ) (b c : Bool) (j_is : j ≡ (table_in w n).right i) (b_is : b ≡ eqb ((table_in w n).kind (i + 1)) 2) (c_is : c ≡ not (eqb ((table_in w n).kind j) 1)) where
    pub record SidesRoom (t : Term) (bs : List ℕ) : Type 0 where
      pub function : Term
      pub argument : Term
      pub within : j ≤ n
      pub later : i < j
      pub function_puttable : Puttable w n (i + 1) b at function bs
      pub space_room : (p : ℕ) → p ≡ at + length (enclosed b (text_at function bs (i + 1))) → p < longest_text
      pub argument_puttable : (p q : ℕ) → p ≡ at + length (enclosed b (text_at function bs (i + 1))) → q ≡ p + 1 → Puttable w n j c q argument bs
      pub text_is : text_at t bs i ≡ enclosed b (text_at function bs (i + 1)) ++ (space ∷ enclosed c (text_at argument bs j))

    pub sides_room : (t : Term) (bs : List ℕ) → Puttable w n i false at t bs → ((table_in w n).kind i ≡ 1 → ⊥) → ((table_in w n).kind i ≡ 2 → ⊥) → SidesRoom t bs
    sides_room t bs h k l =
        let s = sides_stand w n i t bs h.stood k l in
        let stood : Stood w n j s.argument bs = subst⁻¹ (λ m. Stood w n m s.argument bs) j_is s.argument_stood in
        let fs = enclosed b (text_at s.function bs (i + 1)) in
        let gs = enclosed c (text_at s.argument bs j) in
        let e : text_at t bs i ≡ fs ++ (space ∷ gs) = s.text_is ∙ rw (b_is, c_is, j_is) in
        let m = length-append fs (space ∷ gs) in
        record {
          function = s.function;
          argument = s.argument;
          within = omega (arith, size_positive s.argument, stood.last);
          later = omega (arith, s.later);
          function_puttable = record { stood = s.function_stood; short = omega (arith, h.short, ap length e, m) };
          space_room = λ p ep. omega (arith, h.short, ap length e, m);
          argument_puttable = λ p q ep eq. record { stood = stood; short = omega (arith, h.short, ap length e, m) };
          text_is = e;
        }

    pub application_put : {o : List ℕ} {p : ℕ} {o₁ : List ℕ} {q : ℕ} {o₂ : List ℕ} {r : ℕ} {o₃ : List ℕ}
        → ((table_in w n).kind i ≡ 1 → ⊥) → ((table_in w n).kind i ≡ 2 → ⊥)
        → PartPut w n (i + 1) b at o p o₁ → Put o₁ p (space ∷ []) q o₂ → PartPut w n j c q o₂ r o₃ → PartPut w n i false at o r o₃
    application_put {o} {p} {o₁} {q} {o₂} {r} {o₃} k l x y z t bs h =
        let s = sides_room t bs h k l in
        let f = x s.function bs s.function_puttable in
        let a = z s.argument bs (s.argument_puttable p q f.next y.next) in
        subst⁻¹ (λ u. Put o at u r o₃) s.text_is (put_then f (put_then y a))

  -- A part in brackets.
  pub inner_puttable : (b : Bool) (t : Term) (bs : List ℕ) (p : ℕ) → b ≡ true → Puttable w n i b at t bs → p ≡ at + 1 → Puttable w n i false p t bs
  inner_puttable true t bs p e h q = record { stood = h.stood; short = omega (arith, h.short, length-append (text_at t bs i) (closing ∷ [])) }
  inner_puttable false t bs p e h q = absurd (false≢true e)

  pub brackets_put : (b : Bool) {o : List ℕ} {p : ℕ} {o₁ : List ℕ} {q : ℕ} {o₂ : List ℕ} {r : ℕ} {o₃ : List ℕ} → b ≡ true
      → Put o at (opening ∷ []) p o₁ → PartPut w n i false p o₁ q o₂ → Put o₂ q (closing ∷ []) r o₃ → PartPut w n i b at o r o₃
  brackets_put true {p = p} e x y z t bs h = put_then x (put_then (y t bs (inner_puttable true t bs p refl h x.next)) z)
  brackets_put false e x y z t bs h = absurd (false≢true e)
