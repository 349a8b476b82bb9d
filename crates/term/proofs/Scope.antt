-- The binders around a part: the search among them, and the scope that holds them.
use mathlib.Core.Path.{◌≡◌, refl, sym, ap, ap₂, ◌∙◌, subst}
use mathlib.Core.Bool.{Bool, true, false, not, cond, ◌||◌, or-true, or-false, true≢false}
use mathlib.Core.Option.{Option, none, some, some-injective, none-ne-some}
use mathlib.Core.List.{List, [], ◌∷◌, reverse, reverse-cons}
use Prim.Native.Nat.{ℕ, zero, suc, ◌+◌, ◌-◌, ◌≤◌, ◌<◌}
use native.Mathlib.Nat.{not-suc-le-zero, le_of_suc-le-suc}
use native.Mathlib.Omega.{arith}
use lib.ListN.{length, get_or, set, take, drop, length-drop, length-set}
use native.Mathlib.Numerals.{add-one}
use Rattle.std.specs.Prelude.{nat_eq}
use Rattle.std.specs.List.{list_any}
use Rattle.std.proofs.Math.Bool.{or_comm}
use Rattle.std.proofs.lemmas.List.{get_or-drop}
use Rattle.std.proofs.lemmas.List.Folds.{list_any_more, list_any-append}
use lib.Seq.{get_or-set_same, get_or-set_other}
use lib.Dec.{eqb}
use borrow.Author.Tests.{eq-eqb, ne_eqb, eqb-true}
use Rattle.term.specs.Choice.{◌>>=◌, is_none}
use Rattle.term.specs.Accepted.{binder_index}
use Rattle.term.specs.Walk.{binders_in, Rising, ScopeRoom}
use Rattle.term.proofs.Choice.{passed, failed, chained, some_answer, lacks}

-- Each binder stands before the node, and the inner after the outer.
abbrev pub Falling : ℕ → List ℕ → Type 0
Falling m [] = Unit
Falling m (b ∷ bs) = (b < m) × Falling b bs

pub falling_higher : (m k : ℕ) (bs : List ℕ) → m ≤ k → Falling m bs → Falling k bs
falling_higher m k [] e f = tt
falling_higher m k (b ∷ bs) e f = ((let g : b < m = f.0 in omega arith), f.1)

pub binder_before : (m : ℕ) (bs : List ℕ) (x : ℕ) → Falling m bs → x < length bs → get_or bs x 0 < m
binder_before m [] x f h = absurd (not-suc-le-zero h)
binder_before m (b ∷ bs) zero f h = f.0
binder_before m (b ∷ bs) (suc x) f h = let g : b < m = f.0 in omega (arith, binder_before b bs x f.1 (le_of_suc-le-suc h))

pub index_found : (m : ℕ) (bs : List ℕ) (x : ℕ) → Falling m bs → x < length bs → binder_index (get_or bs x 0) bs ≡ some x
index_found m [] x f h = absurd (not-suc-le-zero h)
index_found m (b ∷ bs) zero f h = passed (eqb b b) (some 0) (binder_index b bs >>= λ x. some (suc x)) (eq-eqb b b refl)
index_found m (b ∷ bs) (suc x) f h =
    ap₂ (λ t o. cond t (some 0) (o >>= λ y. some (suc y)))
    (ne_eqb (get_or bs x 0) b (λ e. let g : get_or bs x 0 < b = binder_before b bs x f.1 (le_of_suc-le-suc h) in omega arith))
    (index_found b bs x f.1 (le_of_suc-le-suc h))

-- the binder that is found
abbrev pub IsBinder : ℕ → List ℕ → ℕ → Type 0
IsBinder b bs x = (x < length bs) × (get_or bs x 0 ≡ b)

index_here : (b c : ℕ) (bs : List ℕ) (x : ℕ) (t : Bool) → eqb b c ≡ t → ((y : ℕ) → binder_index b bs ≡ some y → IsBinder b bs y)
    → cond t (some 0) (binder_index b bs >>= λ y. some (suc y)) ≡ some x → IsBinder b (c ∷ bs) x
index_here b c bs x true g h e = subst (IsBinder b (c ∷ bs)) (some-injective 0 x e) (omega arith, sym (eqb-true b c g))
index_here b c bs x false g h e =
    let f = chained (binder_index b bs) (λ y. some (suc y)) x e in
    subst (IsBinder b (c ∷ bs)) (some-injective (suc f.0) x f.2) (let l : f.0 < length bs = (h f.0 f.1).0 in omega arith, (h f.0 f.1).1)

pub index_only : (b : ℕ) (bs : List ℕ) (x : ℕ) → binder_index b bs ≡ some x → IsBinder b bs x
index_only b [] x e = absurd (none-ne-some x e)
index_only b (c ∷ bs) x e = index_here b c bs x (eqb b c) refl (λ y f. index_only b bs y f) e

-- whether a binder is among them
abbrev pub is_around : ℕ → List ℕ → Bool
is_around b bs = not (is_none (binder_index b bs))

pub around_here : (b c : ℕ) (bs : List ℕ) → c ≡ b → is_around b (c ∷ bs) ≡ true
around_here b c bs e = ap (λ o. not (is_none o)) (passed (eqb b c) (some 0) (binder_index b bs >>= λ x. some (suc x)) (eq-eqb b c (sym e)))

further : (o : Option ℕ) → is_none (o >>= λ x. some (suc x)) ≡ is_none o
further none = refl
further (some x) = refl

pub around_further : (b c : ℕ) (bs : List ℕ) → (c ≡ b → ⊥) → is_around b (c ∷ bs) ≡ is_around b bs
around_further b c bs h =
    ap (λ o. not (is_none o)) (failed (eqb b c) (some 0) (binder_index b bs >>= λ x. some (suc x)) (ne_eqb b c (λ e. h (sym e))))
    ∙ ap not (further (binder_index b bs))

pub around_index : (b : ℕ) (bs : List ℕ) → is_around b bs ≡ true → (x : ℕ) × (binder_index b bs ≡ some x)
around_index b bs e = some_answer (binder_index b bs) e

pub around_none : (b : ℕ) (bs : List ℕ) → is_around b bs ≡ false → binder_index b bs ≡ none
around_none b bs e = lacks (binder_index b bs) e

-- a word written above the binders around, and as the innermost of them
pub binders_under : (s : List ℕ) (d k x : ℕ) → d ≤ k → binders_in (set s k x) d ≡ binders_in s d
binders_under s zero k x h = refl
binders_under s (suc d) k x h = ap₂ (λ b bs. b ∷ bs) (get_or-set_other s k d x 0 (omega arith)) (binders_under s d k x (omega arith))

pub binders_push : (s : List ℕ) (d x : ℕ) → d < length s → binders_in (set s d x) (suc d) ≡ x ∷ binders_in s d
binders_push s d x h = ap₂ (λ b bs. b ∷ bs) (get_or-set_same s d x 0 h) (binders_under s d d x (omega arith))

pub binders_inner : (s : List ℕ) (d : ℕ) → 1 ≤ d → binders_in s d ≡ get_or s (d - 1) 0 ∷ binders_in s (d - 1)
binders_inner s zero h = absurd (omega arith)
binders_inner s (suc d) h = let e : d ≡ suc d - 1 = omega arith in ap (λ k. get_or s k 0 ∷ binders_in s k) e

-- whether one of the first words of the scope is the node
any_more : (s : List ℕ) (d b : ℕ) → d < length s → (t : Bool) → nat_eq (get_or s d 0) b ≡ t → (is_around b (binders_in s d) || t) ≡ is_around b (binders_in s (suc d))
any_more s d b h true e = or-true (is_around b (binders_in s d)) ∙ sym (around_here b (get_or s d 0) (binders_in s d) (eqb-true (get_or s d 0) b e))
any_more s d b h false e = or-false (is_around b (binders_in s d)) ∙ sym (around_further b (get_or s d 0) (binders_in s d) (λ f. true≢false (sym (eq-eqb (get_or s d 0) b f) ∙ e)))

pub around_any : (s : List ℕ) (d b : ℕ) → d ≤ length s → list_any (λ y. nat_eq y b) (take d s) ≡ is_around b (binders_in s d)
around_any s zero b h = refl
around_any s (suc d) b h =
    ap (λ k. list_any (λ y. nat_eq y b) (take k s)) (sym (add-one d)) ∙ list_any_more (λ y. nat_eq y b) s d 0 (omega arith)
    ∙ ap (λ t. t || nat_eq (get_or s d 0) b) (around_any s d b (omega arith)) ∙ any_more s d b (omega arith) (nat_eq (get_or s d 0) b) refl

-- none of the words from h on is the node
around_outer : (s : List ℕ) (h k b : ℕ) → ((x : ℕ) → h ≤ x → x < h + k → get_or s x 0 ≡ b → ⊥) → is_around b (binders_in s (h + k)) ≡ is_around b (binders_in s h)
around_outer s h zero b f = let e : h + 0 ≡ h = omega arith in ap (λ d. is_around b (binders_in s d)) e
around_outer s h (suc k) b f =
    let e : h + suc k ≡ suc (h + k) = omega arith in
    ap (λ d. is_around b (binders_in s d)) e
    ∙ around_further b (get_or s (h + k) 0) (binders_in s (h + k)) (f (h + k) (omega arith) (omega arith))
    ∙ around_outer s h k b (λ x l m. f x l (omega arith))

-- none of the first h words is the node
around_inner : (s : List ℕ) (h k b : ℕ) → h + k ≤ length s → ((x : ℕ) → x < h → get_or s x 0 ≡ b → ⊥)
    → list_any (λ y. nat_eq y b) (take k (drop h s)) ≡ is_around b (binders_in s (h + k))
around_inner s h zero b l f =
    let e : h + 0 ≡ 0 + h = omega arith in
    sym (ap (λ d. is_around b (binders_in s d)) e ∙ around_outer s 0 h b (λ x i m. f x (omega arith)))
around_inner s h (suc k) b l f =
    let e : suc (h + k) ≡ h + suc k = omega arith in
    ap (λ j. list_any (λ y. nat_eq y b) (take j (drop h s))) (sym (add-one k)) ∙ list_any_more (λ y. nat_eq y b) (drop h s) k 0 (omega (arith, length-drop h s))
    ∙ ap (λ t. t || nat_eq (get_or (drop h s) k 0) b) (around_inner s h k b (omega arith) f)
    ∙ ap (λ w. is_around b (binders_in s (h + k)) || nat_eq w b) (get_or-drop h s k 0)
    ∙ any_more s (h + k) b (omega arith) (nat_eq (get_or s (h + k) 0) b) refl
    ∙ ap (λ d. is_around b (binders_in s d)) e

any_reversed : (p : ℕ → Bool) (xs : List ℕ) → list_any p (reverse xs) ≡ list_any p xs
any_reversed p [] = refl
any_reversed p (x ∷ xs) =
    ap (list_any p) (reverse-cons x xs) ∙ list_any-append p (reverse xs) (x ∷ []) ∙ ap₂ (λ a b. a || b) (any_reversed p xs) (or-false (p x)) ∙ or_comm (list_any p xs) (p x)

-- where the word at h is not after the node, it is looked for from there on, from the innermost outwards
pub around_from : (s : List ℕ) (h k b : ℕ) → 0 < k → h + k ≤ length s → Rising s (h + k) → get_or s h 0 ≤ b
    → list_any (λ y. nat_eq y b) (reverse (take k (drop h s))) ≡ is_around b (binders_in s (h + k))
around_from s h k b p l r e =
    any_reversed (λ y. nat_eq y b) (take k (drop h s))
    ∙ around_inner s h k b l (λ x i q. let g : get_or s x 0 < get_or s h 0 = r x h i (omega arith) in omega arith)

not_later : (s : List ℕ) (h k b j : ℕ) → Rising s (h + k) → b < get_or s h 0 → h + j < h + k → get_or s (h + j) 0 ≡ b → ⊥
not_later s h k b zero r e m q = let i : get_or s (h + 0) 0 ≡ get_or s h 0 = ap (λ x. get_or s x 0) (omega arith) in omega arith
not_later s h k b (suc j) r e m q = let g : get_or s h 0 < get_or s (h + suc j) 0 = r h (h + suc j) (omega arith) m in omega arith

-- where it is after the node, or no binder is there, the node is looked for below
pub around_below : (s : List ℕ) (h k b : ℕ) → h ≤ length s → Rising s (h + k) → (0 < k → b < get_or s h 0) → list_any (λ y. nat_eq y b) (take h s) ≡ is_around b (binders_in s (h + k))
around_below s h k b l r e =
    around_any s h b l
    ∙ sym (around_outer s h k b (λ x i m q. let d : h + (x - h) ≡ x = omega arith in not_later s h k b (x - h) r (e (omega arith)) (omega arith) (ap (λ y. get_or s y 0) d ∙ q)))

-- a word of the scope under another, which is the last of so many or before it
word_by : (s t : List ℕ) (d x : ℕ) (b : Bool) → eqb x d ≡ b → get_or s d 0 ≡ get_or t d 0 → (x < d → get_or s x 0 ≡ get_or t x 0) → x < suc d → get_or s x 0 ≡ get_or t x 0
word_by s t d x true e f g h = ap (λ y. get_or s y 0) (eqb-true x d e) ∙ f ∙ ap (λ y. get_or t y 0) (sym (eqb-true x d e))
word_by s t d x false e f g h = let n : x ≡ d → ⊥ = λ k. true≢false (sym (eq-eqb x d k) ∙ e) in g (omega arith)

same_word : (s t : List ℕ) (d x : ℕ) → binders_in s d ≡ binders_in t d → x < d → get_or s x 0 ≡ get_or t x 0
same_word s t zero x e h = absurd (omega arith)
same_word s t (suc d) x e h = word_by s t d x (eqb x d) refl (ap (λ l. get_or l 0 0) e) (λ m. same_word s t d x (ap (drop 1) e) m) h

pushed_by : (s : List ℕ) (d i x : ℕ) (b : Bool) → eqb x d ≡ b → d < length s → ((y : ℕ) → y < d → get_or s y 0 < i) → x < suc d → get_or (set s d i) x 0 < suc i
pushed_by s d i x true e l f h =
    let g : get_or (set s d i) x 0 ≡ i = ap (λ y. get_or (set s d i) y 0) (eqb-true x d e) ∙ get_or-set_same s d i 0 l in
    omega arith
pushed_by s d i x false e l f h =
    let n : x ≡ d → ⊥ = λ k. true≢false (sym (eq-eqb x d k) ∙ e) in
    let g : get_or (set s d i) x 0 ≡ get_or s x 0 = get_or-set_other s d x i 0 (omega arith) in
    let m : get_or s x 0 < i = f x (omega arith) in
    omega arith

order_by : (s : List ℕ) (d i x y : ℕ) (b : Bool) → eqb y d ≡ b → d < length s → ((z : ℕ) → z < d → get_or s z 0 < i) → Rising s d → x < y → y < suc d
    → get_or (set s d i) x 0 < get_or (set s d i) y 0
order_by s d i x y true e l f r h k =
    let j : y ≡ d = eqb-true y d e in
    let g : get_or (set s d i) y 0 ≡ i = ap (λ z. get_or (set s d i) z 0) j ∙ get_or-set_same s d i 0 l in
    let o : get_or (set s d i) x 0 ≡ get_or s x 0 = get_or-set_other s d x i 0 (omega arith) in
    let m : get_or s x 0 < i = f x (omega arith) in
    omega arith
order_by s d i x y false e l f r h k =
    let n : y ≡ d → ⊥ = λ j. true≢false (sym (eq-eqb y d j) ∙ e) in
    let g : get_or (set s d i) y 0 ≡ get_or s y 0 = get_or-set_other s d y i 0 (omega arith) in
    let o : get_or (set s d i) x 0 ≡ get_or s x 0 = get_or-set_other s d x i 0 (omega arith) in
    let m : get_or s x 0 < get_or s y 0 = r x y h (omega arith) in
    omega arith

-- the room that there is in a node's own parts: in a body, in a function, and in an argument, to which a walk over the function came
pub room_in_body : (s : List ℕ) (n d i v : ℕ) → i ≤ n → ScopeRoom s n d i v → ScopeRoom (set s d i) n (d + 1) (i + 1) v
room_in_body s n d i v h r =
    let a = r.few_nodes in let b = r.long in let c = r.binders in let e = r.levels in
    let l : d < length s = omega arith in
    record {
      few_nodes = a;
      long = omega (arith, length-set s d i);
      binders = omega arith;
      levels = omega arith;
      before = λ x k. let g : get_or (set s d i) x 0 < suc i = pushed_by s d i x (eqb x d) refl l r.before (omega arith) in omega arith;
      rising = λ x y j k. order_by s d i x y (eqb y d) refl l r.before r.rising j (omega arith);
    }

pub room_in_function : (s : List ℕ) (n d i v : ℕ) → ScopeRoom s n d i v → ScopeRoom s n d (i + 1) v
room_in_function s n d i v r =
    let b = r.binders in let e = r.levels in
    record {
      few_nodes = r.few_nodes;
      long = r.long;
      binders = omega arith;
      levels = omega arith;
      before = λ x k. let g : get_or s x 0 < i = r.before x k in omega arith;
      rising = r.rising;
    }

pub room_in_argument : (s t : List ℕ) (n d i j v : ℕ) → length t ≡ length s → binders_in t d ≡ binders_in s d → i < j → ScopeRoom s n d i v → ScopeRoom t n d j (v + 1)
room_in_argument s t n d i j v l e h r =
    let a = r.long in let b = r.binders in let c = r.levels in
    record {
      few_nodes = r.few_nodes;
      long = omega arith;
      binders = omega arith;
      levels = omega arith;
      before = λ x k. let g : get_or s x 0 < i = r.before x k in let f : get_or t x 0 ≡ get_or s x 0 = same_word t s d x e k in omega arith;
      rising = λ x y p k.
          let g : get_or s x 0 < get_or s y 0 = r.rising x y p k in
          let f : get_or t x 0 ≡ get_or s x 0 = same_word t s d x e (omega arith) in
          let m : get_or t y 0 ≡ get_or s y 0 = same_word t s d y e k in
          omega arith;
    }
