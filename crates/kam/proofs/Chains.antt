-- Words of records written, and those that stay; chains of records over both.
use mathlib.Core.Path.{◌≡◌, refl, ap, ◌∙◌, subst⁻¹}
use mathlib.Core.Bool.{Bool, true, false}
use mathlib.Core.List.{List, [], ◌∷◌, ◌++◌}
use Prim.Native.Nat.{ℕ, zero, suc, ◌+◌, ◌-◌, ◌*◌, ◌≤◌, ◌<◌}
use native.Mathlib.Omega.{arith}
use lib.ListN.{length, get_or, set, length-set}
use lib.Seq.{sets, get_or-set_same, get_or-set_other}
use Rattle.kam.specs.Krivine.{Closure, closure, Closures, ∅, ◌▹◌}
use Rattle.kam.specs.Records.{word_index, field_in, node_in, environment_in, next_in}

-- Words before a run of stores stay, and so does its first word.
stays : (vs : List ℕ) (w : List ℕ) (i k : ℕ) → k < i → get_or (sets w i vs) k 0 ≡ get_or w k 0
stays [] w i k l = refl
stays (v ∷ vs) w i k l = stays vs (set w i v) (suc i) k (omega arith) ∙ get_or-set_other w i k v 0 (λ e. omega arith)

stored : (v : ℕ) (vs w : List ℕ) (i : ℕ) → i < length w → get_or (sets w i (v ∷ vs)) i 0 ≡ v
stored v vs w i l = stays vs (set w i v) (suc i) i (omega arith) ∙ get_or-set_same w i v 0 l

-- a word at an index
at_index : (w : List ℕ) (k m : ℕ) → k ≡ m → get_or w k 0 ≡ get_or w m 0
at_index w k m e = ap (λ j. get_or w j 0) e

-- The three words of a record that is taken after t others.
module _ (w : List ℕ) (t a b c : ℕ) where
  abbrev pub put : List ℕ
  put = sets w (word_index t 0) (a ∷ b ∷ c ∷ [])

  pub put_kept : (r f : ℕ) → r ≤ t → f < 3 → field_in put r f ≡ field_in w r f
  put_kept zero f l h = refl
  put_kept (suc r) f l h = stays (a ∷ b ∷ c ∷ []) w (word_index t 0) (word_index r f) (omega arith)

  module _ (room : 3 * suc t ≤ length w) where
    pub put_node : node_in put (suc t) ≡ a
    put_node = stored a (b ∷ c ∷ []) w (word_index t 0) (omega arith)

    pub put_environment : environment_in put (suc t) ≡ b
    put_environment =
        at_index put (word_index t 1) (suc (word_index t 0)) (omega arith)
        ∙ stored b (c ∷ []) (set w (word_index t 0) a) (suc (word_index t 0)) (let e = length-set w (word_index t 0) a in omega arith)

    pub put_next : next_in put (suc t) ≡ c
    put_next =
        let first = set w (word_index t 0) a in
        at_index put (word_index t 2) (suc (suc (word_index t 0))) (omega arith)
        ∙ stored c [] (set first (suc (word_index t 0)) b) (suc (suc (word_index t 0)))
        (let e = length-set w (word_index t 0) a in let g = length-set first (suc (word_index t 0)) b in omega arith)

-- The next of record s written anew.
module _ (w : List ℕ) (s e : ℕ) where
  abbrev pub anew : List ℕ
  anew = set w (word_index (s - 1) 2) e

  pub anew_kept : (r f : ℕ) → (r ≡ s → ⊥) → 1 ≤ s → f < 3 → field_in anew r f ≡ field_in w r f
  anew_kept zero f h one l = refl
  anew_kept (suc r) f h one l = get_or-set_other w (word_index (s - 1) 2) (word_index r f) e 0 (λ z. h (omega arith))

  pub anew_same : (f : ℕ) → f < 2 → field_in anew s f ≡ field_in w s f
  anew_same f l = same s refl
    where
      same : (r : ℕ) → r ≡ s → field_in anew r f ≡ field_in w r f
      same zero q = refl
      same (suc r) q = get_or-set_other w (word_index (s - 1) 2) (word_index r f) e 0 (λ z. omega arith)

  pub anew_next : 1 ≤ s → 3 * s ≤ length w → next_in anew s ≡ e
  anew_next one l = next s refl
    where
      next : (r : ℕ) → r ≡ s → next_in anew r ≡ e
      next zero q = absurd (omega arith)
      next (suc r) q = at_index anew (word_index r 2) (word_index (s - 1) 2) (omega arith) ∙ get_or-set_same w (word_index (s - 1) 2) e 0 (omega arith)

-- Chains of records in environments: each record of them has moved, by M.
abbrev mutual
  pub MovedHolds : List ℕ → (ℕ → Bool) → ℕ → Closure → Type 0
  MovedHolds w M r (closure i E) = (node_in w r ≡ i) × MovedChain w M (environment_in w r) E

  pub MovedChain : List ℕ → (ℕ → Bool) → ℕ → Closures → Type 0
  MovedChain w M r ∅ = r ≡ 0
  MovedChain w M r (c ▹ C) = (M r ≡ true) × MovedHolds w M r c × MovedChain w M (next_in w r) C

-- The chain of records on the stack: none of them has moved, and each stands below record b and the one before it.
abbrev pub StackChain : List ℕ → (ℕ → Bool) → Closures → ℕ → ℕ → Type 0
StackChain w M ∅ b r = r ≡ 0
StackChain w M (c ▹ C) b r = (1 ≤ r) × (r < b) × (M r ≡ false) × MovedHolds w M r c × StackChain w M C r (next_in w r)

-- Record r and those after it hold these closures.
abbrev pub MovedEach : List ℕ → (ℕ → Bool) → ℕ → List Closure → Type 0
MovedEach w M r [] = Unit
MovedEach w M r (c ∷ cs) = MovedHolds w M r c × MovedEach w M (suc r) cs

-- The words of record r stay.
pub record Keeps (w w' : List ℕ) (r : ℕ) : Type 0 where
  pub node : node_in w' r ≡ node_in w r
  pub environment : environment_in w' r ≡ environment_in w r
  pub next : next_in w' r ≡ next_in w r

module _ (w w' : List ℕ) (M M' : ℕ → Bool) (keeps : (r : ℕ) → M r ≡ true → Keeps w w' r) (stay : (r : ℕ) → M r ≡ true → M' r ≡ true) where
  mutual
    pub holds_over : (c : Closure) (r : ℕ) → node_in w' r ≡ node_in w r → environment_in w' r ≡ environment_in w r → MovedHolds w M r c → MovedHolds w' M' r c
    holds_over (closure i E) r n e h = (n ∙ h.0, subst⁻¹ (λ x. MovedChain w' M' x E) e (chain_over E (environment_in w r) h.1))

    pub chain_over : (C : Closures) (r : ℕ) → MovedChain w M r C → MovedChain w' M' r C
    chain_over ∅ r h = h
    chain_over (c ▹ C) r h = let k = keeps r h.0 in (
      stay r h.0,
      holds_over c r k.node k.environment h.1,
      subst⁻¹ (λ x. MovedChain w' M' x C) k.next (chain_over C (next_in w r) h.2),
    )

  pub stack_over : (C : Closures) (b r : ℕ) → ((s : ℕ) → s < b → M s ≡ false → Keeps w w' s × (M' s ≡ false)) → StackChain w M C b r → StackChain w' M' C b r
  stack_over ∅ b r k h = h
  stack_over (c ▹ C) b r k h = let l = k r h.1 h.2 in (
    h.0,
    h.1,
    l.1,
    holds_over c r l.0.node l.0.environment h.3,
    subst⁻¹ (λ x. StackChain w' M' C r x) l.0.next (stack_over C r (next_in w r) (λ s z m. k s (omega (arith, h.1)) m) h.4),
  )

  pub each_over : (cs : List Closure) (r t : ℕ) → r + length cs ≤ suc t
      → ((s : ℕ) → s ≤ t → (node_in w' s ≡ node_in w s) × (environment_in w' s ≡ environment_in w s)) → MovedEach w M r cs → MovedEach w' M' r cs
  each_over [] r t l k h = tt
  each_over (c ∷ cs) r t l k h = let s = k r (omega arith) in (holds_over c r s.0 s.1 h.0, each_over cs (suc r) t (omega arith) k h.1)

pub each_and : (w : List ℕ) (M : ℕ → Bool) (cs : List Closure) (c : Closure) (r t : ℕ) → r + length cs ≡ t → MovedEach w M r cs → MovedHolds w M t c → MovedEach w M r (cs ++ (c ∷ []))
each_and w M [] c r t e h k = (subst⁻¹ (λ s. MovedHolds w M s c) (let z : r ≡ t = omega arith in z) k, tt)
each_and w M (d ∷ cs) c r t e h k = (h.0, each_and w M cs c (suc r) t (omega arith) h.1 k)
