-- `move_words` copies one word a pass and clears it: after i passes i zeros stand in the one slice, and the i words in the other.
use mathlib.Core.Path.{◌≡◌, sym, ap, ap₂, ◌∙◌}
use mathlib.Core.List.{List, ◌++◌, append_assoc}
use Prim.Native.Nat.{ℕ, ◌<◌, ◌-◌, ◌+◌}
use native.Mathlib.Nat.{add-zero, zero-add}
use native.Mathlib.Numerals.{add-one}
use native.Mathlib.Omega.{arith}
use lib.ListN.{length, take, drop, get_or, set, replicate, length-drop, length-replicate, get_or-replicate}
use lib.Seq.{get_or-drop, paste, paste-zero, paste-suc, drop-paste}
use Rattle.session.proofs.Slices.{zeros_all}
use Rattle.session.proofs.mover.move_words.Goals as goal

-- a pass's two stores: the next word of s, and the zero in its place
store_next : (s d : List ℕ) (i : ℕ) → i < length d → i < length s → set (paste d 0 s i) i (get_or s i 0) ≡ paste d 0 s (i + 1)
store_next s d i h k =
    let e : i ≡ 0 + i = omega arith in
    let l : 0 + i < length d = omega arith in
    ap (λ j. set (paste d 0 s i) j (get_or s i 0)) e ∙ paste-suc d 0 s i 0 l k ∙ ap (paste d 0 s) (sym (add-one i))

clear_next : (d : List ℕ) (b k i : ℕ) → i < k → b + i < length d → set (paste d b (replicate k 0) i) (b + i) 0 ≡ paste d b (replicate k 0) (i + 1)
clear_next d b k i h l =
    ap (set (paste d b (replicate k 0) i) (b + i)) (sym (get_or-replicate k i 0 0 h))
    ∙ paste-suc d b (replicate k 0) i 0 l (omega (arith, length-replicate {A = ℕ} k 0))
    ∙ ap (paste d b (replicate k 0)) (sym (add-one i))

-- The word to be copied is not cleared yet.
not_cleared : (d : List ℕ) (b k i : ℕ) → i < k → b + i < length d → get_or (paste d b (replicate k 0) i) (b + i) 0 ≡ get_or (drop b d) i 0
not_cleared d b k i h l =
    let left : drop (b + i) (paste d b (replicate k 0) i) ≡ drop (b + i) d =
    drop-paste d b (replicate k 0) i (omega arith) (omega (arith, length-replicate {A = ℕ} k 0)) in
    ap (λ j. get_or (paste d b (replicate k 0) i) j 0) (sym (add-zero (b + i)))
    ∙ sym (get_or-drop (b + i) (paste d b (replicate k 0) i) 0 0)
    ∙ ap (λ q. get_or q 0 0) left
    ∙ get_or-drop (b + i) d 0 0
    ∙ ap (λ j. get_or d j 0) (add-zero (b + i))
    ∙ sym (get_or-drop b d i 0)

pub loop-i-init : goal.loop-i-init
loop-i-init c =
    let a = c.args in
    let b = a.top - a.k in
    (paste-zero a.from.now b (replicate a.k 0), paste-zero a.to.now 0 (drop b a.from.now))

pub loop-i-preserved : goal.loop-i-preserved
loop-i-preserved c =
    let l = c in
    let a = l.args in
    let i = l.loop-i.i in
    let b = a.top - a.k in
    let here : b + i < length a.from.now = omega arith in (
      ap (λ s. set s (b + i) 0) l.loop-i.invariant.0 ∙ clear_next a.from.now b a.k i (omega arith) here,
      ap₂ (λ s v. set s i v) l.loop-i.invariant.1 (ap (λ s. get_or s (b + i) 0) l.loop-i.invariant.0 ∙ not_cleared a.from.now b a.k i (omega arith) here)
          ∙ store_next (drop b a.from.now) a.to.now i (omega arith) (omega (arith, length-drop b a.from.now)),
    )

pub returns : goal.returns
returns c =
    let l = c in
    let a = l.args in
    let b = a.top - a.k in
    let e : l.loop-i.i ≡ a.k = omega arith in
    let t : b + a.k ≡ a.top = omega arith in
    record {
      left =
          l.loop-i.invariant.0
          ∙ ap (paste a.from.now b (replicate a.k 0)) e
          ∙ append_assoc (take b a.from.now) _ _
          ∙ ap₂ (λ q j. take b a.from.now ++ (q ++ drop j a.from.now)) (zeros_all a.k) t;
      came = l.loop-i.invariant.1 ∙ ap (paste a.to.now 0 (drop b a.from.now)) e ∙ ap (λ j. take a.k (drop b a.from.now) ++ drop j a.to.now) (zero-add a.k);
    }
