-- Words written in a run, and a run moved up to make room for marks in front of it.
use Prim.Native.Nat.{ℕ, zero, suc, ◌+◌, ◌-◌, ◌≤◌, ◌<◌}
use native.Mathlib.Omega.{arith}
use mathlib.Core.Path.{◌≡◌, refl, sym, ap, ap₂, ◌∙◌}
use mathlib.Core.List.{List, [], ◌∷◌, ◌++◌, append_assoc}
use lib.ListN.{length, set, take, drop, replicate, length-append, length-replicate}
use lib.Seq.{sets, sets-eq, length-sets, take_at, take_all, drop_at, length-take-le, take-set-le, drop-set-lt, set_comm}
use Rattle.std.specs.List.{copy_within}
use Rattle.std.proofs.lemmas.Slice.{put_mid-paste}
use borrow.Rule.Slice.PartMut.{put_mid}

pub slide : (n : ℕ) (x : ℕ) (xs : List ℕ) → replicate n x ++ x ∷ xs ≡ x ∷ (replicate n x ++ xs)
slide zero x xs = refl
slide (suc n) x xs = ap (λ (l : List ℕ). x ∷ l) (slide n x xs)

-- what lies before and after a run
pub set_sets_before : (o : List ℕ) (i : ℕ) (vs : List ℕ) (k x : ℕ) → k < i → set (sets o i vs) k x ≡ sets (set o k x) i vs
set_sets_before o i [] k x h = refl
set_sets_before o i (v ∷ vs) k x h =
    set_sets_before (set o i v) (suc i) vs k x (omega arith) ∙ ap (λ (l : List ℕ). sets l (suc i) vs) (set_comm o i k v x (λ e. omega arith))

take_sets : (o : List ℕ) (i : ℕ) (vs : List ℕ) (n : ℕ) → n ≤ i → take n (sets o i vs) ≡ take n o
take_sets o i [] n h = refl
take_sets o i (v ∷ vs) n h = take_sets (set o i v) (suc i) vs n (omega arith) ∙ take-set-le n o i v h

drop_sets : (o : List ℕ) (i : ℕ) (vs : List ℕ) (n : ℕ) → i + length vs ≤ n → drop n (sets o i vs) ≡ drop n o
drop_sets o i [] n h = refl
drop_sets o i (v ∷ vs) n h = drop_sets (set o i v) (suc i) vs n (omega arith) ∙ drop-set-lt n o i v (omega arith)

drop_run : (o : List ℕ) (i : ℕ) (vs : List ℕ) → i + length vs ≤ length o → drop i (sets o i vs) ≡ vs ++ drop (i + length vs) o
drop_run o i vs h =
    let l : length (take i o) ≡ i = length-take-le i o (omega arith) in
    rw (sets-eq vs o i h, append_assoc) (drop_at (take i o) (vs ++ drop (i + length vs) o) i l)

regroup : (a r w d : List ℕ) → (a ++ r) ++ (w ++ d) ≡ (a ++ (r ++ w)) ++ d
regroup a r w d = simp append_assoc

-- the run ws, moved up by as many words as rs has, with rs before it
moved_run : (b ws rs : List ℕ) (i by : ℕ) → length rs ≡ by → i + length ws + by ≤ length b
    → sets (sets (sets b i ws) (i + by) ws) i rs ≡ sets b i (rs ++ ws)
moved_run b ws rs i by lr room =
    let o : List ℕ = sets b i ws in
    let x : List ℕ = sets o (i + by) ws in
    let lo : length o ≡ length b = length-sets b i ws in
    let lx : length x ≡ length o = length-sets o (i + by) ws in
    let la : length (rs ++ ws) ≡ length rs + length ws = length-append rs ws in
    let n₁ : i + length rs ≡ i + by = omega arith in
    let n₂ : i + by + length ws ≡ i + length (rs ++ ws) = omega arith in
    let t : take i x ≡ take i b = take_sets o (i + by) ws i (omega arith) ∙ take_sets b i ws i (omega arith) in
    let d : drop (i + length rs) x ≡ ws ++ drop (i + length (rs ++ ws)) b =
    ap (λ (k : ℕ). drop k x) n₁ ∙ drop_run o (i + by) ws (omega arith)
    ∙ ap (λ (l : List ℕ). ws ++ l) (ap (λ (k : ℕ). drop k o) n₂ ∙ drop_sets b i ws (i + length (rs ++ ws)) (omega arith)) in
    sets-eq rs x i (omega arith)
    ∙ ap (λ (l : List ℕ). l ++ rs ++ drop (i + length rs) x) t
    ∙ ap (λ (l : List ℕ). take i b ++ rs ++ l) d
    ∙ regroup (take i b) rs ws (drop (i + length (rs ++ ws)) b)
    ∙ sym (sets-eq (rs ++ ws) b i (omega arith))

-- after the run was copied, and the words that it left were filled
pub marks_done : (o o₁ rs b ws : List ℕ) (first end by k x : ℕ) → o₁ ≡ copy_within o first end (first + by) → rs ≡ replicate by x → k ≡ by
    → end + by ≤ length o → o ≡ sets b first ws → end ≡ first + length ws → put_mid first k o₁ rs ≡ sets b first (replicate by x ++ ws)
marks_done o o₁ rs b ws first end by k x e₁ f ke room e l =
    let lb : length o ≡ length b = ap length e ∙ length-sets b first ws in
    let n : length ws ≡ end - first = omega arith in
    let len : length rs ≡ by = ap length f ∙ length-replicate by x in
    let run : take (end - first) (drop first o) ≡ ws = rw (e, drop_run b first ws (omega arith)) (take_at ws (drop (first + length ws) b) (end - first) n) in
    let moved : o₁ ≡ sets o (first + by) ws =
    e₁ ∙ ap₂ (λ (v : List ℕ) (m : ℕ). take (first + by) o ++ v ++ drop (first + by + m) o) run (sym n) ∙ sym (sets-eq ws o (first + by) (omega arith)) in
    let lo : length o₁ ≡ length o = ap length moved ∙ length-sets o (first + by) ws in
    put_mid-paste first k o₁ rs rs by refl (sym ke) (sym len)
    ∙ ap₂ (λ (v : List ℕ) (m : ℕ). take first o₁ ++ v ++ drop (first + m) o₁) (take_all by rs (omega arith)) (sym len) ∙ sym (sets-eq rs o₁ first (omega arith))
    ∙ rw (moved, f, e) (moved_run b ws (replicate by x) first by (length-replicate by x) (omega arith))
