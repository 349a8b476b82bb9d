-- Words put into columns: runs of them one behind the other in each column, whichever is put first, and whole columns one behind the other.
use mathlib.Core.Path.{◌≡◌, refl, ap, ap₂, ◌∙◌}
use mathlib.Core.List.{List, [], ◌∷◌, ◌++◌}
use Prim.Native.Nat.{ℕ, suc, ◌+◌, ◌≤◌}
use native.Mathlib.Omega.{arith}
use lib.ListN.{length, set, length-append}
use lib.Seq.{sets, length-sets}
use Rattle.term.specs.Table.{joined}
use Rattle.term.proofs.Stores.{run_on}
use Rattle.term.proofs.Columns.{Long, count}
use Rattle.reader.specs.Layout.{columns_put}
use Rattle.reader.proofs.Moved.{set_sets_before}

-- two runs apart, in either order
sets_apart : (o : List ℕ) (i j : ℕ) (vs ws : List ℕ) → i + length vs ≤ j → sets (sets o j ws) i vs ≡ sets (sets o i vs) j ws
sets_apart o i j [] ws e = refl
sets_apart o i j (v ∷ vs) ws e =
    ap (λ l. sets l (suc i) vs) (set_sets_before o j ws i v (omega arith)) ∙ sets_apart (set o i v) (suc i) j vs ws (omega arith)

-- the words of each column, and after them those of another
abbrev pub beside : List (List ℕ) → List (List ℕ) → List (List ℕ)
beside [] ds = []
beside (c ∷ cs) [] = []
beside (c ∷ cs) (d ∷ ds) = (c ++ d) ∷ beside cs ds

-- as many columns, m words of each and k after them
abbrev pub Beside : ℕ → ℕ → List (List ℕ) → List (List ℕ) → Type 0
Beside m k [] [] = Unit
Beside m k [] (d ∷ ds) = ⊥
Beside m k (c ∷ cs) [] = ⊥
Beside m k (c ∷ cs) (d ∷ ds) = (length c ≡ m) × (length d ≡ k) × Beside m k cs ds

pub put_beside : (m k : ℕ) (cs ds : List (List ℕ)) → Long m cs → Long k ds → count cs ≡ count ds → Beside m k cs ds
put_beside m k [] [] l h e = tt
put_beside m k [] (d ∷ ds) l h e = absurd (omega arith)
put_beside m k (c ∷ cs) [] l h e = absurd (omega arith)
put_beside m k (c ∷ cs) (d ∷ ds) l h e = (l.0, h.0, put_beside m k cs ds l.1 h.1 (omega arith))

pub beside_long : (m k : ℕ) (cs ds : List (List ℕ)) → Beside m k cs ds → Long (m + k) (beside cs ds)
beside_long m k [] [] b = tt
beside_long m k [] (d ∷ ds) b = absurd b
beside_long m k (c ∷ cs) [] b = absurd b
beside_long m k (c ∷ cs) (d ∷ ds) b = (length-append c d ∙ ap₂ ◌+◌ b.0 b.1, beside_long m k cs ds b.2)

module _ (n : ℕ) where
  pub put_length : (o : List ℕ) (at : ℕ) (cs : List (List ℕ)) → length (columns_put n o at cs) ≡ length o
  put_length o at [] = refl
  put_length o at (c ∷ cs) = put_length (sets o at c) (n + at) cs ∙ length-sets o at c

  -- a run before all of them, made after them
  put_later : (o : List ℕ) (i at : ℕ) (vs : List ℕ) (cs : List (List ℕ)) → i + length vs ≤ at → sets (columns_put n o at cs) i vs ≡ columns_put n (sets o i vs) at cs
  put_later o i at vs [] e = refl
  put_later o i at vs (c ∷ cs) e =
      put_later (sets o at c) i (n + at) vs cs (omega arith) ∙ ap (λ l. columns_put n l (n + at) cs) (sets_apart o i at vs c e)

  -- the second words put after the first,
  pub put_on : (o : List ℕ) (at m k : ℕ) (cs ds : List (List ℕ)) → Beside m k cs ds → m + k ≤ n
      → columns_put n (columns_put n o at cs) (at + m) ds ≡ columns_put n o at (beside cs ds)
  put_on o at m k [] [] b r = refl
  put_on o at m k [] (d ∷ ds) b r = absurd b
  put_on o at m k (c ∷ cs) [] b r = absurd b
  put_on o at m k (c ∷ cs) (d ∷ ds) b r =
      ap₂ (λ l j. columns_put n l j ds) (put_later (sets o at c) (at + m) (n + at) d cs (omega (arith, b.1))) (let e : n + (at + m) ≡ n + at + m = omega arith in e)
      ∙ put_on (sets (sets o at c) (at + m) d) (n + at) m k cs ds b.2 r
      ∙ ap (λ l. columns_put n l (n + at) (beside cs ds)) (run_on o (sets o at c) (sets (sets o at c) (at + m) d) at (at + m) c d refl (omega (arith, b.0)) refl)

  -- and the first after the second
  pub put_before : (o : List ℕ) (at m k : ℕ) (cs ds : List (List ℕ)) → Beside m k cs ds → m + k ≤ n
      → columns_put n (columns_put n o (at + m) ds) at cs ≡ columns_put n o at (beside cs ds)
  put_before o at m k [] [] b r = refl
  put_before o at m k [] (d ∷ ds) b r = absurd b
  put_before o at m k (c ∷ cs) [] b r = absurd b
  put_before o at m k (c ∷ cs) (d ∷ ds) b r =
      ap (λ l. columns_put n l (n + at) cs) (put_later (sets o (at + m) d) at (n + (at + m)) c ds (omega (arith, b.0)))
      ∙ ap (λ j. columns_put n (columns_put n (sets (sets o (at + m) d) at c) j ds) (n + at) cs) (let e : n + (at + m) ≡ n + at + m = omega arith in e)
      ∙ put_before (sets (sets o (at + m) d) at c) (n + at) m k cs ds b.2 r
      ∙ ap (λ l. columns_put n l (n + at) (beside cs ds)) (sets_apart o at (at + m) c d (omega (arith, b.0)) ∙ run_on o (sets o at c) (sets (sets o at c) (at + m) d) at (at + m) c d refl (omega (arith, b.0)) refl)

  -- Whole columns lie one behind the other.
  pub put_whole : (o : List ℕ) (at : ℕ) (cs : List (List ℕ)) → Long n cs → columns_put n o at cs ≡ sets o at (joined cs)
  put_whole o at [] l = refl
  put_whole o at (c ∷ cs) l =
      run_on o (sets o at c) (columns_put n (sets o at c) (n + at) cs) at (n + at) c (joined cs) refl (omega (arith, l.0)) (put_whole (sets o at c) (n + at) cs l.1)
