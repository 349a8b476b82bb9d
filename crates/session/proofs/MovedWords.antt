-- What the mover finds and leaves: words go from the top of one list's slice to the top of the other's.
use mathlib.Core.Path.{◌≡◌, refl, sym, ap, ap₂, ◌∙◌, subst}
use mathlib.Core.List.{List, [], ◌∷◌, ◌++◌, reverse, reverse-reverse, append_assoc}
use Prim.Native.Nat.{ℕ, suc, ◌+◌, ◌-◌, ◌≤◌, ◌<◌}
use native.Mathlib.Numerals.{add-one}
use native.Mathlib.Omega.{arith}
use lib.ListN.{length, take, drop, get_or, set, replicate, length-append, length-reverse, length-drop, take-append-drop}
use lib.Seq.{length-take-le, take_at, drop-cons, drop-append-le, set_at}
use borrow.Rule.Slice.PartMut.{put_mid}
use Rattle.term.specs.Table.{Table}
use Rattle.machine.specs.Entries.{Entry, entry, Log, ε, ◌▸◌, how_many, topmost, rest, entry_words, log_words}
use Rattle.machine.specs.Good.{EntryIn, LogIn}
use Rattle.machine.specs.Slice.{slice}
use Rattle.machine.specs.Span.{span}
use Rattle.machine.proofs.Load.{reverse_apart}
use Rattle.machine.proofs.Logs.{topmost_rest, words_onto}
use Rattle.machine.proofs.Span.{span_none, span_log, span_one, span_topmost}
use Rattle.session.specs.Extent.{span_below}
use Rattle.session.specs.Mover.{words_below, without, MoverIs, MakerIs}
use Rattle.std.specs.Prelude.{Some}
use Rattle.session.proofs.Slices.{Lies, Stacked, taken_off, taken_words, zeros_over, put_on, with_one, zeroed}

-- each entry has its variable's word
pub entries_words : (L : Log) → how_many L ≤ length (log_words L)
entries_words ε = omega arith
entries_words (entry v es ▸ L) = omega (arith, length-append (log_words es) (log_words L), entries_words L)

-- the words xs on top of ys, below index n; the mover found k words
pub record Found (s : List ℕ) (n k : ℕ) (xs ys above : List ℕ) : Type 0 where
  pub stacked : Stacked s n (xs ++ ys) above
  pub count : k ≡ length xs

-- the zeros above so many words of a slice
abbrev pub zeros_above : List ℕ → List ℕ → List ℕ
zeros_above s ws = replicate (length s - length ws) 0

pub lies_stacked : {s : List ℕ} {n : ℕ} {ws : List ℕ} → Lies s n ws → Stacked s n ws (zeros_above s ws)
unfolding slice
lies_stacked p = record { many = p.many; words = p.words }

-- below a list's top word v
pub under_stacked : {s : List ℕ} {n v : ℕ} {ws : List ℕ} → Lies s n (v ∷ ws) → Stacked s (n - 1) ws (v ∷ replicate (length s - suc (length ws)) 0)
under_stacked {s} {n} {v} {ws} p =
    let many = p.many in
    let fits = p.fits in
    record { many = omega arith; words = p.words ∙ with_one (length s) v ws (omega arith) }

module _ {from : List ℕ} {n k : ℕ} {xs ys above : List ℕ} (p : Found from n k xs ys above) where
  gone : without from n k ≡ reverse ys ++ (replicate (length xs) 0 ++ above)
  gone =
      (λ i. take (p.stacked.many i - p.count i) (p.stacked.words i) ++ (replicate (p.count i) 0 ++ drop (p.stacked.many i) (p.stacked.words i)))
      ∙ taken_off xs ys above

  pub words_found : words_below from n k ≡ reverse xs
  words_found = (λ i. take (p.count i) (drop (p.stacked.many i - p.count i) (p.stacked.words i))) ∙ taken_words xs ys above

  pub fewer : n - k ≡ length ys
  fewer = omega (arith, length-append xs ys, p.stacked.many, p.count)

  -- They come onto zs in the other slice.
  module _ {to : List ℕ} {m : ℕ} {zs : List ℕ} (q : Lies to m zs) where
    abbrev lent_part : List ℕ
    lent_part = take (length to - m) (drop m to)

    pub words_came : k ≤ length to - m → put_mid m (length to - m) to (words_below from n k ++ drop k lent_part) ≡ slice (length to) (xs ++ zs)
    words_came r =
        let count = p.count in
        let many = q.many in
        let fits = q.fits in
        (λ i. put_mid (q.many i) (length to - q.many i) (q.words i) (words_found i ++ drop (p.count i) (take (length to - q.many i) (drop (q.many i) (q.words i)))))
        ∙ put_on (length to) xs zs _ (omega arith) refl

    -- with the word v above them
    pub entry_came : (v : ℕ) → k < length to - m → put_mid m (length to - m) to (words_below from n k ++ (v ∷ drop (k + 1) lent_part)) ≡ slice (length to) ((v ∷ xs) ++ zs)
    entry_came v r =
        let count = p.count in
        let many = q.many in
        let fits = q.fits in
        let one_more : k + 1 ≡ suc (length xs) = omega arith in
        (λ i. put_mid (q.many i) (length to - q.many i) (q.words i) (words_found i ++ (v ∷ drop (one_more i) (take (length to - q.many i) (drop (q.many i) (q.words i))))))
        ∙ put_on (length to) (v ∷ xs) zs _ (omega arith) (sym (reverse_apart (v ∷ []) xs (drop (suc (length xs)) (take (length to - length zs) (drop (length zs) (slice (length to) zs))))))

    pub more : m + k ≡ length (xs ++ zs)
    more = omega (arith, length-append xs zs, p.count, q.many)

-- A slice from which the top words went, with j zeros above them.
pub words_left : {from : List ℕ} {n k : ℕ} {xs ys : List ℕ} (j : ℕ) → Found from n k xs ys (replicate j 0) → n + j ≡ length from → without from n k ≡ slice (length from) ys
words_left {from} {n} {k} {xs} {ys} j p h =
    let many = p.stacked.many in
    gone p ∙ zeros_over (length from) ys (length xs) j (omega (arith, length-append xs ys))

-- A slice from which they went and the word v above them, made 0, goes too.
pub words_left_under : {from : List ℕ} {n k v : ℕ} {xs ys : List ℕ} (j : ℕ) → Found from n k xs ys (v ∷ replicate j 0) → n + suc j ≡ length from
    → set (without from n k) n 0 ≡ slice (length from) ys
words_left_under {from} {n} {k} {v} {xs} {ys} j p h =
    let many = p.stacked.many in
    ap (λ q. set q n 0) (gone p)
    ∙ zeroed (length from) v ys (length xs) n j (omega (arith, length-append xs ys)) (omega (arith, length-append xs ys))

-- What the code finds: so many entries, on top of words.
words_there : {s : List ℕ} {n : ℕ} {ws above : List ℕ} → Stacked s n ws above → reverse (take n s) ≡ ws
words_there {s} {n} {ws} {above} p =
    (λ i. reverse (take (p.many i) (p.words i))) ∙ ap reverse (take_at (reverse ws) above (length ws) (length-reverse ws)) ∙ reverse-reverse ws

module _ (T : Table) {s : List ℕ} {n k : ℕ} {above : List ℕ} where
  -- the entry on top
  pub entry_found : (e : Entry) (ys : List ℕ) → EntryIn T e → Stacked s n (entry_words e ++ ys) above → k ≡ span_below T s n 1 → Found s n k (entry_words e) ys above
  entry_found e ys good p k_is = record { stacked = p; count = k_is ∙ ap (λ q. span T q 1) (words_there p) ∙ span_one T e ys good }

  -- the entries inside one, once its own word is passed
  pub inside_found : (es : Log) (ys : List ℕ) → LogIn T es → Stacked s n (log_words es ++ ys) above → k ≡ span_below T s n (how_many es) → Found s n k (log_words es) ys above
  inside_found es ys good p k_is =
      let none : how_many es + 0 ≡ how_many es = omega arith in
      record {
        stacked = p;
        count =
            k_is
            ∙ ap₂ (λ q a. span T q a) (words_there p) (sym none)
            ∙ span_log T es 0 ys good
            ∙ (let z = span_none T ys in omega arith);
      }

  -- the top a entries of a log
  pub entries_found : (a : ℕ) (L : Log) → LogIn T L → a ≤ how_many L → Stacked s n (log_words L) above → k ≡ span_below T s n a
      → Found s n k (log_words (topmost a L)) (log_words (rest a L)) above
  entries_found a L good many p k_is =
      let apart : log_words L ≡ log_words (topmost a L) ++ log_words (rest a L) = ap log_words (sym (topmost_rest a L)) ∙ words_onto (topmost a L) (rest a L) in
      record {
        stacked = subst (λ q. Stacked s n q above) apart p;
        count = k_is ∙ ap (λ q. span T q a) (words_there p) ∙ span_topmost T a L good many;
      }

-- An entry is made in a part by lending the mover all of it but its last word; the entry's own word then goes above the words that came.
module _ (T : Table) (from : List ℕ) (top owed own : ℕ) (to : List ℕ) (some_word : length to ≡ 0 → ⊥) where
  pub lent_words : length (take (length to - 1) to) ≡ length to - 1
  lent_words = length-take-le (length to - 1) to (omega arith)

  pub entry_put : (k : ℕ) (from' part : List ℕ) → top ≤ length from → MoverIs T from top owed (take (length to - 1) to) (Some k) from' part
      → MakerIs T from top owed own to (Some k) from' (set (part ++ drop (length to - 1) to) k own)
  entry_put k from' part inside i =
      let (k_is, few, room, moved) = i in
      let short = lent_words in
      let here : k < length to = (let z : ¬ (length to ≡ 0) = some_word in omega arith) in
      let count : length (words_below from top k) ≡ k = length-take-le k (drop (top - k) from) (omega (arith, length-drop (top - k) from)) in
      let front : part ++ drop (length to - 1) to ≡ words_below from top k ++ drop k to =
      ap (λ q. q ++ drop (length to - 1) to) moved.came
      ∙ append_assoc (words_below from top k) (drop k (take (length to - 1) to)) (drop (length to - 1) to)
      ∙ ap (λ q. words_below from top k ++ q)
      (sym (drop-append-le k (take (length to - 1) to) (drop (length to - 1) to) room) ∙ ap (drop k) (take-append-drop (length to - 1) to)) in
      let put : set (part ++ drop (length to - 1) to) k own ≡ words_below from top k ++ (own ∷ drop (k + 1) to) =
      ap (λ q. set q k own) (front ∙ ap (λ q. words_below from top k ++ q) (drop-cons to k 0 here))
      ∙ set_at (words_below from top k) (get_or to k 0) (drop (suc k) to) own k count
      ∙ ap (λ j. words_below from top k ++ (own ∷ drop j to)) (sym (add-one k)) in
      (k_is, few, here, moved.left, put)
