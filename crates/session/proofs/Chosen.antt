-- The rule that the code chooses fits: down by the node's kind, up by its place, and by the word on top of the tape.
use mathlib.Core.Path.{◌≡◌, refl, sym, ap, ap₂, ◌∙◌, subst}
use mathlib.Core.Bool.{Bool, true, false, ◌&&◌, cond}
use mathlib.Core.Option.{none}
use mathlib.Core.List.{List, [], ◌∷◌}
use Prim.Native.Nat.{ℕ, suc, ◌-◌, ◌≤◌}
use native.Mathlib.Omega.{arith}
use lib.ListN.{get_or}
use lib.Dec.{eqb}
use borrow.Author.Tests.{eq-eqb, ne_eqb}
use Rattle.term.specs.Table.{table_in, arity, Kind, variable, abstraction, application, nothing, kind_at, is_variable, Place, body_of, function_of, argument_of, nowhere, place_under, place_at}
use Rattle.term.proofs.Facts.{accepted_facts}
use Rattle.machine.specs.Entries.{Entry, entry, Log, ε, ◌▸◌, how_many, held, Tape}
use Rattle.machine.specs.Machine.{Dir, down, up, State, bound_at, go_down, go_up, step_by, step}
use Rattle.machine.proofs.Rules.{rule_1, rule_2, rule_3, rule_4, rule_5, rule_6, rule_7, rule_8}
use Rattle.machine.proofs.Tests.{bound_at_lem}
use Rattle.session.specs.Types.{dir_meant}
use Rattle.session.specs.Steps.{TokenAt}
use Rattle.session.specs.Rules.{RuleIs}
use Rattle.session.specs.declared.Dir.TheVariants.{Down, Up}
use Rattle.session.specs.declared.Session as Declared
use Rattle.session.specs.declared.choice.Rule.TheVariants.{One, Two, Three, Four, Five, Six, Seven, Eight}
use Rattle.session.proofs.TopWord.{nothing_on_top, bullet_on_top, entry_on_top}

-- a log that is not empty has an entry on top
top_entry : (L : Log) (a : ℕ) → how_many L ≡ suc a → (e : Entry) × (M : Log) × (L ≡ e ▸ M)
top_entry ε a z = absurd (omega arith)
top_entry (e ▸ M) a z = (e, M, refl)

module _ {w : List ℕ} {n : ℕ} {se : Declared.Session} {ls ts : List ℕ} {s : State} (h : TokenAt w n se ls ts s) where
  -- a step, by the session's direction and what the lists are
  step_on : (d : Dir) → dir_meant se.dir ≡ d → {L : Log} → s.log ≡ L → {t : Tape} → s.tape ≡ t → step (table_in w n) s ≡ step_by (table_in w n) s.node d L t
  step_on d e p q = λ i. step_by (table_in w n) s.node ((sym h.enters.holds.dir_is ∙ e) i) (p i) (q i)

  module _ (d : se.dir ≡ Down) {left : ℕ} (left_is : left ≡ (table_in w n).left se.node) where
    kind_here : {k : Kind} → kind_at (table_in w n) se.node ≡ k → kind_at (table_in w n) s.node ≡ k
    kind_here e = ap (kind_at (table_in w n)) (sym h.enters.holds.node_is) ∙ e

    goes_left : (table_in w n).left s.node ≡ left
    goes_left = ap (table_in w n).left (sym h.enters.holds.node_is) ∙ sym left_is

    down_on : {t : Tape} → s.tape ≡ t → step (table_in w n) s ≡ step_by (table_in w n) s.node down s.log t
    down_on q = step_on down (ap dir_meant d) refl q

    down_none : (k : Kind) → kind_at (table_in w n) s.node ≡ k → (t : Tape) → s.tape ≡ t → go_down (table_in w n) s.node k s.log t ≡ none → step (table_in w n) s ≡ none
    unfolding step_by
    down_none k e t q z = down_on q ∙ ap (λ k. go_down (table_in w n) s.node k s.log t) e ∙ z

    pub fits_1 : kind_at (table_in w n) se.node ≡ application → RuleIs (table_in w n) s (One left)
    fits_1 k = subst (λ j. RuleIs (table_in w n) s (One j)) goes_left (down_on refl ∙ rule_1 (table_in w n) s.node s.log s.tape (kind_here k))

    pub fits_3 : kind_at (table_in w n) se.node ≡ variable → RuleIs (table_in w n) s (Three left)
    fits_3 k =
        let enough : arity (table_in w n) s.node ≤ how_many s.log = omega (arith, h.enters.holds.good.level_many) in
        subst (λ j. RuleIs (table_in w n) s (Three j)) goes_left (enough, down_on refl ∙ rule_3 (table_in w n) s.node s.log s.tape (kind_here k) enough)

    pub unfit_kind : kind_at (table_in w n) se.node ≡ nothing → step (table_in w n) s ≡ none
    unfolding go_down
    unfit_kind k = down_none nothing (kind_here k) s.tape refl refl

    module _ (k : kind_at (table_in w n) se.node ≡ abstraction) where
      pub unfit_empty : se.tape_len ≡ 0 → step (table_in w n) s ≡ none
      unfolding go_down
      unfit_empty z = down_none abstraction (kind_here k) [] (nothing_on_top h z) refl

      module _ (some_word : se.tape_len ≡ 0 → ⊥) {v : ℕ} (word : v ≡ get_or ts (se.tape_len - 1) 0) where
        pub fits_2 : v ≡ 0 → RuleIs (table_in w n) s (Two left)
        fits_2 z =
            let (t, on_top) = bullet_on_top h v some_word word z in
            subst (λ j. RuleIs (table_in w n) s (Two j)) goes_left (t, on_top, down_on on_top ∙ rule_2 (table_in w n) s.node s.log t (kind_here k))

        module _ (not_bullet : v ≡ 0 → ⊥) {binder : ℕ} (binder_is : binder ≡ (table_in w n).left v) where
          pub fits_4 : binder ≡ se.node → RuleIs (table_in w n) s (Four v)
          fits_4 here =
              let (es, t, on_top, variable_there) = entry_on_top h v some_word word not_bullet in
              let bound : bound_at (table_in w n) s.node v ≡ true =
              subst (λ i. bound_at (table_in w n) i v ≡ true) (sym binder_is ∙ here ∙ h.enters.holds.node_is) (bound_at_lem (table_in w n) v variable_there) in
              (es, t, on_top, down_on on_top ∙ rule_4 (table_in w n) s.node s.log t v es (kind_here k) bound)

          pub unfit_bound : (binder ≡ se.node → ⊥) → step (table_in w n) s ≡ none
          unfolding go_down
          unfit_bound elsewhere =
              let (es, t, on_top, variable_there) = entry_on_top h v some_word word not_bullet in
              let unbound : bound_at (table_in w n) s.node v ≡ false =
              ap₂ (λ q b. is_variable q && b) variable_there (ne_eqb ((table_in w n).left v) s.node (λ e. elsewhere (binder_is ∙ e ∙ sym h.enters.holds.node_is))) in
              down_none abstraction (kind_here k) (held (entry v es) ∷ t) on_top (rw unbound)

  module _ (d : se.dir ≡ Up) {p left right : ℕ} (p_is : p ≡ (table_in w n).parent se.node)
      (left_is : left ≡ (table_in w n).left p) (right_is : right ≡ (table_in w n).right p) where
    place_by : {k : Kind} → kind_at (table_in w n) p ≡ k → place_at (table_in w n) s.node ≡ place_under (table_in w n) s.node p k
    place_by e =
        ap (λ q. place_under (table_in w n) s.node q (kind_at (table_in w n) q)) (ap (table_in w n).parent (sym h.enters.holds.node_is) ∙ sym p_is)
        ∙ ap (place_under (table_in w n) s.node p) e

    up_on : {L : Log} → s.log ≡ L → {t : Tape} → s.tape ≡ t → step (table_in w n) s ≡ step_by (table_in w n) s.node up L t
    up_on q r = step_on up (ap dir_meant d) q r

    up_none : (q : Place) → place_at (table_in w n) s.node ≡ q → (t : Tape) → s.tape ≡ t → go_up (table_in w n) q s.log t ≡ none → step (table_in w n) s ≡ none
    unfolding step_by
    up_none q e t r z = up_on refl r ∙ ap (λ q. go_up (table_in w n) q s.log t) e ∙ z

    unplaced : place_at (table_in w n) s.node ≡ nowhere → step (table_in w n) s ≡ none
    unfolding go_up
    unplaced e = up_none nowhere e s.tape refl refl

    pub unfit_nothing : kind_at (table_in w n) p ≡ nothing → step (table_in w n) s ≡ none
    unfolding place_under
    unfit_nothing k = unplaced (place_by k)

    pub unfit_variable : kind_at (table_in w n) p ≡ variable → step (table_in w n) s ≡ none
    unfolding place_under
    unfit_variable k = unplaced (place_by k)

    left_here : left ≡ se.node → (table_in w n).left p ≡ s.node
    left_here e = sym left_is ∙ e ∙ h.enters.holds.node_is

    left_away : (left ≡ se.node → ⊥) → (table_in w n).left p ≡ s.node → ⊥
    left_away e z = e (left_is ∙ z ∙ sym h.enters.holds.node_is)

    pub fits_7 : kind_at (table_in w n) p ≡ abstraction → left ≡ se.node → RuleIs (table_in w n) s (Seven p)
    unfolding place_under
    fits_7 k e =
        up_on refl refl
        ∙ rule_7 (table_in w n) s.node s.log s.tape (place_by k ∙ ap (λ b. cond b (body_of p) nowhere) (eq-eqb ((table_in w n).left p) s.node (left_here e)))

    pub unfit_body : kind_at (table_in w n) p ≡ abstraction → (left ≡ se.node → ⊥) → step (table_in w n) s ≡ none
    unfolding place_under
    unfit_body k e = unplaced (place_by k ∙ ap (λ b. cond b (body_of p) nowhere) (ne_eqb ((table_in w n).left p) s.node (left_away e)))

    module _ (k : kind_at (table_in w n) p ≡ application) where
      part_by : (b c : Bool) → eqb ((table_in w n).left p) s.node ≡ b → eqb ((table_in w n).right p) s.node ≡ c
          → place_at (table_in w n) s.node ≡ cond b (function_of p) (cond c (argument_of p) nowhere)
      unfolding place_under
      part_by b c x y = place_by k ∙ ap₂ (λ b c. cond b (function_of p) (cond c (argument_of p) nowhere)) x y

      module _ (e : left ≡ se.node) where
        as_function : place_at (table_in w n) s.node ≡ function_of p
        as_function = part_by true _ (eq-eqb ((table_in w n).left p) s.node (left_here e)) refl

        pub unfit_function : se.tape_len ≡ 0 → step (table_in w n) s ≡ none
        unfolding go_up
        unfit_function z = up_none (function_of p) as_function [] (nothing_on_top h z) refl

        module _ (some_word : se.tape_len ≡ 0 → ⊥) {v : ℕ} (word : v ≡ get_or ts (se.tape_len - 1) 0) where
          pub fits_5 : v ≡ 0 → RuleIs (table_in w n) s (Five p)
          fits_5 z =
              let (t, on_top) = bullet_on_top h v some_word word z in
              (t, on_top, up_on refl on_top ∙ rule_5 (table_in w n) s.node s.log t as_function)

          pub fits_6 : (v ≡ 0 → ⊥) → RuleIs (table_in w n) s (Six right)
          fits_6 z =
              let (es, t, on_top, variable_there) = entry_on_top h v some_word word z in
              subst (λ j. RuleIs (table_in w n) s (Six j)) (sym right_is)
              (entry v es, t, on_top, up_on refl on_top ∙ rule_6 (table_in w n) s.node s.log t (entry v es) as_function)

      module _ (e : left ≡ se.node → ⊥) where
        pub fits_8 : right ≡ se.node → RuleIs (table_in w n) s (Eight left)
        fits_8 r =
            let here : (table_in w n).right p ≡ s.node = sym right_is ∙ r ∙ h.enters.holds.node_is in
            let argument = (accepted_facts w n h.enters.accepted_table).argument p k in
            let (x, L, on_top) = top_entry s.log _ (h.enters.holds.good.level_many ∙ ap (table_in w n).level (sym here) ∙ argument.level_is) in
            subst (λ j. RuleIs (table_in w n) s (Eight j)) (sym left_is) (
              x,
              L,
              on_top,
              up_on on_top refl ∙ rule_8 (table_in w n) s.node L s.tape x
                  (part_by false true (ne_eqb ((table_in w n).left p) s.node (left_away e)) (eq-eqb ((table_in w n).right p) s.node here)),
            )

        pub unfit_part : (right ≡ se.node → ⊥) → step (table_in w n) s ≡ none
        unfit_part r =
            unplaced (part_by false false (ne_eqb ((table_in w n).left p) s.node (left_away e))
            (ne_eqb ((table_in w n).right p) s.node (λ z. r (right_is ∙ z ∙ sym h.enters.holds.node_is))))
