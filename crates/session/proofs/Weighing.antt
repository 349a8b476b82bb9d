-- Keeping count of the bullets: how many a slice has, how a rule changes them, and that session and count together tell what the state weighs.
use mathlib.Core.Path.{◌≡◌, refl, sym, ap, ap₂, ◌∙◌, subst}
use mathlib.Core.Option.{some}
use mathlib.Core.List.{List}
use Prim.Native.Nat.{ℕ, suc, ◌+◌, ◌-◌, ◌*◌, ◌≤◌}
use native.Mathlib.Numerals.{add-one}
use native.Mathlib.Omega.{arith}
use Rattle.term.specs.Table.{Table, table_in}
use Rattle.machine.specs.Machine.{State}
use Rattle.calls.specs.Session.{Session}
use Rattle.calls.specs.Stops.{Way, Moment, moment_of, log_size, tape_size, next_by}
use Rattle.calls.specs.Digits.{digits}
use Rattle.calls.specs.Weight.{bullets, weight}
use Rattle.calls.specs.Calls.{longest}
use Rattle.calls.proofs.Weight.{tape_words_lem, all_words, weight_by_words, light}
use Rattle.session.specs.Steps.{TokenAt}
use Rattle.session.specs.Rules.{RuleIs}
use Rattle.session.specs.Passes.{facing}
use Rattle.session.specs.Weight.{words_of, weight_of, Weighable, bullets_after, HasCount}
use Rattle.session.specs.declared.Session as Declared
use Rattle.session.specs.declared.choice.Rule.{Rule}
use Rattle.session.specs.declared.choice.Rule.TheVariants.{One, Two, Three, Four, Five, Six, Seven, Eight}
use Rattle.session.proofs.Facing.{same_tape, next_state}
use Rattle.session.proofs.Passes.{rule_steps}

-- ---- by a rule, and by a pass

abbrev on_tape : State → ℕ
on_tape s = bullets s.tape

module _ (T : Table) (s : State) where
  rule_counted : (r : Rule) (f : RuleIs T s r) → on_tape (rule_steps T s r f).0 ≡ bullets_after r (on_tape s)
  rule_counted (One j) f = sym (add-one (on_tape s))
  rule_counted (Two j) f = let k : on_tape s ≡ suc (bullets f.0) = ap bullets f.1 in omega arith
  rule_counted (Three j) f = refl
  rule_counted (Four j) f = sym (ap bullets f.2)
  rule_counted (Five j) f = let k : on_tape s ≡ suc (bullets f.0) = ap bullets f.1 in omega arith
  rule_counted (Six j) f = sym (ap bullets f.2)
  rule_counted (Seven j) f = sym (add-one (on_tape s))
  rule_counted (Eight j) f = refl

  rule_countable : (r : Rule) → RuleIs T s r → on_tape s ≤ longest → HasCount r (on_tape s)
  rule_countable (One j) f l = l
  rule_countable (Two j) f l = let k : on_tape s ≡ suc (bullets f.0) = ap bullets f.1 in omega arith
  rule_countable (Three j) f l = tt
  rule_countable (Four j) f l = tt
  rule_countable (Five j) f l = let k : on_tape s ≡ suc (bullets f.0) = ap bullets f.1 in omega arith
  rule_countable (Six j) f l = tt
  rule_countable (Seven j) f l = l
  rule_countable (Eight j) f l = tt

bullets_facing : (way : Way) (s : State) → on_tape (facing way s) ≡ on_tape s
bullets_facing way s = ap bullets (same_tape way s)

module _ (way : Way) (T : Table) (s : State) (rule : Rule) (f : RuleIs T (facing way s) rule) where
  pub pass_counted : (se : Session) (m : Moment) → next_by way T (moment_of se s) ≡ some m → on_tape m.state ≡ bullets_after rule (on_tape s)
  pass_counted se m e =
      let (u, steps) = rule_steps T (facing way s) rule f in
      ap on_tape (next_state way T s u se m steps e)
      ∙ bullets_facing way u
      ∙ rule_counted T (facing way s) rule f
      ∙ ap (bullets_after rule) (bullets_facing way s)

  pub pass_countable : on_tape s ≤ longest → HasCount rule (on_tape s)
  pass_countable l = subst (HasCount rule) (bullets_facing way s) (rule_countable T (facing way s) rule f (rw (bullets_facing way s) l))

-- ---- the weight

module _ {w : List ℕ} {n : ℕ} {se : Declared.Session} {ls ts : List ℕ} {s : State} (h : TokenAt w n se ls ts s) where
  abbrev T : Table
  T = table_in w n

  few_in_log : log_size s ≤ longest
  few_in_log = omega (arith, h.enters.holds.log_length_is, h.enters.holds.log_fits, h.enters.short_log)

  few_on_tape : tape_size s ≤ longest
  few_on_tape = omega (arith, h.enters.holds.tape_length_is, h.enters.holds.tape_fits, h.enters.short_tape)

  pub few_bullets : on_tape s ≤ longest
  few_bullets = omega (arith, tape_words_lem s.tape, few_on_tape)

  words_are : words_of se ≡ log_size s + tape_size s
  words_are = ap₂ ◌+◌ h.enters.holds.log_length_is h.enters.holds.tape_length_is

  module _ {b : ℕ} (e : b ≡ on_tape s) where
    pub weighs : weight_of n se b ≡ weight T s
    unfolding table_in
    weighs = ap (λ c. c + digits n * (words_of se - c)) e ∙ sym (weight_by_words T s (words_of se) words_are)

    pub weighable : Weighable n se b
    unfolding table_in
    weighable = record {
      few_words = omega (arith, words_are, few_in_log, few_on_tape);
      among_them = omega (arith, words_are, all_words s);
      light = omega (arith, weighs, light T h.enters.accepted_table.some_node h.enters.accepted_table.few_nodes s few_in_log few_on_tape);
    }
