-- What the functions that weigh a state require and promise: over its session, and the count of its bullets.
use Rattle.std.specs.Prelude.{ℕ, ◌+◌, ◌-◌, ◌≤◌}
use Rattle.calls.specs.Digits.{digits}
use Rattle.calls.specs.Weight.{weight_by, heaviest}
use Rattle.calls.specs.Calls.{longest}
use Rattle.session.specs.declared.Session as Declared
use Rattle.session.specs.declared.choice.Rule.{Rule}
use Rattle.session.specs.declared.choice.Rule.TheVariants.{One, Two, Three, Four, Five, Six, Seven, Eight}

-- the words of log and tape together
abbrev pub words_of : Declared.Session → ℕ
words_of se = se.log_len + se.tape_len

-- so many of them bullets, and the others positions
abbrev pub weight_of : ℕ → Declared.Session → ℕ → ℕ
weight_of n se b = weight_by (digits n) (words_of se) b

pub record Weighable (n : ℕ) (se : Declared.Session) (b : ℕ) : Type 0 where
  pub few_words : words_of se ≤ longest + longest
  pub among_them : b ≤ words_of se
  pub light : weight_of n se b ≤ heaviest

-- the bullets after a step by a rule, of so many before it
abbrev pub bullets_after : Rule → ℕ → ℕ
bullets_after (One j) b = b + 1
bullets_after (Two j) b = b - 1
bullets_after (Three j) b = b
bullets_after (Four j) b = b
bullets_after (Five j) b = b - 1
bullets_after (Six j) b = b
bullets_after (Seven j) b = b + 1
bullets_after (Eight j) b = b

-- a word holds this number, and what is taken off was there
abbrev pub HasCount : Rule → ℕ → Type 0
HasCount (One j) b = b ≤ longest
HasCount (Two j) b = 1 ≤ b
HasCount (Three j) b = Unit
HasCount (Four j) b = Unit
HasCount (Five j) b = 1 ≤ b
HasCount (Six j) b = Unit
HasCount (Seven j) b = b ≤ longest
HasCount (Eight j) b = Unit
