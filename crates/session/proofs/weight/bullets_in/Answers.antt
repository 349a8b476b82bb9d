-- `bullets_in`: the words that are 0.
use mathlib.Core.Path.{◌≡◌, refl, sym, ◌∙◌}
use mathlib.Core.Bool.{cond}
use mathlib.Core.List.{List, ◌∷◌}
use Prim.Native.Nat.{ℕ, zero, suc, ◌+◌}
use Rattle.std.specs.Prelude.{◌==◌, count_by}
use Rattle.std.proofs.Common.{arith, rules}
use Rattle.std.proofs.lemmas.Bool.Decides.{nat_tests}
use Rattle.std.proofs.lemmas.List.Recursion.{is_count_by}
use Rattle.calls.specs.Weight.{zero_words}
use Rattle.session.proofs.weight.bullets_in.Goals as goal

one_word : (w : ℕ) (ws : List ℕ) → zero_words (w ∷ ws) ≡ cond (w == 0) (1 + zero_words ws) (zero_words ws)
one_word zero ws = omega arith
one_word (suc v) ws = grind (arith, nat_tests)

pub returns : goal.returns
returns c =
    let counted : c.count.result ≡ count_by (λ w. w == 0) c.args.words.now = search rules in
    counted ∙ sym (is_count_by zero_words (λ w. w == 0) refl one_word c.args.words.now)
