-- `after_mark` finds the sign where it is the first byte after the gap.
use mathlib.Core.Path.{◌≡◌, ◌∙◌}
use Prim.Native.Nat.{◌≤◌, ◌<◌}
use lib.ListN.{length, get_or}
use Rattle.std.proofs.Common.{rules}
use Rattle.reader.proofs.NextToken.{after_found, after_missing, after_end}
use Rattle.reader.proofs.token.after_mark.Goals as goal

pub returns-in_err-byte : goal.returns-in_err-byte
returns-in_err-byte c =
    let a = c.args in
    let ends : length a.text.now ≤ c.skip-i.result = search rules in
    rw c.from_residual.ensures (after_end a.text.now a.at c.skip-i.result c.skip-i.ensures a.mark c.requires.1 ends)

pub returns-then-byte-mark : goal.returns-then-byte-mark
returns-then-byte-mark c =
    let a = c.args in
    let there : (c.skip-i.result < length a.text.now) × (get_or a.text.now c.skip-i.result 0 ≡ a.mark) = search rules in
    after_found a.text.now a.at c.skip-i.result c.skip-i.ensures a.mark c.requires.1 there.0 there.1

pub returns-else-byte-mark : goal.returns-else-byte-mark
returns-else-byte-mark c =
    let a = c.args in
    let here : c.in_ok-byte.field-0.now ≡ get_or a.text.now c.skip-i.result 0 = search rules in
    after_missing a.text.now a.at c.skip-i.result c.skip-i.ensures a.mark (λ h. c.if-byte-mark.false (here ∙ h))
