-- `starts_atom` tells by the first byte after the gap: one of a name, or an opening bracket.
use mathlib.Core.Path.{◌≡◌, sym, ◌∙◌}
use Prim.Native.Nat.{◌≤◌}
use lib.ListN.{length, get_or}
use Rattle.std.proofs.Common.{rules}
use Rattle.reader.proofs.NextToken.{starts_named, starts_sign, starts_end}
use Rattle.reader.proofs.token.starts_atom.Goals as goal

pub returns-then-in_name : goal.returns-then-in_name
returns-then-in_name c =
    let a = c.args in
    let here : c.in-Some.b.now ≡ get_or a.text.now c.skip.result 0 = search rules in
    c.if-in_name.true ∙ starts_named a.text.now a.at c.skip.result c.skip.ensures c.in-Some.b.now here (sym c.if-in_name.ensures)

pub returns-else-in_name : goal.returns-else-in_name
returns-else-in_name c =
    let a = c.args in
    let here : c.in-Some.b.now ≡ get_or a.text.now c.skip.result 0 = search rules in
    starts_sign a.text.now a.at c.skip.result c.skip.ensures c.in-Some.b.now here (sym c.if-in_name.ensures)

pub returns-in-None : goal.returns-in-None
returns-in-None c =
    let a = c.args in
    let ends : length a.text.now ≤ c.skip.result = search rules in
    starts_end a.text.now a.at c.skip.result c.skip.ensures ends
