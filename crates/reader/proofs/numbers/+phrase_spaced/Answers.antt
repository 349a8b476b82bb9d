-- `phrase` reads what its first byte tells.
use mathlib.Core.Path.{◌≡◌}
use Prim.Native.Nat.{◌<◌}
use lib.ListN.{length, get_or}
use Rattle.std.proofs.Common.{rules}
use Rattle.text.specs.Bytes.{lambda}
use Rattle.text.specs.NumberGrammar.{at_sign}
use Rattle.reader.proofs.Phrases.{abstraction_read, application_none, application_read}
use Rattle.reader.proofs.numbers.+phrase_spaced.Goals as goal

pub phrase-returns-in-Some-eq92 : goal.phrase-returns-in-Some-eq92
phrase-returns-in-Some-eq92 t c =
    let a = c.args in
    let there : (a.at < length a.text.now) × (get_or a.text.now a.at 0 ≡ lambda) = search rules in
    abstraction_read a.text.now a.at a.depth a.out.now a.node there.0 there.1 c.spaced.result c.spaced.new.out c.spaced.ensures

pub phrase-returns-in_err-p-in-Some-eq64 : goal.phrase-returns-in_err-p-in-Some-eq64
phrase-returns-in_err-p-in-Some-eq64 t c =
    let a = c.args in
    let there : (a.at < length a.text.now) × (get_or a.text.now a.at 0 ≡ at_sign) = search rules in
    rw c.from_residual.ensures (application_none a.text.now a.at a.depth a.out.now a.node there.0 there.1 c.in_err-p-in-Some-eq64.ensures)

pub phrase-returns-in_ok-p-in-Some-eq64 : goal.phrase-returns-in_ok-p-in-Some-eq64
phrase-returns-in_ok-p-in-Some-eq64 t c =
    let a = c.args in
    let there : (a.at < length a.text.now) × (get_or a.text.now a.at 0 ≡ at_sign) = search rules in
    let r = c.spaced-in-Some-eq64-2 in
    application_read a.text.now a.at a.depth a.out.now a.node there.0 there.1 _ _ _ c.in_ok-p-in-Some-eq64.ensures r.result r.new.out r.ensures
