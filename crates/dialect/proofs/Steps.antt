-- The two steps of a conversion make up the whole: what was read into a table of its own is refused, or it is written.
use mathlib.Core.Path.{◌≡◌, sym, ap, ◌∙◌}
use mathlib.Core.List.{List}
use Prim.Native.Nat.{ℕ}
use borrow.Author.Tests.{ne_eqb}
use Rattle.std.specs.Prelude.{Ok, Err}
use Rattle.term.specs.Refusal.{refusal_number}
use Rattle.term.specs.declared.refusal.Refusal.{Refusal}
use Rattle.term.proofs.Refusals.{refusal_some}
use Rattle.text.specs.Writing.{Write, refused}
use Rattle.text.specs.Dialects.{Dialect, read_in, write_in, own_table, read_then_written, convert_of}
use Rattle.reader.specs.Types.{read_meant}

module _ (d e : Dialect) (text out table : List ℕ) where
  pub refused_converts : (r : Refusal) → read_meant (Err r) table ≡ read_in d text own_table → refused (refusal_number r) out ≡ convert_of d e text out
  unfolding convert_of
  refused_converts r read = sym (rw (ne_eqb (refusal_number r) 0 (refusal_some r))) ∙ ap (λ q. read_then_written e q out) read

  pub written_converts : {q : Write} (n : ℕ) → read_meant (Ok n) table ≡ read_in d text own_table → q ≡ write_in e table n out → q ≡ convert_of d e text out
  unfolding convert_of
  written_converts n read a = a ∙ ap (λ q. read_then_written e q out) read
