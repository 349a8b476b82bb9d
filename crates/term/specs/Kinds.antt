-- The declared kinds of node as the definitions' own.
use Rattle.std.specs.Prelude.{Option, Some, None}
use Rattle.term.specs.Table
use Rattle.term.specs.declared.kinds.Kind.{Kind}
use Rattle.term.specs.declared.kinds.Kind.TheVariants.{Variable, Abstraction, Application}

-- No kind is that of a node that is not there, or whose word is none of the three.
abbrev pub kind_meant : Option Kind → Table.Kind
kind_meant None = Table.nothing
kind_meant (Some Variable) = Table.variable
kind_meant (Some Abstraction) = Table.abstraction
kind_meant (Some Application) = Table.application
