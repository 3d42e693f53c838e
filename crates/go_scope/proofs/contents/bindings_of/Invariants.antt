-- The invariants of the loops of `contents::bindings_of`.
use Rattle.go_scope.specs.Contents.{AreBindings}
use Rattle.go_scope.specs.Numbering.{numerals}
use Rattle.go_scope.specs.Table.{layout_of}
use Rattle.go_scope.proofs.contents.bindings_of.Given as goal

abbrev pub invariant-loop-u : goal.invariant-loop-u
invariant-loop-u l = AreBindings (layout_of l.identifiers) (numerals l.names) l.u l.found.items
