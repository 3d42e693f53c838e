-- The invariants of the loops of `statements::statement`.
use Rattle.std.proofs.Common.{drop, length}
use Rattle.build_object.specs.LineView.{lines_in, Puts}
use Rattle.build_object.specs.SourceView.{source_of}
use Rattle.build_object.specs.ExitsView.{exits_of, lines_of_each}
use Rattle.build_object.proofs.statements.+statement.Given as goal

abbrev pub invariant-each-loop-i : goal.invariant-each-loop-i
invariant-each-loop-i l =
    Puts (lines_of_each (source_of l.scope.source.now) l.scope.slots.now.places.items l.results (exits_of l.marks (length (lines_in l.initial.code)))
    (drop l.i l.list)) l.initial.code l.code
