-- The invariants of the loops of `simple::targets`.
use Rattle.std.proofs.Common.{drop}
use Rattle.go_ast.specs.View.{exprs_view}
use Rattle.build_object.specs.LineView.{Puts}
use Rattle.build_object.specs.SourceView.{source_of}
use Rattle.build_object.specs.Statements.{targets_of}
use Rattle.build_object.proofs.simple.targets.Given as goal

abbrev pub invariant-loop-i : goal.invariant-loop-i
invariant-loop-i l = Puts (targets_of (source_of l.scope.source.now) l.scope.slots.now.places.items (exprs_view (drop l.i l.left))) l.initial.code l.code
