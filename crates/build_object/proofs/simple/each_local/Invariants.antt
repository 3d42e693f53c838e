-- The invariants of the loops of `simple::each_local`.
use Rattle.std.proofs.Common.{drop}
use Rattle.std.specs.List.{flat_map}
use Rattle.go_ast.specs.View.{list_view}
use Rattle.go_ast.specs.FileView.{local_view}
use Rattle.build_object.specs.LineView.{Puts}
use Rattle.build_object.specs.SourceView.{source_of}
use Rattle.build_object.specs.Statements.{local_lines}
use Rattle.build_object.proofs.simple.each_local.Given as goal

abbrev pub invariant-loop-i : goal.invariant-loop-i
invariant-loop-i l = Puts (flat_map (λ i. local_lines (source_of l.scope.source.now) l.scope.slots.now.places.items i.value)
    (list_view local_view (drop l.i l.items))) l.initial.code l.code
