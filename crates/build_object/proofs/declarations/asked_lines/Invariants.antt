-- The invariants of the loops of `declarations::asked_lines`.
use Rattle.std.proofs.Common.{◌≡◌, ◌++◌, drop, map}
use Rattle.go_ast.specs.View.{list_view}
use Rattle.go_ast.specs.FileView.{method_view}
use Rattle.types_expr.specs.WorldView.{world_of}
use Rattle.build_object.specs.DeclarationsView.{asked_view}
use Rattle.build_object.specs.Objects.{asked_methods}
use Rattle.build_object.specs.SourceView.{source_of}
use Rattle.build_object.proofs.declarations.asked_lines.Given as goal

abbrev pub invariant-loop-method : goal.invariant-loop-method
invariant-loop-method l =
    map asked_view l.lines.items ++ asked_methods (world_of l.source.world) (source_of l.source).asks (list_view method_view (drop l.method-index l.methods))
    ≡ asked_methods (world_of l.source.world) (source_of l.source).asks (list_view method_view l.methods)
