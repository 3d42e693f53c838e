-- The invariants of the loops of `names::add_asked_names`.
use Rattle.std.proofs.Common.{◌≡◌, ◌++◌, drop, map}
use Rattle.go_ast.specs.View.{list_view}
use Rattle.go_ast.specs.FileView.{method_view}
use Rattle.go_ast.specs.SourceFile.{source_of}
use Rattle.build_object.specs.LineView.{global_of}
use Rattle.build_object.specs.Names.{asked_names_of}
use Rattle.build_object.specs.SourceView.{asked_of}
use Rattle.build_object.proofs.names.add_asked_names.Given as goal

abbrev pub invariant-loop-method : goal.invariant-loop-method
invariant-loop-method l =
    map asked_of l.asked.items ++ asked_names_of (global_of l.of) (map source_of l.files) l.file (list_view method_view (drop l.method-index l.methods))
    ≡ map asked_of l.initial.asked.items ++ asked_names_of (global_of l.of) (map source_of l.files) l.file (list_view method_view l.methods)
