-- The literals of the declarations that were passed.
use Rattle.std.proofs.Common.{◌≡◌, take}
use Rattle.std.specs.List.{flat_map}
use Rattle.go_ast.specs.View.{group_view}
use Rattle.go_ast.specs.FileView.{import_view}
use Rattle.workspace_graph.specs.FileImports.{paths_in}
use Rattle.workspace_graph.proofs.file_imports.import_literals.Given as goal

abbrev pub invariant-loop-decl : goal.invariant-loop-decl
invariant-loop-decl l = l.literals.items ≡ flat_map (λ decl. paths_in (group_view import_view decl.group)) (take l.decl-index l.decl-items)
