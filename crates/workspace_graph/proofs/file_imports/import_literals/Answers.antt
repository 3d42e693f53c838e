-- All declarations were passed.
use Rattle.std.proofs.Common.{ap, ◌∙◌, arith}
use Rattle.std.specs.List.{flat_map}
use Rattle.std.proofs.lemmas.List.{take_all}
use Rattle.go_ast.specs.View.{group_view}
use Rattle.go_ast.specs.FileView.{import_view}
use Rattle.workspace_graph.specs.FileImports.{paths_in}
use Rattle.workspace_graph.proofs.ImportViews.{file_paths}
use Rattle.workspace_graph.proofs.file_imports.import_literals.Goals as goal

pub returns : goal.returns
returns c =
    c.loop-decl.invariant
    ∙ (ap (λ decls. flat_map (λ decl. paths_in (group_view import_view decl.group)) decls)
    (take_all c.loop-decl.decl-index c.deref-decl-items.result.now (omega (arith, c.loop-decl-test.false)) ∙ c.deref-decl-items.ensures.value)
    ∙ file_paths c.args.file.now)
