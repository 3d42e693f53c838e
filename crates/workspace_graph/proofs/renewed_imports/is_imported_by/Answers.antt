-- The file that was found imports the path.
use Rattle.std.proofs.Common.{sym, subst}
use Rattle.go_ast.specs.SourceFile.{source_of}
use Rattle.workspace_graph.specs.FileImports.{ListsImports}
use Rattle.workspace_graph.proofs.ImportedPaths.{imports_are}
use Rattle.workspace_graph.proofs.renewed_imports.is_imported_by.Goals as goal

pub returns-then-is_imported : goal.returns-then-is_imported
returns-then-is_imported c =
    let file = c.file-item.result in
    let lists = subst (ListsImports (source_of file)) (sym c.deref.ensures.value) c.in_ok-imports.ensures in
    λ _. (
      file,
      (
        (c.loop-file.file-index, c.loop-file-test.true, sym c.file-item.is),
        (imports_are file c.deref.result.now lists c.args.path.now).1 (c.is_imported.ensures c.if-is_imported.true),
      ),
    )
