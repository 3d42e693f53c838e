-- The answers to the goals of `import_paths::add_file`.
use Rattle.std.proofs.Common.{sym, subst}
use Rattle.std.proofs.lemmas.Result.{on_ok_weaker}
use Rattle.go_ast.specs.SourceFile.{source_of}
use Rattle.workspace_graph.specs.FileImports.{ListsImports}
use Rattle.workspace_graph.specs.Packages.{ImportsPath}
use Rattle.workspace_graph.specs.ImportPaths.{AnyIsOfPath}
use Rattle.workspace_graph.proofs.ImportedPaths.{adds_as, imports_are}
use Rattle.workspace_graph.proofs.import_paths.add_file.Goals as goal

pub returns : goal.returns
returns c =
    let lists = subst (ListsImports (source_of c.args.file.now)) (sym c.deref.ensures.value) c.in_ok-imports.ensures in
    on_ok_weaker c.add_imports.result (λ q. adds_as (AnyIsOfPath c.deref.result.now) (ImportsPath (source_of c.args.file.now)) c.args.paths.now.keys
    c.add_imports.new.paths.keys (imports_are c.args.file.now c.deref.result.now lists) q) c.add_imports.ensures
