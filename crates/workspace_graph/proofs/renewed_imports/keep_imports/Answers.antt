-- What the file imports is among what was read of it.
use Rattle.std.proofs.Common.{IsTrue, ap, sym, subst}
use Rattle.std.specs.Option.{option_copied}
use Rattle.std.proofs.lemmas.Result.{IfOk-weaker}
use Rattle.go_ast.specs.SourceFile.{source_of}
use Rattle.workspace_graph.specs.Drafts.{Survive, GoneImports}
use Rattle.workspace_graph.specs.FileImports.{ListsImports}
use Rattle.workspace_graph.specs.ImportPaths.{AnyIsOfPath}
use Rattle.workspace_graph.proofs.ImportedPaths.{imports_are}
use Rattle.workspace_graph.proofs.renewed_imports.keep_imports.Goals as goal

pub returns-in_ok-lost-in-Some : goal.returns-in_ok-lost-in-Some
returns-in_ok-lost-in-Some c =
    let file = c.in-Some.gone.now in
    let lost = c.deref.result.now in
    let come = c.args.come.now in
    let files = c.args.files.now in
    let lists = subst (ListsImports (source_of file)) (sym c.deref.ensures.value) c.in_ok-lost-in-Some.ensures in
    IfOk-weaker c.are_kept.result (λ kept. IsTrue kept → Survive (AnyIsOfPath lost) come files)
    (λ kept. IsTrue kept → Survive (GoneImports (option_copied c.args.gone)) come files)
    (λ kept are yes q imports. are yes q ((imports_are file lost lists q).0 (subst (λ o. GoneImports o q) (ap option_copied c.in-Some.is) imports)))
    c.are_kept.ensures
