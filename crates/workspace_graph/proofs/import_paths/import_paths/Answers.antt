-- One more file, and all of them at the end.
use Rattle.std.proofs.Common.{◌+◌, ◌∷◌, ◌++◌, [], ap, sym, subst, ◌∙◌, take, arith}
use Rattle.std.proofs.lemmas.List.{take_more, take_all}
use Rattle.base_lemmas.proofs.Elements.{nothing_in}
use Rattle.go_ast.specs.SourceFile.{FileParts, source_of}
use Rattle.workspace_graph.specs.Packages.{ImportsPath}
use Rattle.workspace_graph.specs.ImportPaths.{ListsPaths, AnyImports}
use Rattle.workspace_graph.proofs.ImportedPaths.{holds_none, holds_more, some_more}
use Rattle.workspace_graph.proofs.import_paths.import_paths.Goals as goal

pub loop-file-init : goal.loop-file-init
loop-file-init c = holds_none (AnyImports []) c.new-paths.result.keys c.new-paths.ensures.empty (λ q w. nothing_in w.0 w.1.0)

pub loop-file-preserved : goal.loop-file-preserved
loop-file-preserved c =
    let all = c.args.files.now in
    let k = c.loop-file.file-index in
    holds_more (AnyImports (take k all)) (ImportsPath (source_of c.file-item.result)) (AnyImports (take (k + 1) all)) c.loop-file.paths.keys
    c.add_file.new.paths.keys
    (some_more (λ (f : FileParts) q. ImportsPath (source_of f) q) (take k all) (take (k + 1) all) c.file-item.result
    (take_more all k c.file-item.result c.loop-file-test.true ∙ ap (λ y. take k all ++ (y ∷ [])) (sym c.file-item.is)))
    c.loop-file.invariant c.in_ok-add_file.ensures

pub returns : goal.returns
returns c = subst (λ fs. ListsPaths (AnyImports fs) c.loop-file.paths.keys)
    (take_all c.loop-file.file-index c.args.files.now (omega (arith, c.loop-file-test.false))) c.loop-file.invariant
