-- The answers to the goals of `import_paths::add_imports`.
use Rattle.std.proofs.Common.{◌+◌, ◌∷◌, ◌++◌, [], ap, sym, subst, ◌∙◌, take, arith}
use Rattle.std.proofs.lemmas.List.{take_more, take_all}
use Rattle.base_lemmas.proofs.Elements.{nothing_in}
use Rattle.workspace_graph.specs.declared.file_imports.FileImport.{FileImport}
use Rattle.workspace_graph.specs.ImportPaths.{AddsPaths, AnyIsOfPath, IsPathValue}
use Rattle.workspace_graph.proofs.ImportedPaths.{adds_none, adds_more, some_more}
use Rattle.workspace_graph.proofs.import_paths.add_imports.Goals as goal

pub loop-import-init : goal.loop-import-init
loop-import-init c = adds_none (AnyIsOfPath []) c.args.paths.now.keys (λ q w. nothing_in w.0 w.1.0)

pub loop-import-preserved : goal.loop-import-preserved
loop-import-preserved c =
    let all = c.args.imports.now in
    let k = c.loop-import.import-index in
    adds_more (AnyIsOfPath (take k all)) (IsPathValue c.import-item.result.path) (AnyIsOfPath (take (k + 1) all)) c.args.paths.now.keys
    c.loop-import.paths.keys c.add_import.new.paths.keys
    (some_more (λ (found : FileImport) q. IsPathValue found.path q) (take k all) (take (k + 1) all) c.import-item.result
    (take_more all k c.import-item.result c.loop-import-test.true ∙ ap (λ y. take k all ++ (y ∷ [])) (sym c.import-item.is)))
    c.loop-import.invariant c.in_ok-add_import.ensures

pub returns : goal.returns
returns c = subst (λ es. AddsPaths (AnyIsOfPath es) c.args.paths.now.keys c.loop-import.paths.keys)
    (take_all c.loop-import.import-index c.args.imports.now (omega (arith, c.loop-import-test.false))) c.loop-import.invariant
