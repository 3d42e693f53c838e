-- One more import, and all of them at the end.
use Rattle.std.proofs.Common.{List, ◌+◌, ◌∷◌, ◌++◌, [], ⊎_elim, ap, sym, subst, ◌∙◌, take, arith}
use Rattle.std.proofs.lemmas.List.{take_more, take_all}
use Rattle.workspace_graph.specs.Drafts.{Survive}
use Rattle.workspace_graph.specs.ImportPaths.{AnyIsOfPath, IsPathValue}
use Rattle.workspace_graph.specs.declared.file_imports.FileImport.{FileImport}
use Rattle.workspace_graph.proofs.ImportedPaths.{some_more}
use Rattle.workspace_graph.proofs.renewed_imports.are_kept.Goals as goal

pub loop-import-preserved : goal.loop-import-preserved
loop-import-preserved c =
    let all = c.args.gone.now in
    let k = c.loop-import.import-index in
    let one = c.import-item.result in
    let more = some_more (λ (found : FileImport) q. IsPathValue found.path q) (take k all) (take (k + 1) all) one
    (take_more all k one c.loop-import-test.true ∙ ap (λ y. take k all ++ (y ∷ [])) (sym c.import-item.is)) in
    λ q some. ⊎_elim (c.loop-import.invariant q) (c.in_ok-is_kept.ensures c.if-not-branch.false q) ((more q).0 some)

pub returns : goal.returns
returns c = λ _. subst (λ (l : List FileImport). Survive (AnyIsOfPath l) c.args.come.now c.args.files.now)
    (take_all c.loop-import.import-index c.args.gone.now (omega (arith, c.loop-import-test.false))) c.loop-import.invariant
