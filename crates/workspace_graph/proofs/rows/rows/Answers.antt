-- One more row.
use Rattle.std.proofs.Common.{ℕ, List, take, get_or, sym, subst, ◌∷◌, [], ◌++◌}
use Rattle.std.specs.List.{AllZip}
use Rattle.std.proofs.lemmas.List.{take_more}
use Rattle.workspace_graph.specs.Graphs.{paths_of}
use Rattle.workspace_graph.specs.Rows.{IsRow}
use Rattle.workspace_graph.specs.declared.package.ParsedPackage.{ParsedPackage}
use Rattle.workspace_graph.proofs.ImportViews.{zip_push}
use Rattle.workspace_graph.proofs.rows.rows.Goals as goal

pub loop-package-preserved : goal.loop-package-preserved
loop-package-preserved c =
    let all = c.args.packages.now in
    let k = c.loop-package.package-index in
    let item = c.package-item.result in
    let row : List ℕ = c.fill_row.new.row.items in
    let R : ParsedPackage → List ℕ → Type 0 = λ p row. IsRow (paths_of all) p.trees.items row in
    let here : R item row = c.in_ok-fill_row.ensures in
    rw (c.in_ok-add_row.ensures, c.deref.ensures.value)
    (subst (λ ps. AllZip R ps (c.loop-package.rows ++ row ∷ [])) (sym (take_more all k item c.loop-package-test.true))
    (zip_push R (take k all) c.loop-package.rows (get_or all k item) row c.loop-package.invariant (subst (λ p. R p row) c.package-item.is here)))
