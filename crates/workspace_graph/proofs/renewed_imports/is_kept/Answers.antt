-- The import has the path that one of the files imports.
use Rattle.std.proofs.Common.{IsTrue, inr, subst, ◌∙◌, Global, ℕ}
use Rattle.std.specs.Prelude.{Option, Vec}
use Rattle.std.proofs.lemmas.Result.{IfOk-weaker}
use Rattle.workspace_graph.specs.Drafts.{Survive}
use Rattle.workspace_graph.specs.ImportPaths.{AnyImports, IsPathValue}
use Rattle.workspace_graph.proofs.renewed_imports.is_kept.Goals as goal

pub returns : goal.returns
returns c =
    let files = c.args.files.now in
    IfOk-weaker c.is_imported_by.result (λ is. IsTrue is → AnyImports files c.deref.result.now)
    (λ kept. IsTrue kept → Survive (IsPathValue c.args.import.now.path) c.args.come.now files)
    (λ is some yes q stands. inr (subst (AnyImports files)
    (c.deref.ensures.value ∙ subst (λ (o : Option (Vec ℕ Global)). IsPathValue o q) c.in-Some.is stands) (some yes)))
    c.is_imported_by.ensures
