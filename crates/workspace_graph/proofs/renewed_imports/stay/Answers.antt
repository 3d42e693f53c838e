-- What came is among the paths, and what is gone is imported still.
use Rattle.std.proofs.Common.{IsTrue}
use Rattle.std.specs.Option.{option_copied}
use Rattle.std.proofs.lemmas.Result.{IfOk-weaker}
use Rattle.workspace_graph.specs.Drafts.{Survive, GoneImports}
use Rattle.workspace_graph.specs.ImportPaths.{ListsPaths, AnyImports}
use Rattle.workspace_graph.proofs.RenewedImports.{stay_imported}
use Rattle.workspace_graph.proofs.renewed_imports.stay.Goals as goal

pub returns : goal.returns
returns c =
    let keys = c.args.change.imports.now.keys in
    let gone = option_copied c.args.change.gone in
    let come = c.args.change.come.now in
    let files = c.args.change.files.now in
    IfOk-weaker c.keep_imports.result (λ kept. IsTrue kept → Survive (GoneImports gone) come files) (λ stay. IsTrue stay → ListsPaths (AnyImports files) keys)
    (λ kept are yes. stay_imported keys gone come files c.requires (c.are_among.ensures c.if-not-are_among.false) (are yes)) c.keep_imports.ensures
