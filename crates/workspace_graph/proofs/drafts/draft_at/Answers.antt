-- The package that is there, or none.
use Rattle.std.proofs.Common.{length, refl}
use Rattle.std.proofs.lemmas.Option.{slice_get_read}
use Rattle.std.proofs.lemmas.Result.{IfOk-weaker}
use Rattle.workspace_graph.specs.Drafts.{IsDraftAt, IsEmptyAt}
use Rattle.workspace_graph.proofs.Filled.{ok_both}
use Rattle.workspace_graph.proofs.SetFiles.{kept_at, none_at}
use Rattle.workspace_graph.proofs.Numbers.{path_of_package}
use Rattle.workspace_graph.proofs.UpdatedPackages.{number_within}
use Rattle.workspace_graph.proofs.drafts.draft_at.Goals as goal

pub returns-in-Some : goal.returns-in-Some
returns-in-Some c =
    let before = c.args.before.now in
    let folder = c.args.folder.now in
    let n = c.in-Some.number in
    let p = c.index-before-number.result in
    let at = slice_get_read before (length before) n p refl (number_within path_of_package before n folder c.in-Some.ensures) c.index-before-number.is in
    ok_both c.to_draft.result (λ d draft same. kept_at before folder n p d c.in-Some.ensures at draft same) c.to_draft.ensures.draft c.to_draft.ensures.package

pub returns-in-None : goal.returns-in-None
returns-in-None c = IfOk-weaker c.empty_package.result (IsEmptyAt c.args.folder.now) (IsDraftAt c.args.before.now c.args.folder.now)
    (λ d empty. none_at c.args.before.now c.args.folder.now d c.in-None.ensures empty) c.empty_package.ensures
