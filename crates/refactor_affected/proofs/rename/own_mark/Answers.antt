-- The folder of the file is the only one that is marked.
use Rattle.std.proofs.Common.{◌≡◌, Bool, Global, [], ◌∷◌, ap, subst, ◌∙◌}
use Rattle.std.specs.Prelude.{IfOk, Vec}
use Rattle.std.proofs.lemmas.Result.{IfOk-weaker}
use Rattle.base_files.specs.Path.{folder}
use Rattle.workspace_graph.specs.Borrows.{names}
use Rattle.build_carry.specs.Changes.{MarkFolders}
use Rattle.refactor_affected.specs.Renames.{IsOwnPath}
use Rattle.refactor_affected.specs.Steps.{MarkPackages}
use Rattle.refactor_affected.proofs.OwnMark.{own_marked}
use Rattle.refactor_affected.proofs.rename.own_mark.Goals as goal

pub returns : goal.returns
returns c =
    let w = c.args.graph.now in
    let file = c.args.file.now in
    let is : names c.deref.result.now ≡ folder file ∷ [] = ap names (c.deref.ensures.value ∙ c.in_ok-own.ensures.items) ∙ ap (λ l. l ∷ []) c.folder.ensures in
    IfOk-weaker c.folder_marks.result (λ (marks : Vec Bool Global). MarkFolders w (folder file ∷ []) marks.items)
    (λ (marks : Vec Bool Global). MarkPackages w (IsOwnPath file) marks.items) (λ marks h. own_marked w file marks.items h)
    (subst (λ fs. IfOk c.folder_marks.result (λ (marks : Vec Bool Global). MarkFolders w fs marks.items)) is c.folder_marks.ensures)
