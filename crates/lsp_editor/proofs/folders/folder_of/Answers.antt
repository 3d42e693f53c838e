-- The answers to the goals of `folders::folder_of`.
use Rattle.std.proofs.Common.{Some, inl, inr, refl, subst, sym}
use Rattle.std.proofs.lemmas.Result.{IfOk-weaker}
use Rattle.lsp_documents.specs.Uris.{IsPathIn}
use Rattle.lsp_edits.specs.Naming.{owned_text}
use Rattle.lsp_editor.specs.Folders.{IsFolderAt, IsFolderOf}
use Rattle.lsp_editor.proofs.folders.folder_of.Goals as goal

pub returns-in-Some : goal.returns-in-Some
returns-in-Some c =
    let named = rw c.in-Some.is at c.in_ok-path.ensures in
    let path = c.as_slice.result.now in
    let given = subst (IsPathIn c.args.uri.now) (sym c.as_slice.ensures.value) named in
    IfOk-weaker c.folder_at.result (λ folder. IsFolderAt path (owned_text folder)) (λ folder. IsFolderOf (Some c.args.uri.now) (owned_text folder))
    (λ folder h. inl (path, given, h)) c.folder_at.ensures

pub returns-in-None : goal.returns-in-None
returns-in-None c =
    let none = rw c.in-None.is at c.in_ok-path.ensures in
    inr (none, refl)
