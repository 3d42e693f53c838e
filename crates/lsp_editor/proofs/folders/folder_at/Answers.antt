-- The answers to the goals of `folders::folder_at`.
use Rattle.std.proofs.Common.{Some, ◌≡◌, ◌∙◌, ap, inl, inr, refl}
use Rattle.std.proofs.lemmas.Result.{IfOk-weaker}
use Rattle.lsp_edits.specs.Naming.{owned_text}
use Rattle.lsp_editor.specs.Folders.{IsFolderAt, with_slash}
use Rattle.lsp_editor.proofs.folders.folder_at.Goals as goal

pub returns-in-Ok : goal.returns-in-Ok
returns-in-Ok c =
    IfOk-weaker c.text_folder.result (λ folder. owned_text folder ≡ Some (with_slash c.in-Ok.text.now))
    (λ folder. IsFolderAt c.args.path.now (owned_text folder))
    (λ folder h. inl (c.in-Ok.ensures.cases.1, h ∙ ap (λ path. Some (with_slash path)) c.in-Ok.ensures.cases.0)) c.text_folder.ensures

pub returns-in-Err : goal.returns-in-Err
returns-in-Err c = inr (c.in-Err.ensures.cases.0, refl)
