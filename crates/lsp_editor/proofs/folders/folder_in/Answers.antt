-- The answers to the goals of `folders::folder_in`.
use Rattle.std.proofs.Common.{ℕ, IfOk, List, None, Option, refl, subst}
use Rattle.lsp_edits.specs.Naming.{owned_text}
use Rattle.lsp_editor.specs.Folders.{IsFolderOf}
use Rattle.lsp_editor.proofs.folders.folder_in.Goals as goal

pub returns-in-Some : goal.returns-in-Some
returns-in-Some c =
    subst (λ (uri : Option (List ℕ)). IfOk c.folder_of.result (λ folder. IsFolderOf uri (owned_text folder))) c.in-Some.ensures c.folder_of.ensures

pub returns-in-None : goal.returns-in-None
returns-in-None c = subst (λ (uri : Option (List ℕ)). IsFolderOf uri None) c.in-None.ensures refl
