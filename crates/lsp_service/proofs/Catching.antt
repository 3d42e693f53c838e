-- A desk that gets texts.
use Rattle.std.proofs.Common.{◌≡◌, Bool, inl, inr, refl}
use Rattle.std.specs.Prelude.{Result, Err}
use Rattle.base_files.specs.Workspace.{Workspace}
use Rattle.base_files.specs.declared.refusal.Refusal.{Refusal}
use Rattle.lsp_documents.specs.declared.documents.Documents.{Documents}
use Rattle.lsp_edits.specs.declared.naming.FolderNaming.{FolderNaming}
use Rattle.lsp_editor.specs.declared.editor.Editor.{Editor}
use Rattle.lsp_service.specs.Catching.{CatchesUp, Done, GivesDisk, ReadsFolder, ReadsIf, ThenGives, fresh_if}
use Rattle.lsp_service.specs.declared.failure.Failure.{Failure}

module _ {D : Type 0} (takes_disk : D → Documents → Workspace → Result Bool Refusal → D → Type 0)
    (takes_documents : D → Documents → Result Bool Refusal → D → Type 0) where
  -- the files that were read are given
  pub folder_given : (disk : Workspace) (naming : FolderNaming) (old mid : Editor) (desk after : D) (came : Done) → naming.root ≡ old.naming.root
      → GivesDisk takes_disk takes_documents disk (record old { naming = naming }) desk came mid after
      → ReadsFolder takes_disk takes_documents old desk came (fresh_if came mid) after
  folder_given disk naming old mid desk after came root given = inr (disk, naming, mid, root, given, refl)

  -- the folder cannot be read
  pub folder_unread : (old : Editor) (desk : D) (failed : Failure) → ReadsFolder takes_disk takes_documents old desk (Err failed) old desk
  folder_unread old desk failed = inl (failed, refl, refl, refl)

  -- the documents are given behind the folder
  pub caught_up : (old mid new : Editor) (desk between after : D) (read came : Done)
      → ReadsIf takes_disk takes_documents old.is_stale old desk read mid between
      → ThenGives takes_disk takes_documents read mid between came new after → CatchesUp takes_disk takes_documents old desk came new after
  caught_up old mid new desk between after read came first behind = (read, mid, between, first, behind)
