-- The answers to the goals of `catching_up::give_loaded`.
use Rattle.std.proofs.Common.{refl}
use Rattle.std.specs.Prelude.{Err, Ok}
use Rattle.lsp_edits.specs.declared.naming.FolderNaming.{FolderNaming}
use Rattle.lsp_service.proofs.Catching.{folder_given}
use Rattle.lsp_service.proofs.catching_up.give_loaded.Goals as goal

pub returns-in-Ok : goal.returns-in-Ok
returns-in-Ok g c =
    let naming : FolderNaming = record c.args.editor.now.naming { prefix = c.args.loaded.prefix } in
    folder_given g.D.RequestDesk.takes_disk g.D.RequestDesk.takes_documents c.files.result.now naming c.args.editor.now c.give_disk.new.editor
    c.args.desk.now c.give_disk.new.desk (Ok tt) refl c.in-Ok.ensures

pub returns : goal.returns
returns g c =
    let naming : FolderNaming = record c.args.editor.now.naming { prefix = c.args.loaded.prefix } in
    folder_given g.D.RequestDesk.takes_disk g.D.RequestDesk.takes_documents c.files.result.now naming c.args.editor.now c.give_disk.new.editor
    c.args.desk.now c.give_disk.new.desk (Err c.in-Err.failure) refl c.in-Err.ensures
