-- The answers to the goals of `catching_up::catch_up_for`.
use Rattle.std.proofs.Common.{subst}
use Rattle.lsp_service.specs.Catching.{CatchesUpBy}
use Rattle.lsp_service.proofs.catching_up.catch_up_for.Goals as goal

pub returns : goal.returns
returns g c =
    subst (λ by_documents. CatchesUpBy g.D.RequestDesk.takes_disk g.D.RequestDesk.takes_documents by_documents c.args.editor.now c.args.desk.now
    c.catch_up_by.result c.catch_up_by.new.editor c.catch_up_by.new.desk) c.needs_documents-by_documents.ensures c.catch_up_by.ensures
