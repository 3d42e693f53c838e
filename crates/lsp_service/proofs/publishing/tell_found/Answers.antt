-- The answers to the goals of `publishing::tell_found`.
use Rattle.std.proofs.Common.{ap, map, subst}
use Rattle.std.proofs.lemmas.Result.{IfOk-weaker}
use Rattle.std.specs.Global.{Vec}
use Rattle.std.specs.Prelude.{Err, Ok}
use Rattle.lsp_editor.specs.Publications.{publication_view}
use Rattle.lsp_editor.specs.declared.publications.Publication.{Publication}
use Rattle.lsp_service.specs.Catching.{all_done}
use Rattle.lsp_service.specs.Publishing.{AreToldOpen, ThenPublishes}
use Rattle.lsp_service.proofs.publishing.tell_found.Goals as goal

pub returns-in-Ok : goal.returns-in-Ok
returns-in-Ok g c =
    IfOk-weaker c.tell_documents.result
    (λ (told : Vec Publication). AreToldOpen c.args.editor.now c.as_slice.result.now (map publication_view told.items))
    (λ (told : Vec Publication). ThenPublishes g.D.RequestDesk.lists all_done c.args.editor.now c.args.desk.now (map publication_view told.items)
    c.faults.new.self)
    (λ told are. (
      Ok c.in-Ok.found.items,
      c.in-Ok.ensures,
      subst (λ found. AreToldOpen c.args.editor.now found (map publication_view told.items)) c.as_slice.ensures.value are,
    )) c.tell_documents.ensures

pub returns-in-Err : goal.returns-in-Err
returns-in-Err g c = (Err c.in-Err.refusal, c.in-Err.ensures, ap (map publication_view) c.new.ensures.items)
