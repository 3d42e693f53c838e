-- The answers to the goals of `publishing::tell_open`.
use Rattle.std.proofs.Common.{ap, map, refl, subst}
use Rattle.std.proofs.lemmas.Result.{IfOk-weaker}
use Rattle.std.specs.Global.{Vec}
use Rattle.std.specs.Prelude.{Err, Ok}
use Rattle.lsp_editor.specs.Publications.{publication_view}
use Rattle.lsp_editor.specs.declared.publications.Publication.{Publication}
use Rattle.lsp_service.specs.Catching.{CatchesUpBy, all_done}
use Rattle.lsp_service.specs.Publishing.{PublishesAfter, ThenPublishes}
use Rattle.lsp_service.proofs.publishing.tell_open.Goals as goal

pub returns-in-Ok : goal.returns-in-Ok
returns-in-Ok g c =
    let caught = c.catch_up_by.new.editor in
    let between = c.catch_up_by.new.desk in
    IfOk-weaker c.tell_found.result
    (λ (told : Vec Publication). ThenPublishes g.D.RequestDesk.lists all_done caught between (map publication_view told.items) c.tell_found.new.desk)
    (λ (told : Vec Publication). PublishesAfter g.D.RequestDesk.takes_disk g.D.RequestDesk.takes_documents g.D.RequestDesk.lists c.args.editor.now
    c.args.desk.now (map publication_view told.items) caught c.tell_found.new.desk)
    (λ told publishes. (
      Ok tt,
      between,
      subst (λ by_documents. CatchesUpBy g.D.RequestDesk.takes_disk g.D.RequestDesk.takes_documents by_documents c.args.editor.now c.args.desk.now
          (Ok tt) caught between) c.is_awaiting-by_documents.ensures c.in-Ok.ensures,
      publishes,
    )) c.tell_found.ensures

pub returns-in-Err : goal.returns-in-Err
returns-in-Err g c = (
  Err c.in-Err.failure,
  c.catch_up_by.new.desk,
  subst (λ by_documents. CatchesUpBy g.D.RequestDesk.takes_disk g.D.RequestDesk.takes_documents by_documents c.args.editor.now c.args.desk.now
      (Err c.in-Err.failure) c.catch_up_by.new.editor c.catch_up_by.new.desk) c.is_awaiting-by_documents.ensures c.in-Err.ensures,
  (ap (map publication_view) c.new.ensures.items, refl),
)
