-- The answers to the goals of `publishing::publish_open`.
use Rattle.std.proofs.Common.{map}
use Rattle.std.proofs.lemmas.Result.{on_ok_weaker}
use Rattle.lsp_editor.specs.Publications.{publication_view}
use Rattle.lsp_service.proofs.publishing.publish_open.Goals as goal

pub returns : goal.returns
returns g c =
    on_ok_weaker c.tell_publications.result (λ tells. (
      c.is_waiting-waits.result,
      c.is_waiting-waits.new.editor,
      c.is_waiting-waits.new.desk,
      c.tell_unless.new.editor,
      map publication_view c.in_ok-told.told.items,
      c.is_waiting-waits.ensures,
      c.in_ok-told.ensures,
      tells,
    )) c.tell_publications.ensures
