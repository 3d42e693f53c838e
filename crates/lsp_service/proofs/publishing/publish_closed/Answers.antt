-- The answers to the goals of `publishing::publish_closed`.
use Rattle.std.proofs.Common.{map}
use Rattle.std.proofs.lemmas.Result.{on_ok_weaker}
use Rattle.lsp_editor.specs.Publications.{publication_view}
use Rattle.lsp_service.proofs.publishing.publish_closed.Goals as goal

pub returns : goal.returns
returns c =
    on_ok_weaker c.tell_publications.result (λ tells. (map publication_view c.in_ok-told.told.items, c.in_ok-told.ensures, tells))
    c.tell_publications.ensures
