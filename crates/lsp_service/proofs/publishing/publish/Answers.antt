-- The answers to the goals of `publishing::publish`.
use Rattle.std.proofs.Common.{ap, map, subst}
use Rattle.serde_json.specs.View.{view}
use Rattle.lsp_service.specs.Publishing.{PublishesClosed}
use Rattle.lsp_service.proofs.publishing.publish.Goals as goal

pub returns : goal.returns
returns g c = (
  map view c.publish_closed.new.values.items,
  c.publish_closed.new.editor,
  subst (λ first. PublishesClosed c.args.editor.now first (map view c.publish_closed.new.values.items) c.publish_closed.new.editor)
      (ap (map view) c.new-values.ensures.items) c.in_ok-publish_closed.ensures,
  c.in_ok-publish_open.ensures,
)
