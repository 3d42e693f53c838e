-- The answers to the goals of `service::heed_method`.
use Rattle.std.proofs.Common.{map}
use Rattle.std.proofs.lemmas.Result.{IfOk-weaker}
use Rattle.std.specs.Global.{Vec}
use Rattle.serde_json.specs.View.{view}
use Rattle.serde_json.specs.declared.value.Value.{Value}
use Rattle.lsp_message.specs.Calls.{viewed}
use Rattle.lsp_service.specs.Serving.{HeedsMethod, PublishesIf}
use Rattle.lsp_service.proofs.service.heed_method.Goals as goal

pub returns : goal.returns
returns g c =
    IfOk-weaker c.publish_if.result
    (λ (told : Vec Value). PublishesIf g.D.RequestDesk.takes_disk g.D.RequestDesk.takes_documents g.D.RequestDesk.differs g.D.RequestDesk.lists
    c.in_ok-changes.changes c.heed.new.editor c.args.desk.now (map view told.items) (c.publish_if.new.editor, c.publish_if.new.desk))
    (λ (told : Vec Value). HeedsMethod g.D.RequestDesk.takes_disk g.D.RequestDesk.takes_documents g.D.RequestDesk.differs g.D.RequestDesk.lists
    (c.args.editor.now, c.args.desk.now) c.args.method.now (viewed c.args.params) (map view told.items) (c.publish_if.new.editor, c.publish_if.new.desk))
    (λ told publishes. (c.in_ok-changes.changes, c.heed.new.editor, c.in_ok-changes.ensures, publishes)) c.publish_if.ensures
