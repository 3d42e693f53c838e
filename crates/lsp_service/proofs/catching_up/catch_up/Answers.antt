-- The answers to the goals of `catching_up::catch_up`.
use Rattle.std.proofs.Common.{refl}
use Rattle.std.specs.Prelude.{Err, Ok}
use Rattle.lsp_service.proofs.Catching.{caught_up}
use Rattle.lsp_service.proofs.catching_up.catch_up.Goals as goal

pub returns-in-Ok : goal.returns-in-Ok
returns-in-Ok g c =
    caught_up g.D.RequestDesk.takes_disk g.D.RequestDesk.takes_documents c.args.editor.now c.read_if_stale.new.editor c.give_and_settle.new.editor
    c.args.desk.now c.read_if_stale.new.desk c.give_and_settle.new.desk (Ok tt) c.give_and_settle.result c.in-Ok.ensures c.give_and_settle.ensures

pub returns-in-Err : goal.returns-in-Err
returns-in-Err g c =
    caught_up g.D.RequestDesk.takes_disk g.D.RequestDesk.takes_documents c.args.editor.now c.read_if_stale.new.editor c.read_if_stale.new.editor
    c.args.desk.now c.read_if_stale.new.desk c.read_if_stale.new.desk (Err c.in-Err.failure) (Err c.in-Err.failure) c.in-Err.ensures
    (refl, refl, refl)
