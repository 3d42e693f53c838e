-- Where the log still ends with what was seen, the change's base has the current files.
use Rattle.history_machine.specs.Step.{done}
use Rattle.history_machine.specs.declared.event.Event.TheVariants.{Commit}
use Rattle.server_shared.proofs.SeenLaws.{state_at_end}
use Rattle.server_shared.proofs.StepLaws.{kept_step_of}
use Rattle.server_shared.proofs.locked.Locked.commit.Goals as goal

pub commit_with_room-requires-clause-base : goal.commit_with_room-requires-clause-base
commit_with_room-requires-clause-base g c =
    let end = c.is_end.ensures.0 c.if-is_end.true in
    state_at_end c.args.seen.now c.args.self.now.files_log.seen c.args.self.now.book.current.files c.args.change.base end.1 (c.args.self.now.seen end.0)
    c.requires.sees

pub returns-then-is_end-clause-step : goal.returns-then-is_end-clause-step
returns-then-is_end-clause-step g c =
    kept_step_of g.L.Opening.most _ c.args.self.now.book (Commit c.args.basis c.args.change) (done c.commit_with_room.result.0) c.commit_with_room.result.1
    c.commit_with_room.new.self.book c.args.self.now.most_is c.commit_with_room.ensures.step
