-- Where the log still ends with what was seen, the Job has the inputs of its package in the current files.
use Rattle.history_machine.specs.declared.event.Event.TheVariants.{Deliver}
use Rattle.server_shared.proofs.SeenLaws.{inputs_at_end}
use Rattle.server_shared.proofs.locked.Locked.deliver.Goals as goal

pub deliver_on_current-requires-clause-brings : goal.deliver_on_current-requires-clause-brings
deliver_on_current-requires-clause-brings g c =
    let end = c.is_end.ensures.0 c.if-is_end.true in
    inputs_at_end c.args.seen.now c.args.self.now.files_log.seen c.args.self.now.book.current.files c.args.job c.args.built end.1
    (c.args.self.now.seen end.0) c.requires.brings c.requires.built.inputs
