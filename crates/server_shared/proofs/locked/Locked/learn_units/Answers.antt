-- Where the log still ends with what was seen, the files are the current ones.
use Rattle.server_shared.proofs.SeenLaws.{state_at_end}
use Rattle.server_shared.proofs.locked.Locked.learn_units.Goals as goal

pub learn_current_units-requires : goal.learn_current_units-requires
learn_current_units-requires g c =
    let end = c.is_end.ensures.0 c.if-is_end.true in
    state_at_end c.args.seen.now c.args.self.now.files_log.seen c.args.self.now.book.current.files c.args.units end.1 (c.args.self.now.seen end.0)
    c.requires
