-- Where the log still ends with what was seen, the files are the current ones.
use Rattle.std.proofs.Common.{◌∙◌, sym}
use Rattle.server_shared.proofs.SeenLaws.{state_at_end}
use Rattle.server_shared.proofs.locked.Locked.known_units.Goals as goal

pub returns-then-is_end : goal.returns-then-is_end
returns-then-is_end g c =
    let end = c.is_end.ensures.0 c.if-is_end.true in
    let book = c.args.self.now.book in
    c.in-Ok.ensures ∙ sym (state_at_end c.args.seen.now c.args.self.now.files_log.seen book.current.files c.args.files.now end.1 (c.args.self.now.seen end.0)
    c.requires)
