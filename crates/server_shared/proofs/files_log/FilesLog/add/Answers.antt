-- What is added is the last version.
use Rattle.server_shared.proofs.SeenLaws.{added_last}
use Rattle.server_shared.proofs.files_log.FilesLog.add.Goals as goal

pub returns-then-has_room : goal.returns-then-has_room
returns-then-has_room g c = added_last c.add-self.result c.args.self.now.seen c.add-self.new.self c.args.files.now _ c.add-self.ensures
