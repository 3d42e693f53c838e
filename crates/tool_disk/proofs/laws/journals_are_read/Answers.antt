-- Journals are read as they were written.
use Rattle.tool_disk.proofs.RunJournals.{journals_read}
use Rattle.tool_disk.proofs.laws.journals_are_read.Goals as goal

pub returns : goal.returns
returns c = journals_read
